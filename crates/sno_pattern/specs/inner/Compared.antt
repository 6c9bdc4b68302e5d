-- Words of private clauses: comparisons of texts.
use Rattle.std.specs.Prelude.{ℕ, ◌≡◌, ◌<◌, List, [], length, get_or}
use Rattle.sno_pattern.specs.declared.comparisons.Comparison.{Comparison}
use Rattle.sno_pattern.specs.declared.comparisons.Period.{Period}
use Rattle.sno_pattern.specs.Compared.{Compared}

abbrev pub none_compared : Compared
none_compared = record { texts = []; periods = [] }

-- no byte of any text agreed
pub record HaveNoText (texts : List Comparison) : Type 0 where
  pub each : (place : ℕ) (other : Comparison) → place < length texts → (get_or texts place other).count ≡ 0

-- each period has no byte
pub record HaveNoByte (periods : List Period) : Type 0 where
  pub each : (place : ℕ) (other : Period) → place < length periods → (get_or periods place other).until ≡ 0
