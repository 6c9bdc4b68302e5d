-- How far texts agreed with the subject, and where the subject repeats itself.
use Rattle.std.specs.Prelude.{ℕ, ◌≡◌, ◌<◌, ◌≤◌, ◌+◌, List, drop, length, get_or}
use Rattle.sno_pattern.specs.declared.comparisons.Comparison.{Comparison}
use Rattle.sno_pattern.specs.declared.comparisons.Period.{Period}
use Rattle.sno_pattern.specs.Agreement.{Agree}
use Rattle.sno_pattern.specs.Pattern.{Leaf, Text}
use Rattle.sno_pattern.specs.Table.{Node, tree}

-- from the cursor the text of the node agrees with the subject for so many bytes, where these are some
pub record IsTrueComparison (nodes : List Node) (s : List ℕ) (comparison : Comparison) : Type 0 where
  pub known : 0 < comparison.count → comparison.id.0 < length nodes
  pub agrees : 0 < comparison.count → (text : List ℕ) → tree nodes comparison.id.0 ≡ Leaf (Text text)
      → Agree text (drop comparison.cursor s) comparison.count

-- each byte of the range stands at the distance once more
pub record IsTruePeriod (s : List ℕ) (period : Period) : Type 0 where
  pub within : period.from < period.until → period.until + period.distance ≤ length s
  pub same : (c : ℕ) → period.from ≤ c → c < period.until → get_or s c 0 ≡ get_or s (c + period.distance) 0

pub record ArePeriods (s : List ℕ) (periods : List Period) : Type 0 where
  pub each : (place : ℕ) (other : Period) → place < length periods → IsTruePeriod s (get_or periods place other)

pub record AreComparisons (nodes : List Node) (s : List ℕ) (texts : List Comparison) : Type 0 where
  pub each : (place : ℕ) (other : Comparison) → place < length texts → IsTrueComparison nodes s (get_or texts place other)

-- what comparisons have found out: how far texts agreed, and periods of the subject
pub record Compared : Type 0 where
  pub texts : List Comparison
  pub periods : List Period

pub record AreCompared (nodes : List Node) (s : List ℕ) (compared : Compared) : Type 0 where
  pub texts : AreComparisons nodes s compared.texts
  pub periods : ArePeriods s compared.periods
