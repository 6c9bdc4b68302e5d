-- Words of private clauses: looks for what a primitive searches.
use Rattle.std.specs.Prelude.{ℕ, ◌≡◌, ◌<◌, List, length, get_or}
use Rattle.sno_pattern.specs.declared.looks.Run.{Run}
use Rattle.sno_value.specs.declared.kind.PrimitiveKind.TheVariants.{BreakX}
use Rattle.sno_pattern.specs.Pattern.{Pattern, Bal, Leaf, Among}
use Rattle.sno_pattern.specs.Compared.{Compared}
use Rattle.sno_pattern.specs.Looks.{Found}

abbrev pub found_of : List Run → List Run → ℕ → List ℕ → List (List (List ℕ)) → Compared → Found
found_of runs more turn first_ends present compared =
    record { runs = runs; more = more; turn = turn; first_ends = first_ends; present = present; compared = compared }

-- the runs are told of subjects before this one
pub record AreEarlier (turn : ℕ) (runs : List Run) : Type 0 where
  pub each : (place : ℕ) (other : Run) → place < length runs → (get_or runs place other).turn < turn

-- there are 32 runs, which are told of subjects before this one
pub record AreBefore (turn : ℕ) (runs : List Run) : Type 0 where
  pub places : length runs ≡ 32
  pub earlier : AreEarlier turn runs

-- the runs have no cursor and are told of no subject
pub record HaveNoCursor (runs : List Run) : Type 0 where
  pub each : (place : ℕ) (other : Run) → place < length runs → (get_or runs place other).until < (get_or runs place other).from
  pub turn : (place : ℕ) (other : Run) → place < length runs → (get_or runs place other).turn ≡ 0

-- a pattern that is BREAKX
abbrev pub StopsOften : Pattern → Type 0
StopsOften pattern = (set : List ℕ) × (pattern ≡ Leaf (Among BreakX set))

-- a pattern that is BAL
abbrev pub IsBal : Pattern → Type 0
IsBal pattern = pattern ≡ Leaf Bal
