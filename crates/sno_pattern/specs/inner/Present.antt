-- Words of private clauses: parts of a subject in which no byte passes.
use Rattle.std.specs.Prelude.{ℕ, ◌≡◌, ◌<◌, ◌≤◌, ◌/◌, Bool, true, false, List, [], length, get_or}
use Rattle.sno_pattern.specs.Ends.{is_in}
use Rattle.sno_pattern.specs.Present.{part_of}
use Rattle.sno_pattern.specs.inner.Lanes.{passes}
use Rattle.sno_pattern.specs.Masks.{members}

-- no byte of a mask passes
abbrev pub NonePasses : Bool → List ℕ → List ℕ → Type 0
NonePasses inside set mask = (b : ℕ) → is_in (members mask) b ≡ true → passes inside set b ≡ false

-- no byte of the subject passes from one part of a level up to another
abbrev pub ArePassed : Bool → List ℕ → List ℕ → ℕ → ℕ → ℕ → Type 0
ArePassed inside set s level from until =
    (c : ℕ) → c < length s → from ≤ part_of level c → part_of level c < until → passes inside set (get_or s c 0) ≡ false

-- what is present in each of the first parts of a level is present in one of eight parts of the level above
pub record IsAboveUpTo (count : ℕ) (masks above : List (List ℕ)) : Type 0 where
  pub within : (part : ℕ) → part < length masks → part / 8 < length above
  pub has : (part b : ℕ) → part < count → is_in (members (get_or masks part [])) b ≡ true → is_in (members (get_or above (part / 8) [])) b ≡ true

-- the same of all parts
abbrev pub IsAbove : List (List ℕ) → List (List ℕ) → Type 0
IsAbove masks above = IsAboveUpTo (length masks) masks above
