-- The next place at which a pattern has an end.
use Rattle.std.specs.Prelude.{ℕ, ◌≡◌, ◌<◌, ◌≤◌, ◌+◌, Bool, true, false, List, slice_get, Some}
use Rattle.std.specs.Option.{is_some}
use Rattle.sno_value.specs.declared.kind.PrimitiveKind.TheVariants.{Any}
use Rattle.sno_pattern.specs.Pattern.{Pattern, Among, Leaf, Alt, Cat, Cond, Imm}
use Rattle.sno_pattern.specs.Ends.{is_in, ends}
use Rattle.sno_pattern.specs.Shape.{end_of}

-- the first place from one up to another at which a test holds, or the other where it holds at none of them
pub record IsFirstPlace (test : ℕ → Bool) (from until place : ℕ) : Type 0 where
  pub behind : from ≤ place
  pub before : place ≤ until
  pub none : (c : ℕ) → from ≤ c → c < place → test c ≡ false
  pub found : place < until → test place ≡ true

-- whether a primitive pattern has an end from a cursor
abbrev pub has_end : Pattern → List ℕ → ℕ → Bool
has_end pattern s c = is_some (end_of pattern s c 0)

-- whether a byte of a set stands at a place
abbrev pub stands_at : List ℕ → List ℕ → ℕ → Bool
stands_at set s c = is_some (slice_get (ends (Among Any set) s c) 0)

-- each byte of the one set is in the other
pub record IsAmong (set other : List ℕ) : Type 0 where
  pub among : (b : ℕ) → is_in other b ≡ false → is_in set b ≡ false

-- a primitive pattern begins with a byte of the set: it has no end where none of them stands
pub record BeginsAmong (pattern : Pattern) (set : List ℕ) : Type 0 where
  pub fails : (s : List ℕ) (c : ℕ) → stands_at set s c ≡ false → has_end pattern s c ≡ false

-- a primitive pattern has an end only where this byte stands
abbrev pub BeginsWithByte : Pattern → ℕ → Type 0
BeginsWithByte pattern byte = (s : List ℕ) (c : ℕ) → has_end pattern s c ≡ true → slice_get s c ≡ Some byte

-- a pattern begins with a byte of the set behind heads and choices: where none stands its search takes so many steps in vain
abbrev pub BeginsWith : List ℕ → ℕ → Pattern → Type 0
BeginsWith set steps (Leaf a) = (steps ≡ 1) × BeginsAmong (Leaf a) set
BeginsWith set steps (Alt p q) =
    (before : ℕ) × (behind : ℕ) × (steps ≡ before + behind + 2) × BeginsWith set before p × BeginsWith set behind q
BeginsWith set steps (Cat p q) = (part : ℕ) × (steps ≡ part + 1) × BeginsWith set part p
BeginsWith set steps (Cond p target) = (part : ℕ) × (steps ≡ part + 1) × BeginsWith set part p
BeginsWith set steps (Imm p target) = (part : ℕ) × (steps ≡ part + 1) × BeginsWith set part p
BeginsWith set steps pattern = ⊥
