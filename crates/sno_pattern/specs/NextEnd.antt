-- The ends of a pattern that is a primitive, and which of them is tried after another.
use Rattle.std.specs.Prelude.{ℕ, nat_lt, if◌then◌else◌, List, [], ◌∷◌, Option, Some, None}
use Rattle.sno_pattern.specs.Pattern.{Pattern, Leaf}
use Rattle.sno_pattern.specs.Ends.{ends}

-- in order of trial
abbrev pub ends_of : Pattern → List ℕ → ℕ → List ℕ
ends_of (Leaf a) s c = ends a s c
ends_of pattern s c = []

-- the first number that is greater than another
abbrev pub first_above : ℕ → List ℕ → Option ℕ
first_above last [] = None
first_above last (e ∷ es) = if nat_lt last e then Some e else first_above last es

-- the first end behind another
abbrev pub next_end : Pattern → List ℕ → ℕ → ℕ → Option ℕ
next_end pattern s c last = first_above last (ends_of pattern s c)
