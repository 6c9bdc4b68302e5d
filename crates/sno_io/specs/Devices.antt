-- What readers and writers tell, and the bytes that a write of all bytes leaves behind.
use Rattle.std.specs.Prelude.{◌≡◌, ℕ, Bool, List, ◌++◌, Option, Result, MatchResult}
use Rattle.std.specs.Io.KnownBytes.{Appends}

-- what a reader tells: the bytes that it has left to give, where it tells them; whether its last read told the end; and
-- whether a read has failed
pub record Feed : Type 0 where
  pub left : Option (List ℕ)
  pub at_end : Bool
  pub broken : Bool

-- what a writer tells: the bytes that it has taken, where it tells them, and whether a write has failed
pub record Drain : Type 0 where
  pub taken : Option (List ℕ)
  pub broken : Bool

-- the bytes xs begin ys
abbrev pub Begins : List ℕ → List ℕ → Type 0
Begins xs ys = (rest : List ℕ) × (xs ++ rest ≡ ys)

-- all bytes at Ok; at Err a beginning of them
abbrev pub TakesBytes : {E : Type 0} → Option (List ℕ) → Option (List ℕ) → Result Unit E → List ℕ → Type 0
TakesBytes old new r bytes =
    MatchResult r (λ _. Appends old new bytes) (λ _. (part : List ℕ) × Begins part bytes × Appends old new part)
