-- Words of private clauses: where a literal ends.
use Rattle.std.specs.Prelude.{◌≡◌, ℕ, ◌≤◌, ◌<◌, ◌≢◌, List, length}
use Rattle.sno_text.specs.Bytes.{byte}

-- at is where the quote b closes a literal whose inside begins at i: the first such quote, on the same line
pub record IsLiteralEnd (s : List ℕ) (b i at : ℕ) : Type 0 where
  pub order : i ≤ at
  pub within : at < length s
  pub here : byte s at ≡ b
  pub inside : (k : ℕ) → i ≤ k → k < at → byte s k ≢ b
  pub line : (k : ℕ) → i ≤ k → k < at → byte s k ≢ 10

-- Nothing closes it.
pub record NoLiteralEnd (s : List ℕ) (b i : ℕ) : Type 0 where
  pub none : (at : ℕ) → IsLiteralEnd s b i at → ⊥
