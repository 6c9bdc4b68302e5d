-- How far two lists of bytes agree.
use Rattle.std.specs.Prelude.{ℕ, ◌≡◌, ◌≢◌, ◌<◌, ◌≤◌, List, length, get_or}

-- so many bytes at the beginnings of both are the same
pub record AreSame (a b : List ℕ) (count : ℕ) : Type 0 where
  pub left : count ≤ length a
  pub right : count ≤ length b
  pub same : (k : ℕ) → k < count → get_or a k 0 ≡ get_or b k 0

-- and no more: one of them ends there, or the next bytes differ
pub record Agree (a b : List ℕ) (count : ℕ) : Type 0 where
  pub begin : AreSame a b count
  pub apart : count < length a → count < length b → get_or a count 0 ≢ get_or b count 0
