-- Where a match finds its subject. These words are private to the matcher.
use Rattle.std.specs.Prelude.{ℕ, List, Option, None, Some}

-- the string that is lent, or else these bytes
abbrev pub searched : Option (List ℕ) → List ℕ → List ℕ
searched (Some text) own = text
searched None own = own

-- the bytes, and how many there is room for that are copied
pub record Searched : Type 0 where
  pub bytes : List ℕ
  pub room : ℕ
