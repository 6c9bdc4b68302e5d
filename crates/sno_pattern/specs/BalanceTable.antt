-- The table of BAL's first ends.
use Rattle.std.specs.Prelude.{ℕ, ◌≡◌, ◌<◌, ◌≤◌, List, Option, Some, None, length, get_or, slice_get}
use Rattle.sno_pattern.specs.Pattern.{Bal}
use Rattle.sno_pattern.specs.Ends.{ends}

-- an end as a number: 0 where there is none, since each end of BAL is behind its cursor
abbrev pub end_code : Option ℕ → ℕ
end_code None = 0
end_code (Some e) = e

-- the table has BAL's first end from each cursor before the subject's end, from `from` on
pub record IsBalanceFrom (from : ℕ) (s table : List ℕ) : Type 0 where
  pub whole : length table ≡ length s
  pub says : (c : ℕ) → from ≤ c → c < length s → get_or table c 0 ≡ end_code (slice_get (ends Bal s c) 0)

-- the table has BAL's first end from each cursor before the subject's end
abbrev pub IsBalanceTable : List ℕ → List ℕ → Type 0
IsBalanceTable s table = IsBalanceFrom 0 s table

-- a table that was made is the subject's, and one that was not is empty
pub record IsTableIfMade (s table : List ℕ) : Type 0 where
  pub made : 0 < length table → IsBalanceTable s table
