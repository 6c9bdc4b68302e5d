-- Words of private clauses: the numbers of the lines of a program.
use Rattle.std.specs.Prelude.{ℕ, ◌+◌, ◌<◌, ◌≡◌, List, length, slice_index}
use Rattle.sno_text.specs.declared.statement.Statement.{Statement}
use Rattle.sno_listing.specs.Listing.{number_in}

-- These are the numbers of so many lines of the text, line 1 first; the first statement has number n.
pub record AreNumbers (lines n : ℕ) (statements : List Statement) (numbers : List ℕ) : Type 0 where
  pub count : length numbers ≡ lines
  pub each : (k : ℕ) → k < lines → slice_index numbers k ≡ number_in n statements (k + 1)
