-- What is told of a program's text.
use Rattle.std.specs.Prelude.{◌≡◌, ◌++◌, ◌-◌, ◌==◌, ℕ, List, Option, Some, None, slice_get, if◌then◌else◌}
use Rattle.sno_text.specs.Program.{Program}
use Rattle.sno_text.specs.Programs.{IsProgram, IsRefusedProgram}
use Rattle.sno_text.specs.Phrases.{StandsProgram}
use Rattle.sno_text.specs.Statements.{StatementTree}
use Rattle.sno_text.specs.declared.error.ReadError.{ReadError}
use Rattle.sno_text.specs.declared.statement.Statement.{Statement}
use Rattle.sno_listing.specs.Listing.{listed}
use Rattle.sno_listing.specs.declared.report.Report.{Report}

-- the text is accepted, as this program
abbrev pub IsAccepted : List ℕ → Program → Type 0
IsAccepted text program = (statements : List StatementTree) × IsProgram text statements × StandsProgram program text statements

-- the statement with a number, from 1
abbrev pub statement_with : ℕ → List Statement → Option Statement
statement_with number statements = if number == 0 then None else slice_get statements (number - 1)

-- The report of a text, all of it or a statement by its number. A program that is accepted is listed, with whatever there is
-- to warn of behind it, and its statement alone is told where there is one. A text that is refused has status 2.
pub data IsReported (text : List ℕ) (number : Option ℕ) (report : Option Report) : Type 0 where
  listed_is : (program : Program) → IsAccepted text program → number ≡ None → (told : Report) → report ≡ Some told
      → told.status ≡ 0 → (warnings : List ℕ) → told.text.items ≡ listed text program.statements ++ warnings
      → IsReported text number report
  single_is : (program : Program) → IsAccepted text program → (asked : ℕ) → number ≡ Some asked → (found : Statement)
      → statement_with asked program.statements ≡ Some found → (told : Report) → report ≡ Some told → told.status ≡ 0
      → IsReported text number report
  missing_is : (program : Program) → IsAccepted text program → (asked : ℕ) → number ≡ Some asked
      → statement_with asked program.statements ≡ None → report ≡ None → IsReported text number report
  refused_is : (error : ReadError) → IsRefusedProgram text error → (told : Report) → report ≡ Some told
      → told.status ≡ 2 → IsReported text number report
