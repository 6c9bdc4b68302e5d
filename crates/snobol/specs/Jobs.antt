-- What the program does for a job, its status, and what it tells on standard error.
use Rattle.std.specs.Prelude.{◌≡◌, ◌≢◌, ◌≤◌, ℕ, ◌==◌, Bool, false, List, [], ◌++◌, Option, None, Some, codes, decimal}
use Rattle.std.specs.Prelude.{length, if◌then◌else◌}
use Rattle.std.specs.Io.KnownBytes.{Appends}
use Rattle.sno_io.specs.Devices.{Begins}
use Rattle.std.specs.Borrow.{Bor}
use Rattle.sno_io.specs.declared.jobs.Job.{Job}
use Rattle.sno_io.specs.declared.jobs.Job.TheVariants.{Run, Ways, Check}
use Rattle.sno_io.specs.declared.jobs.Limits.{Limits}
use Rattle.sno_text.specs.declared.error.ReadError.{ReadError}
use Rattle.sno_text.specs.declared.error.ReadError.TheVariants as why
use Rattle.sno_text.specs.Statements.{StatementTree}
use Rattle.sno_text.specs.Programs.{IsProgram, IsRefusedProgram}
use Rattle.snobol.specs.declared.enumeration.WaysOutcome.{WaysOutcome}
use Rattle.snobol.specs.declared.enumeration.WaysOutcome.TheVariants.{Done, Refused, Error, NoMemory, WriteFault}
use Rattle.sno_text.specs.Program.{Program}
use Rattle.sno_text.specs.Phrases.{StandsProgram}
use Rattle.snobol.specs.Listing.{IsListing}
use Rattle.snobol.specs.declared.execution.Outcome.{Outcome as RunOutcome}
use Rattle.snobol.specs.declared.execution.Outcome.TheVariants as run
use Rattle.snobol.specs.Meaning.{meaning}
use Rattle.snobol.specs.Running.{IsLimits, IsPossible, MeetsOutcome}

-- the limits of a run lie in their ranges
abbrev pub IsInRange : Job → Type 0
IsInRange (Run name limits) = IsLimits limits
IsInRange (Check name) = Unit {0}
IsInRange (Ways anchored steps pattern subject) = Unit {0}

-- ---- the status and the line on standard error

-- what the program answers and tells: its status, and the line on standard error with its line feed, or nothing
pub record Report : Type 0 where
  pub status : ℕ
  pub line : List ℕ

abbrev pub well : Report
well = record { status = 0; line = [] }

-- memory was refused
abbrev pub no_memory : Report
no_memory = record { status = 6; line = codes "snobol4: no memory\n" }

-- the reader, or the writer, has failed
abbrev pub read_fault : Report
read_fault = record { status = 7; line = codes "snobol4: read fault\n" }

abbrev pub write_fault : Report
write_fault = record { status = 7; line = codes "snobol4: write fault\n" }

-- FILE, which has this name, can't be read
abbrev pub unread : List ℕ → Report
unread name = record { status = 3; line = codes "snobol4: cannot read " ++ (name ++ codes "\n") }

-- an error: the two limits have a status of their own
abbrev pub error_status : ℕ → ℕ
error_status code = if code == 20 then 4 else if code == 21 then 5 else 1

-- a program or a pattern is refused
abbrev pub refused : ReadError → Report
refused (why.Syntax line code) =
    record {
      status = 2;
      line = codes "snobol4: syntax "
          ++ (decimal code ++ (codes " at line " ++ (decimal line ++ codes "\n")));
    }
refused (why.DuplicateLabel line) =
    record { status = 2; line = codes "snobol4: duplicate label at line " ++ (decimal line ++ codes "\n") }
refused why.NoEnd = record { status = 2; line = codes "snobol4: no END\n" }
refused (why.TooLarge line) =
    record { status = 2; line = codes "snobol4: too large at line " ++ (decimal line ++ codes "\n") }
refused why.NoMemory = no_memory

-- after a listing
abbrev pub listed : WaysOutcome → Report
listed Done = well
listed (Refused error) = refused error
listed (Error code) = record {
  status = error_status code;
  line = codes "snobol4: error "
      ++ (decimal code ++ codes "\n");
}
listed NoMemory = no_memory
listed WriteFault = write_fault

-- after a run
abbrev pub ran : RunOutcome → Report
ran run.Ended = well
ran (run.Error code statement) =
    record {
      status = error_status code;
      line = codes "snobol4: error "
          ++ (decimal code ++ (codes " in statement " ++ (decimal statement ++ codes "\n")));
    }
ran run.NoMemory = no_memory
ran run.ReadFault = read_fault
ran run.WriteFault = write_fault

-- What a device took, where it has failed or not: the line, or a beginning of it, at which it failed.
abbrev pub Tells : Option (List ℕ) → Option (List ℕ) → Bool → List ℕ → Type 0
Tells old new failed line = (told : List ℕ) × Begins told line × Appends old new told × (failed ≡ false → told ≡ line)

-- ---- what a job does

-- accepted, refused, or memory was refused, which a text that is too long doesn't ask for
pub data IsChecked (text : List ℕ) (report : Report) : Type 0 where
  accepted_is : report ≡ well → (statements : List StatementTree) → IsProgram text statements → IsChecked text report
  refused_is : (error : ReadError) → report ≡ refused error → IsRefusedProgram text error → IsChecked text report
  no_memory_is : report ≡ no_memory → length text ≤ 4000000 → IsChecked text report

-- The text is a program, which was read and run: for whatever
-- input there may be it wrote what it means, or a beginning.
pub record IsRunOf (text : List ℕ) (limits : Limits) (outcome : RunOutcome) (given : List ℕ) (at_end : Bool)
    (wrote : List ℕ) : Type 0 where
  pub statements : List StatementTree
  pub accepted : IsProgram text statements
  pub program : Program
  pub stands : StandsProgram program text statements
  pub program_text : program.text ≡ text
  pub meets : (input : List ℕ) → IsPossible given at_end input
      → MeetsOutcome (meaning program limits input) wrote outcome

-- the text is refused, which reads and writes nothing, or it was run
pub data IsRunFile (text : List ℕ) (limits : Limits) (report : Report) (given : List ℕ) (at_end : Bool)
    (wrote : List ℕ) : Type 0 where
  not_read : given ≡ [] → wrote ≡ [] → IsChecked text report → report ≢ well
      → IsRunFile text limits report given at_end wrote
  was_run : (outcome : RunOutcome) → IsRunOf text limits outcome given at_end wrote → report ≡ ran outcome
      → IsRunFile text limits report given at_end wrote

-- the job was done with this report, where the file holds these bytes (nothing, where it can't be read), and these were
-- given by the reader, which may have told its end, and written
abbrev pub IsDone : Job → Option (Bor (List ℕ)) → Report → List ℕ → Bool → List ℕ → Type 0
IsDone (Run name limits) None report given at_end wrote = (given ≡ []) × (wrote ≡ []) × (report ≡ unread name.now)
IsDone (Run name limits) (Some text) report given at_end wrote = IsRunFile text.now limits report given at_end wrote
IsDone (Ways anchored steps pattern subject) file report given at_end wrote =
    (given ≡ []) × ((outcome : WaysOutcome) × IsListing pattern.now subject.now anchored steps outcome wrote
    × (report ≡ listed outcome))
IsDone (Check name) None report given at_end wrote = (given ≡ []) × (wrote ≡ []) × (report ≡ unread name.now)
IsDone (Check name) (Some text) report given at_end wrote = (given ≡ []) × (wrote ≡ []) × IsChecked text.now report
