-- What a call answers, and leaves in the rooms that it was lent.
use Rattle.std.specs.Prelude.{◌≡◌, ◌≤◌, ◌<◌, ◌==◌, ◌++◌, ℕ, Bool, true, List, [], Option, Some, None, length, min, take}
use Rattle.std.specs.Prelude.{drop, codes, decimal, if◌then◌else◌}
use Rattle.std.specs.Borrow.{Bor}
use Rattle.sno_io.specs.declared.jobs.Job.{Job}
use Rattle.sno_listing.specs.declared.report.Report.{Report as Listed}
use Rattle.sno_listing.specs.Report.{IsReported}
use Rattle.snobol.specs.Jobs.{IsDone, Report}
use Rattle.sno_calls.specs.declared.Told.{Told}

-- So many of these bytes were written to the beginning of a room as it has room for, and behind them it is as it was.
abbrev pub Holds : List ℕ → List ℕ → ℕ → List ℕ → Type 0
Holds old new count bytes = (count ≡ min (length bytes) (length old)) × (new ≡ take count bytes ++ drop count old)

-- Nothing was done: the call was given what it may not be given.
abbrev pub IsRefusedIn : List ℕ → List ℕ → List ℕ → List ℕ → Told → Type 0
IsRefusedIn out_old out_new line_old line_new told =
    (told.status ≡ 64) × (told.written ≡ 0) × (told.told ≡ 0) × (out_new ≡ out_old) × (line_new ≡ line_old)

-- A report was told: its status, and its line. Where there was no memory to hold the line, that is the status, and no line is
-- told.
pub data IsTold (report : Report) (line_old line_new : List ℕ) (told : Told) : Type 0 where
  told_is : told.status ≡ report.status → Holds line_old line_new told.told report.line
      → IsTold report line_old line_new told
  untold_is : told.status ≡ 6 → told.told ≡ 0 → line_new ≡ line_old → IsTold report line_old line_new told

-- A job over these texts was done, with this report: the rooms hold what it wrote, and its line. What was given of the input is
-- a beginning of it, and all of it where its end was told.
pub record IsDoneIn (job : Job) (file : Bor (List ℕ)) (input out_old out_new line_old line_new : List ℕ) (told : Told)
    : Type 0 where
  pub report : Report
  pub given : List ℕ
  pub rest : List ℕ
  pub at_end : Bool
  pub wrote : List ℕ
  pub input_is : input ≡ given ++ rest
  pub whole : at_end ≡ true → rest ≡ []
  pub done : IsDone job (Some file) report given at_end wrote
  pub output : Holds out_old out_new told.written wrote
  pub message : IsTold report line_old line_new told

-- the statement that is listed alone, none for 0
abbrev pub asked : ℕ → Option ℕ
asked number = if number == 0 then None else Some number

-- A program was listed: the rooms hold the listing, as much of it as there is room for, and the line that tells what went
-- wrong.
pub data IsListedIn (program : List ℕ) (number : ℕ) (out_old out_new line_old line_new : List ℕ) (told : Told)
    : Type 0 where
  listed_is : (report : Listed) → IsReported program (asked number) (Some report)
      → length report.text.items ≤ length out_old → told.status ≡ report.status
      → Holds out_old out_new told.written report.text.items → Holds line_old line_new told.told []
      → IsListedIn program number out_old out_new line_old line_new told
  cut_is : (report : Listed) → IsReported program (asked number) (Some report)
      → length out_old < length report.text.items → told.status ≡ 7
      → Holds out_old out_new told.written report.text.items
      → Holds line_old line_new told.told (codes "snobol4-list: write fault\n")
      → IsListedIn program number out_old out_new line_old line_new told
  missing_is : IsReported program (asked number) None → told.status ≡ 64 → Holds out_old out_new told.written []
      → Holds line_old line_new told.told (codes "snobol4-list: no statement " ++ (decimal number ++ codes "\n"))
      → IsListedIn program number out_old out_new line_old line_new told
  no_memory_is : told.status ≡ 6 → Holds out_old out_new told.written []
      → Holds line_old line_new told.told (codes "snobol4-list: no memory\n")
      → IsListedIn program number out_old out_new line_old line_new told
