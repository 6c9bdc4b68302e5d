-- What tells a line, and how a listing goes on. These words are private to the interpreter.
use Rattle.std.specs.Prelude.{◌≡◌, ◌<◌, ◌≤◌, ℕ, Bool, true, false, List, [], length, Option, None, Some, Result, Ok, Err}
use Rattle.std.specs.List.{AllByRecursion}
use Rattle.sno_io.specs.Devices.{Feed}
use Rattle.sno_pattern.specs.Table.{Node}
use Rattle.sno_text.specs.Program.{Program}
use Rattle.sno_match.specs.Matching.{Matching}
use Rattle.sno_runtime.specs.declared.stops.Exit.{Exit}
use Rattle.sno_runtime.specs.Runtime.{Runtime, IsReady}
use Rattle.sno_expression.specs.inner.Forms.{IsOrdered}
use Rattle.sno_statement.specs.Running.{CanRun, Devices}
use Rattle.sno_statement.specs.inner.Given.{IsGivenOf}
use Rattle.snobol.specs.declared.enumeration.WaysOutcome.{WaysOutcome}
use Rattle.snobol.specs.declared.enumeration.WaysOutcome.TheVariants as ways
use Rattle.snobol.specs.inner.Told.{outcome_told}

-- what is told of a line: whether more may come, or the end
abbrev pub ended_by : Result Bool Exit → Option WaysOutcome
ended_by (Ok true) = None
ended_by (Ok false) = Some ways.Done
ended_by (Err exit) = Some (outcome_told (Err exit))

-- a search that goes on: its table is the runtime's, and no event is waited for that its caller owes
pub record Resumes (m : Matching) (nodes : List Node) (subject : List ℕ) (limit : ℕ) : Type 0 where
  pub nodes_are : m.nodes ≡ nodes
  pub known : m.pattern.0 < length nodes
  pub subject_is : m.subject ≡ subject
  pub limit_is : m.limit ≡ limit
  pub each : AllByRecursion (IsGivenOf nodes) m.answers
  pub ended : m.ended ≡ false
  pub waits : m.waits ≡ false

-- a search, once the pattern was evaluated
abbrev pub IsAt : Option Matching → List Node → List ℕ → ℕ → Type 0
IsAt None nodes subject limit = Unit {0}
IsAt (Some m) nodes subject limit = Resumes m nodes subject limit

-- a part can be evaluated: no call is open
pub record CanGoOn (s : Runtime) (d : Devices) : Type 0 where
  pub closed : s.store.calls ≡ []
  pub ready : CanRun s d

-- a listing that goes on
pub record Stands (program : Program) (subject : List ℕ) (limit : ℕ) (s : Runtime) (f : Feed) (search : Option Matching)
    : Type 0 where
  pub ordered : IsOrdered program
  pub short : length subject ≤ 1_000_000
  pub closed : s.store.calls ≡ []
  pub ready : IsReady s f
  pub at : IsAt search s.nodes subject limit
