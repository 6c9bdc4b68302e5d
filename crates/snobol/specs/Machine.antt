-- A machine that performs single expressions and matches for its caller, call after call.
use Rattle.std.specs.Prelude.{◌≡◌, ◌⊎◌, ℕ, ◌≤◌, true, false, List, [], length, Option, None, Some, Result, Ok, Err}
use Rattle.std.specs.Result.{result_err}
use Rattle.sno_pattern.specs.Table.{Node}
use Rattle.sno_text.specs.Program.{Program}
use Rattle.sno_io.specs.declared.jobs.Limits.{Limits}
use Rattle.sno_runtime.specs.declared.stops.Exit.{Exit}
use Rattle.sno_runtime.specs.declared.stops.Exit.TheVariants.{Failure, Halt}
use Rattle.snobol.specs.declared.execution.Outcome.{Outcome as RunOutcome}
use Rattle.snobol.specs.declared.execution.Outcome.TheVariants as ran
use Rattle.sno_runtime.specs.World.{new_world, new_keywords}
use Rattle.sno_runtime.specs.Action.{Error, Got, Stops, Outcome, Action}
use Rattle.snobol.specs.Meaning.{joins_names}
use Rattle.sno_runtime.specs.Runtime.{Runtime, world}
use Rattle.sno_statement.specs.Running.{CanRun, Devices, Runs}
use Rattle.snobol.specs.Running.{ran_in}

-- what contracts see of such a machine: the program that its expressions are of, what they can change, and the stop
-- that it has answered
pub record Machine : Type 0 where
  pub program : Program
  pub state : Runtime
  pub stopped : Option RunOutcome

-- what a call answers: what fails gives none, and an error names statement 0
abbrev pub answered : {X : Type 0} → Result X Exit → Result (Option X) RunOutcome
answered (Ok x) = Ok (Some x)
answered (Err Failure) = Ok None
answered (Err (Halt why)) = Err (ran_in 0 (Halt why))

-- the stop that it answers from then on
abbrev pub stopped_by : {X : Type 0} → Result X Exit → Option RunOutcome
stopped_by (Ok x) = None
stopped_by (Err Failure) = None
stopped_by (Err (Halt why)) = Some (ran_in 0 (Halt why))

-- a machine may be asked: it has stopped, or no device has failed and the reader is that of the call before
abbrev pub CanAsk : Machine → Devices → Type 0
CanAsk m d = m.stopped ≡ None → CanRun m.state d

-- A call of a machine that had not stopped did what the action does, and answered it; a fault has its cause. An Err
-- stops the machine, and what has not stopped may be asked again.
pub record Asks {X A : Type 0} (see : List Node → X → A) (fits : List Node → X → Type 0) (act : Action A)
    (before after : Machine) (old new : Devices) (result : Result (Option X) RunOutcome) : Type 0 where
  pub does : before.stopped ≡ None → (r : Result X Exit) × (result ≡ answered r) × (after.stopped ≡ stopped_by r)
      × (after.program ≡ before.program) × Runs see fits act before.state after.state old new r
  pub read_fault : before.stopped ≡ None → result ≡ Err ran.ReadFault → new.reader.broken ≡ true
  pub write_fault : before.stopped ≡ None → result ≡ Err ran.WriteFault → new.writer.broken ≡ true
  pub stopped : after.stopped ≡ result_err result
  pub ready : CanAsk after new
  pub nodes : length before.state.nodes ≤ length after.state.nodes

-- the names of the program join the symbols, before the first statement
abbrev pub joined : Program → Limits → List ℕ → Outcome Unit
joined program limits input =
    joins_names program.text program.nodes (new_world input (new_keywords false limits.statements limits.match_steps))

-- a machine of which nothing was asked yet, whatever the input
pub record IsNew (program : Program) (limits : Limits) (m : Machine) : Type 0 where
  pub same : m.program ≡ program
  pub going : m.stopped ≡ None
  pub unread : m.state.reading ≡ record { held = []; told_end = false; stopped = None }
  pub names : (input : List ℕ) → joined program limits input
      ≡ record { ending = Got tt; world = world m.state input; wrote = [] }

-- the names are too many for a store, or one is too long for a string
abbrev pub IsTooMuch : ℕ → Type 0
IsTooMuch code = (code ≡ 9) ⊎ (code ≡ 8)

-- why there is no machine
abbrev pub IsRefusal : Program → Limits → RunOutcome → Type 0
IsRefusal program limits ran.Ended = ⊥
IsRefusal program limits (ran.Error code statement) =
    (statement ≡ 0) × IsTooMuch code × ((input : List ℕ) → (joined program limits input).ending ≡ Stops (Error code))
IsRefusal program limits ran.NoMemory = Unit {0}
IsRefusal program limits ran.ReadFault = ⊥
IsRefusal program limits ran.WriteFault = ⊥
