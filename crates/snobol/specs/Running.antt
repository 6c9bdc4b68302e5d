-- How runs that are over meet what their programs mean.
use Rattle.std.specs.Prelude.{◌≡◌, ℕ, ◌≤◌, Bool, true, List, [], ◌++◌}
use Rattle.std.specs.Io.KnownBytes.{Consumes, Appends}
use Rattle.sno_io.specs.Devices.{Begins}
use Rattle.sno_runtime.specs.declared.stops.Exit.{Exit}
use Rattle.sno_runtime.specs.declared.stops.Exit.TheVariants.{Failure, Halt}
use Rattle.sno_runtime.specs.declared.stops.Stop.TheVariants.{Error as HasError, ErrorIn as HasErrorIn, NoMemory}
use Rattle.sno_runtime.specs.declared.stops.Stop.TheVariants.{ReadFault, WriteFault, Ended as HasEnded}
use Rattle.sno_io.specs.declared.jobs.Limits.{Limits}
use Rattle.sno_statement.specs.Running.{Devices}
use Rattle.snobol.specs.declared.execution.Outcome.{Outcome as RunOutcome}
use Rattle.snobol.specs.declared.execution.Outcome.TheVariants as ran
use Rattle.sno_runtime.specs.Action.{ErrorIn, Ended, Stops, Outcome}

-- how a run that is over meets the outcome of its program
abbrev pub MeetsOutcome : {A : Type 0} → Outcome A → List ℕ → RunOutcome → Type 0
MeetsOutcome o wrote ran.Ended = (o.ending ≡ Stops Ended) × (o.wrote ≡ wrote)
MeetsOutcome o wrote (ran.Error code statement) = (o.ending ≡ Stops (ErrorIn code statement)) × (o.wrote ≡ wrote)
MeetsOutcome o wrote ran.NoMemory = Begins wrote o.wrote
MeetsOutcome o wrote ran.ReadFault = Begins wrote o.wrote
MeetsOutcome o wrote ran.WriteFault = Begins wrote o.wrote

-- what ends a statement ends the run, in that statement; an error that names a statement names that one
abbrev pub ran_in : ℕ → Exit → RunOutcome
ran_in statement Failure = ran.Error 11 statement
ran_in statement (Halt (HasError code)) = ran.Error code statement
ran_in statement (Halt (HasErrorIn code inner)) = ran.Error code inner
ran_in statement (Halt NoMemory) = ran.NoMemory
ran_in statement (Halt ReadFault) = ran.ReadFault
ran_in statement (Halt WriteFault) = ran.WriteFault
ran_in statement (Halt HasEnded) = ran.Ended

-- the limits lie in their ranges
pub record IsLimits (limits : Limits) : Type 0 where
  pub some : 1 ≤ limits.statements
  pub statements : limits.statements ≤ 1_000_000_000_000
  pub match_steps : limits.match_steps ≤ 1_000_000_000

-- The input that may be: it begins with what the reader gave and, if the reader told its end, is just that.
abbrev pub IsPossible : List ℕ → Bool → List ℕ → Type 0
IsPossible given at_end input = (more : List ℕ) × (input ≡ given ++ more) × (at_end ≡ true → more ≡ [])

-- For every possible input the run ended as its meaning says and wrote what that says, or was broken off and wrote a
-- beginning of it.
abbrev pub RunsAs : {A : Type 0} → (List ℕ → Outcome A) → Devices → Devices → RunOutcome → Type 0
RunsAs meaning old new outcome =
    (given : List ℕ) × (wrote : List ℕ) × Consumes old.reader.left new.reader.left given
    × Appends old.writer.taken new.writer.taken wrote
    × ((input : List ℕ) → IsPossible given new.reader.at_end input → MeetsOutcome (meaning input) wrote outcome)
