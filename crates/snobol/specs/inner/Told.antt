-- How a listing ended, as the code tells it. These words are private to the interpreter.
use Rattle.std.specs.Prelude.{◌≡◌, ℕ, List, Result, Ok, Err}
use Rattle.sno_io.specs.Devices.{Begins}
use Rattle.sno_runtime.specs.declared.stops.Exit.{Exit}
use Rattle.sno_runtime.specs.declared.stops.Exit.TheVariants.{Failure, Halt}
use Rattle.sno_runtime.specs.declared.stops.Stop.TheVariants.{Error as HasError, ErrorIn as HasErrorIn, NoMemory}
use Rattle.sno_runtime.specs.declared.stops.Stop.TheVariants.{ReadFault, WriteFault, Ended as HasEnded}
use Rattle.sno_runtime.specs.Action.{Error, ErrorIn, Ended, Got, Fails, Stops, Outcome}
use Rattle.snobol.specs.declared.enumeration.WaysOutcome.{WaysOutcome}
use Rattle.snobol.specs.declared.enumeration.WaysOutcome.TheVariants as ways

-- What was written and how it ended is what the outcome says; where it was broken off, a beginning was written.
abbrev pub Tells : Outcome Unit → List ℕ → Result Unit Exit → Type 0
Tells o wrote (Ok done) = (o.ending ≡ Got tt) × (o.wrote ≡ wrote)
Tells o wrote (Err Failure) = (o.ending ≡ Fails) × (o.wrote ≡ wrote)
Tells o wrote (Err (Halt (HasError code))) = (o.ending ≡ Stops (Error code)) × (o.wrote ≡ wrote)
Tells o wrote (Err (Halt (HasErrorIn code statement))) = (o.ending ≡ Stops (ErrorIn code statement)) × (o.wrote ≡ wrote)
Tells o wrote (Err (Halt NoMemory)) = Begins wrote o.wrote
Tells o wrote (Err (Halt ReadFault)) = Begins wrote o.wrote
Tells o wrote (Err (Halt WriteFault)) = Begins wrote o.wrote
Tells o wrote (Err (Halt HasEnded)) = (o.ending ≡ Stops Ended) × (o.wrote ≡ wrote)

-- what it is to the listing's caller
abbrev pub outcome_told : Result Unit Exit → WaysOutcome
outcome_told (Ok done) = ways.Done
outcome_told (Err Failure) = ways.Done
outcome_told (Err (Halt (HasError code))) = ways.Error code
outcome_told (Err (Halt (HasErrorIn code statement))) = ways.Error code
outcome_told (Err (Halt NoMemory)) = ways.NoMemory
outcome_told (Err (Halt ReadFault)) = ways.NoMemory
outcome_told (Err (Halt WriteFault)) = ways.WriteFault
outcome_told (Err (Halt HasEnded)) = ways.Done
