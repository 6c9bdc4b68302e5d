-- What functions did that write. Private contracts alone cite it.
use Rattle.std.specs.Prelude.{◌≡◌, ℕ, List, ◌++◌, Option, None, Some, Result, Ok, Err, codes}
use Rattle.std.specs.Io.KnownBytes.{Appends}
use Rattle.sno_io.specs.Devices.{Begins}
use Rattle.sno_runtime.specs.declared.stops.Stop.{Stop}
use Rattle.sno_runtime.specs.declared.stops.Stop.TheVariants.{Error as HasError, ErrorIn as HasErrorIn, NoMemory}
use Rattle.sno_runtime.specs.declared.stops.Stop.TheVariants.{ReadFault, WriteFault, Ended as HasEnded}
use Rattle.sno_runtime.specs.World.{World}
use Rattle.sno_runtime.specs.Action.{Error, Got, Stops, Outcome, Action}
use Rattle.sno_runtime.specs.Runtime.{Runtime, world}
use Rattle.sno_runtime.specs.inner.Runtime.{untouched}

-- what was written and how it ended is what the outcome says; where it was broken off, a beginning was written
abbrev pub Ends : Outcome Unit → World → List ℕ → Result Unit Stop → Type 0
Ends o after wrote (Ok done) = o ≡ record { ending = Got tt; world = after; wrote = wrote }
Ends o after wrote (Err (HasError code)) = (o.ending ≡ Stops (Error code)) × (o.wrote ≡ wrote)
Ends o after wrote (Err (HasErrorIn code statement)) = ⊥
Ends o after wrote (Err NoMemory) = Begins wrote o.wrote
Ends o after wrote (Err ReadFault) = ⊥
Ends o after wrote (Err WriteFault) = Begins wrote o.wrote
Ends o after wrote (Err HasEnded) = ⊥

-- The code did what the action does, where the writer had taken `taken` and then `now`.
pub record Performs (act : Action Unit) (before after : Runtime) (taken now : Option (List ℕ))
    (result : Result Unit Stop) : Type 0 where
  pub wrote : List ℕ
  pub appends : Appends taken now wrote
  pub ends : (more : List ℕ) → Ends (act (world before more)) (world after more) wrote result
  pub unread : untouched after ≡ untouched before

-- a value's text with a line feed was written, or a beginning of it; nothing is where memory was refused, nor of a
-- value without a text, which is error 1
abbrev pub WritesLine : Option (List ℕ) → Option (List ℕ) → Option (List ℕ) → Result Unit Stop → Type 0
WritesLine None taken now (Ok done) = ⊥
WritesLine (Some bytes) taken now (Ok done) = Appends taken now (bytes ++ codes "\n")
WritesLine o taken now (Err (HasError code)) = (o ≡ None) × (code ≡ 1) × (now ≡ taken)
WritesLine o taken now (Err (HasErrorIn code statement)) = ⊥
WritesLine o taken now (Err NoMemory) = now ≡ taken
WritesLine o taken now (Err ReadFault) = ⊥
WritesLine None taken now (Err WriteFault) = ⊥
WritesLine (Some bytes) taken now (Err WriteFault) =
    (part : List ℕ) × Begins part (bytes ++ codes "\n") × Appends taken now part
WritesLine o taken now (Err HasEnded) = ⊥
