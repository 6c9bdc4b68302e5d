-- What functions did that read and write.
use Rattle.std.specs.Prelude.{◌≡◌, ℕ, ◌≤◌, true, false, List, [], ◌++◌, Result, Ok, Err}
use Rattle.std.specs.Io.KnownBytes.{Consumes, Appends}
use Rattle.sno_io.specs.Devices.{Begins, Drain, Feed}
use Rattle.sno_pattern.specs.Table.{Node}
use Rattle.sno_runtime.specs.declared.stops.Exit.{Exit}
use Rattle.sno_runtime.specs.declared.stops.Exit.TheVariants.{Failure, Halt}
use Rattle.sno_runtime.specs.declared.stops.Stop.TheVariants.{Error as HasError, ErrorIn as HasErrorIn, NoMemory}
use Rattle.sno_runtime.specs.declared.stops.Stop.TheVariants.{ReadFault, WriteFault, Ended as HasEnded}
use Rattle.sno_runtime.specs.World.{World, Keywords}
use Rattle.sno_runtime.specs.Action.{Error, ErrorIn, Ended, Got, Fails, Stops, Outcome, Action}
use Rattle.sno_runtime.specs.Runtime.{Runtime, world, IsReady, Grows, OnAnswer, OnGoing}

-- what a reader and a writer tell
pub record Devices : Type 0 where
  pub reader : Feed
  pub writer : Drain

abbrev pub devices : Feed → Drain → Devices
devices feed drain = record { reader = feed; writer = drain }

-- neither has failed, and the reader is that of the call before
pub record CanRun (s : Runtime) (d : Devices) : Type 0 where
  pub reads : IsReady s d.reader
  pub writes : d.writer.broken ≡ false

-- how what the code answers meets the outcome of an action; where it was broken off, a beginning was written
abbrev pub MeetsRunning : {X A : Type 0} → (X → A) → Outcome A → World → List ℕ → Result X Exit → Type 0
MeetsRunning see o after wrote (Ok x) = o ≡ record { ending = Got (see x); world = after; wrote = wrote }
MeetsRunning see o after wrote (Err Failure) = o ≡ record { ending = Fails; world = after; wrote = wrote }
MeetsRunning see o after wrote (Err (Halt (HasError code))) = (o.ending ≡ Stops (Error code)) × (o.wrote ≡ wrote)
MeetsRunning see o after wrote (Err (Halt (HasErrorIn code statement))) =
    (o.ending ≡ Stops (ErrorIn code statement)) × (o.wrote ≡ wrote)
MeetsRunning see o after wrote (Err (Halt NoMemory)) = Begins wrote o.wrote
MeetsRunning see o after wrote (Err (Halt ReadFault)) = Begins wrote o.wrote
MeetsRunning see o after wrote (Err (Halt WriteFault)) = Begins wrote o.wrote
MeetsRunning see o after wrote (Err (Halt HasEnded)) = (o.ending ≡ Stops Ended) × (o.wrote ≡ wrote)

-- a fault has its cause
abbrev pub HasFault : {X : Type 0} → Result X Exit → Devices → Type 0
HasFault (Ok x) d = Unit {0}
HasFault (Err Failure) d = Unit {0}
HasFault (Err (Halt (HasError code))) d = Unit {0}
HasFault (Err (Halt (HasErrorIn code statement))) d = Unit {0}
HasFault (Err (Halt NoMemory)) d = Unit {0}
HasFault (Err (Halt ReadFault)) d = d.reader.broken ≡ true
HasFault (Err (Halt WriteFault)) d = d.writer.broken ≡ true
HasFault (Err (Halt HasEnded)) d = Unit {0}

-- what no statement changes, and what only grows
pub record Goes (before after : Keywords) : Type 0 where
  pub cap : after.cap ≡ before.cap
  pub begun : before.begun ≤ after.begun

-- The code did what the action does, and wrote what it writes, for whatever input may still come behind what the reader
-- gave; nothing comes once the end was told.
pub record Runs {X A : Type 0} (see : List Node → X → A) (fits : List Node → X → Type 0) (act : Action A)
    (before after : Runtime) (old new : Devices) (result : Result X Exit) : Type 0 where
  pub given : List ℕ
  pub wrote : List ℕ
  pub consumed : Consumes old.reader.left new.reader.left given
  pub appends : Appends old.writer.taken new.writer.taken wrote
  pub ended : before.reading.told_end ≡ true → (given ≡ []) × (after.reading.told_end ≡ true)
  pub tells : after.reading.told_end ≡ true → new.reader.at_end ≡ true
  pub grows : Grows before.nodes after.nodes
  pub goes : Goes before.keywords after.keywords
  pub calls : OnGoing result (after.store.calls ≡ before.store.calls)
  pub meets : (more : List ℕ) → (after.reading.told_end ≡ true → more ≡ [])
      → MeetsRunning (see after.nodes) (act (world before (given ++ more))) (world after more) wrote result
  pub answer : OnAnswer (fits after.nodes) result
  pub ready : OnGoing result (CanRun after new)
  pub cause : HasFault result new

-- a part of a text of n bytes
abbrev pub IsSpanOf : ℕ → List Node → ℕ × ℕ → Type 0
IsSpanOf n nodes span = (span.0 ≤ span.1) × (span.1 ≤ n)
