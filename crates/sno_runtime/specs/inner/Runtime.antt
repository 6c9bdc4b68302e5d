-- Words of private clauses: what functions of the runtime did.
use Rattle.std.specs.Prelude.{◌≡◌, ◌<◌, ◌≤◌, ◌+◌, ℕ, suc, ℤ, Bool, true, false, List, [], ◌++◌}
use Rattle.std.specs.Prelude.{Option, None, Some, Result, Ok, Err}
use Rattle.sno_value.specs.declared.ids.PatId.{PatId}
use Rattle.sno_pattern.specs.declared.table.BuildError.{BuildError}
use Rattle.sno_pattern.specs.declared.table.BuildError.TheVariants as refusal
use Rattle.sno_pattern.specs.Table.{Node}
use Rattle.sno_store.specs.Store.{new_store}
use Rattle.sno_store.specs.First.{first_patterns}
use Rattle.sno_store.specs.declared.error.StoreError.{StoreError}
use Rattle.sno_store.specs.declared.error.StoreError.TheVariants as store_refusal
use Rattle.std.specs.declared.vec.Vec.{Vec}
use Rattle.std.specs.declared.alloc.Global.{Global}
use Rattle.sno_value.specs.declared.value.Value.{Value as Stored}
use Rattle.sno_value.specs.declared.value.Value.TheVariants as stored
use Rattle.sno_io.specs.declared.lines.LineError.{LineError}
use Rattle.sno_io.specs.declared.lines.LineError.TheVariants as too
use Rattle.sno_runtime.specs.Variables.{line_kept}
use Rattle.sno_runtime.specs.declared.stops.Exit.{Exit}
use Rattle.sno_runtime.specs.declared.stops.Exit.TheVariants.{Failure, Halt}
use Rattle.sno_runtime.specs.declared.stops.Stop.TheVariants.{Error as HasError, ErrorIn as HasErrorIn, NoMemory}
use Rattle.sno_runtime.specs.declared.stops.Stop.TheVariants.{ReadFault, WriteFault, Ended as HasEnded}
use Rattle.std.specs.Io.KnownBytes.{Consumes}
use Rattle.sno_io.specs.Devices.{Feed}
use Rattle.sno_io.specs.Lines.{Input}
use Rattle.sno_runtime.specs.World.{World, Keywords}
use Rattle.sno_runtime.specs.Action.{Error, Got, Fails, Stops, Outcome, Action}
use Rattle.sno_runtime.specs.Runtime.{Grows, IsReady, made_nodes, OnAnswer, OnGoing, Runtime, world}

abbrev pub new_runtime : Keywords → Runtime
new_runtime keywords = record {
  nodes = first_patterns;
  counted = 0;
  store = new_store;
  reading = record { held = []; told_end = false; stopped = None };
  keywords = keywords;
}

-- how what the code answers meets the outcome of an action that writes nothing
abbrev pub Meets : {X A : Type 0} → (X → A) → Outcome A → World → Result X Exit → Type 0
Meets see o after (Ok x) = o ≡ record { ending = Got (see x); world = after; wrote = [] }
Meets see o after (Err Failure) = o ≡ record { ending = Fails; world = after; wrote = [] }
Meets see o after (Err (Halt (HasError code))) = (o.ending ≡ Stops (Error code)) × (o.wrote ≡ [])
Meets see o after (Err (Halt (HasErrorIn code statement))) = ⊥
Meets see o after (Err (Halt NoMemory)) = Unit {0}
Meets see o after (Err (Halt ReadFault)) = ⊥
Meets see o after (Err (Halt WriteFault)) = ⊥
Meets see o after (Err (Halt HasEnded)) = ⊥

-- the same of one that may read
abbrev pub MeetsReading : {X A : Type 0} → (X → A) → Outcome A → World → Result X Exit → Type 0
MeetsReading see o after (Ok x) = Meets see o after (Ok x)
MeetsReading see o after (Err Failure) = Meets see o after (Err Failure)
MeetsReading see o after (Err (Halt (HasError code))) = Meets see o after (Err (Halt (HasError code)))
MeetsReading see o after (Err (Halt (HasErrorIn code statement))) = ⊥
MeetsReading see o after (Err (Halt NoMemory)) = Unit {0}
MeetsReading see o after (Err (Halt ReadFault)) = Unit {0}
MeetsReading see o after (Err (Halt WriteFault)) = ⊥
MeetsReading see o after (Err (Halt HasEnded)) = ⊥

-- what evaluation leaves as it is: the input, where nothing is read, the keywords, and the calls that are open
abbrev pub untouched : Runtime → Input × Keywords × List (List (ℕ × Stored))
untouched s = (s.reading, s.keywords, s.store.calls)

-- The code did what the action does, and read nothing. `see` says which value an answer stands for, and `fits` what
-- holds of it, in the table after.
pub record Does {X A : Type 0} (see : List Node → X → A) (fits : List Node → X → Type 0) (act : Action A)
    (before after : Runtime) (result : Result X Exit) : Type 0 where
  pub grows : Grows before.nodes after.nodes
  pub meets : (more : List ℕ) → Meets (see after.nodes) (act (world before more)) (world after more) result
  pub answer : OnAnswer (fits after.nodes) result
  pub unread : untouched after ≡ untouched before

-- a read fault has its cause
abbrev pub HasCause : {X : Type 0} → Result X Exit → Feed → Type 0
HasCause (Ok x) f = Unit {0}
HasCause (Err Failure) f = Unit {0}
HasCause (Err (Halt (HasError code))) f = Unit {0}
HasCause (Err (Halt (HasErrorIn code statement))) f = Unit {0}
HasCause (Err (Halt NoMemory)) f = Unit {0}
HasCause (Err (Halt ReadFault)) f = f.broken ≡ true
HasCause (Err (Halt WriteFault)) f = Unit {0}
HasCause (Err (Halt HasEnded)) f = Unit {0}

-- The code did what the action does, for whatever input may still come behind what the reader gave; nothing comes once
-- the end was told.
pub record Reads {X A : Type 0} (see : List Node → X → A) (fits : List Node → X → Type 0) (act : Action A)
    (before after : Runtime) (old new : Feed) (result : Result X Exit) : Type 0 where
  pub given : List ℕ
  pub consumed : Consumes old.left new.left given
  pub ended : before.reading.told_end ≡ true → (given ≡ []) × (after.reading.told_end ≡ true)
  pub grows : Grows before.nodes after.nodes
  pub meets : (more : List ℕ) → (after.reading.told_end ≡ true → more ≡ [])
      → MeetsReading (see after.nodes) (act (world before (given ++ more))) (world after more) result
  pub answer : OnAnswer (fits after.nodes) result
  pub kept : after.keywords ≡ before.keywords
  pub calls : after.store.calls ≡ before.store.calls
  pub tells : after.reading.told_end ≡ true → new.at_end ≡ true
  pub ready : OnGoing result (IsReady after new)
  pub cause : HasCause result new

abbrev pub any : {X : Type 0} → List Node → X → Type 0
any nodes x = Unit {0}

-- a node that is there is counted as one more, or one must be made, or there are as many as there may be
abbrev pub TellsAgain : Bool → PatId → Runtime → Runtime → Result (Option PatId) Exit → Type 0
TellsAgain same last before after (Ok (Some id)) =
    (made_nodes before < 4000000) × (same ≡ true) × (id ≡ last) × (after ≡ record before { counted = suc before.counted })
TellsAgain same last before after (Ok None) = (made_nodes before < 4000000) × (after ≡ before)
TellsAgain same last before after (Err e) = (4000000 ≤ made_nodes before) × (e ≡ Halt (HasError 9)) × (after ≡ before)

-- a runtime that has counted so many nodes more
abbrev pub counting : Runtime → ℕ → Runtime
counting s n = record s { counted = s.counted + n }

-- how a run ends where a builder refuses
abbrev pub exit_of : BuildError → Exit
exit_of refusal.NullSet = Halt (HasError 6)
exit_of refusal.BadCount = Halt (HasError 7)
exit_of refusal.Full = Halt (HasError 9)
exit_of refusal.NoMemory = Halt NoMemory

abbrev pub exit_of_store : StoreError → Exit
exit_of_store store_refusal.NullName = Halt (HasError 6)
exit_of_store store_refusal.Full = Halt (HasError 9)
exit_of_store store_refusal.WrongType = Halt (HasError 1)
exit_of_store store_refusal.BadPrototype = Halt (HasError 12)
exit_of_store store_refusal.CallLevel = Halt (HasError 10)
exit_of_store store_refusal.NoMemory = Halt NoMemory

-- what the answer of the input is to a program, whose &TRIM is given
abbrev pub value_of_line : ℤ → Result (Option (Vec ℕ Global)) LineError → Result Stored Exit
value_of_line trim (Ok (Some line)) = Ok (stored.Str (line_kept trim line.items))
value_of_line trim (Ok None) = Err Failure
value_of_line trim (Err too.TooLong) = Err (Halt (HasError 8))
value_of_line trim (Err too.ReadFault) = Err (Halt ReadFault)
value_of_line trim (Err too.NoMemory) = Err (Halt NoMemory)
