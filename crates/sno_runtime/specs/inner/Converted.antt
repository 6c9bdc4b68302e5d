-- What is asked of a value that may not have it. Private contracts alone cite it.
use Rattle.std.specs.Prelude.{◌≡◌, Bool, true, false, Option, None, Some, Result, Ok, Err}
use Rattle.sno_value.specs.declared.value.Value.{Value as Stored}
use Rattle.sno_value.specs.declared.value.Value.TheVariants.{Str, Int}
use Rattle.sno_runtime.specs.declared.stops.Exit.{Exit}
use Rattle.sno_runtime.specs.declared.stops.Exit.TheVariants.{Failure, Halt}
use Rattle.sno_runtime.specs.declared.stops.Stop.TheVariants.{Error as HasError, ErrorIn as HasErrorIn, NoMemory}
use Rattle.sno_runtime.specs.declared.stops.Stop.TheVariants.{ReadFault, WriteFault, Ended as HasEnded}

-- a string or an integer
abbrev pub has_text : Stored → Bool
has_text (Str bytes) = true
has_text (Int number) = true
has_text other = false

-- the answer is what there is; where there is nothing, it is error 1
abbrev pub IsThere : {X A : Type 0} → (X → A) → Option A → Result X Exit → Type 0
IsThere see o (Ok x) = o ≡ Some (see x)
IsThere see o (Err Failure) = ⊥
IsThere see o (Err (Halt (HasError code))) = (o ≡ None) × (code ≡ 1)
IsThere see o (Err (Halt (HasErrorIn code statement))) = ⊥
IsThere see o (Err (Halt NoMemory)) = Unit {0}
IsThere see o (Err (Halt ReadFault)) = ⊥
IsThere see o (Err (Halt WriteFault)) = ⊥
IsThere see o (Err (Halt HasEnded)) = ⊥
