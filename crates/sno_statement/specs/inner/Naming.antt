-- What the subject of a statement names.
use Rattle.std.specs.Prelude.{◌≡◌, Result, Ok, Err}
use Rattle.sno_value.specs.declared.ids.ExprId.{ExprId}
use Rattle.sno_value.specs.declared.value.Name.{Name as Target}
use Rattle.sno_text.specs.Program.{Program}
use Rattle.sno_runtime.specs.declared.stops.Exit.{Exit}
use Rattle.sno_runtime.specs.Action.{Action, and_then}
use Rattle.sno_runtime.specs.Runtime.{Runtime, itself}
use Rattle.sno_runtime.specs.inner.Runtime.{any}
use Rattle.sno_expression.specs.Evaluate.{Caller, expression}
use Rattle.sno_expression.specs.Forms.{name}
use Rattle.sno_statement.specs.Running.{Devices, CanRun, Runs}
use Rattle.sno_statement.specs.Statements.{by_name}

-- what goes on with the name of a subject
abbrev pub with_name : Program → Caller → ExprId → (Target → Action Unit) → Action Unit
with_name program call subject next = and_then (expression program call (name subject)) (by_name next)

-- the name is known: what goes on with it is what goes on with that of the subject
pub record Named (program : Program) (call : Caller) (subject : ExprId) (a b : Runtime) (d e : Devices) (target : Target) : Type 0 where
  pub ready : CanRun b e
  pub calls : b.store.calls ≡ a.store.calls
  pub leads : (next : Target → Action Unit) (c : Runtime) (f : Devices) (r : Result Unit Exit)
      → Runs itself any (next target) b c e f r → Runs itself any (with_name program call subject next) a c d f r

-- what came of it: a name, or the end of whatever goes on with it
abbrev pub IsNamed : Program → Caller → ExprId → Runtime → Runtime → Devices → Devices → Result Target Exit → Type 0
IsNamed program call subject a b d e (Ok target) = Named program call subject a b d e target
IsNamed program call subject a b d e (Err x) =
    (next : Target → Action Unit) → Runs {X = Unit} itself any (with_name program call subject next) a b d e (Err x)
