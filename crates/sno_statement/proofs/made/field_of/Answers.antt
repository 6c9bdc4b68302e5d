use Rattle.std.proofs.Common.{subst}
use Rattle.sno_runtime.specs.Fields.{field_value}
use Rattle.sno_runtime.specs.inner.Runtime.{Does}
use Rattle.sno_runtime.specs.Values.{Value as Shown, shown, IsValueOf}
use Rattle.sno_statement.proofs.made.field_of.Goals as goal

pub returns : goal.returns
returns c =
    subst (λ (v : Shown). Does shown IsValueOf (field_value c.args.function.0 v) c.args.runtime.now c.args.runtime.now c.field_value.result)
    (c.argument-object.ensures.value c.args.runtime.now.nodes) c.field_value.ensures
