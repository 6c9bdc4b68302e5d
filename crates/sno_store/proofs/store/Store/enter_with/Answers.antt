use Rattle.std.proofs.Common.{◌∙◌, [], ap, arith, length}
use Rattle.std.proofs.lemmas.List.{length_push}
use Rattle.sno_value.specs.declared.value.Value.TheVariants.{Str}
use Rattle.sno_store.specs.Calls.{saved}
use Rattle.sno_store.proofs.CallLaws.{length-entered}
use Rattle.sno_store.proofs.store.Store.enter_with.Goals as goal

pub invariant_of-self-2 : goal.invariant_of-self-2
invariant_of-self-2 c =
    let call = saved (Str []) c.args.function.0 c.in-Some.definition.now c.self.inside.values.items in (
      ap length c.in_ok-open.ensures.values ∙ length-entered (Str []) c.args.function.0 c.in-Some.definition.now c.args.arguments.now
          c.self.inside.values.items ∙ c.self.invariant.0,
      c.self.invariant.1,
      omega (arith, c.self.invariant.2, c.len.ensures, c.if-len-eq-MOST_CALLS.false, ap length c.in_ok-open.ensures.ok, length_push c.self.inside.calls call),
      c.self.invariant.3,
    )
