use Rattle.sno_store.proofs.CallLaws.{begun_values, stands_at}
use Rattle.std.proofs.Common.{◌∙◌, [], ap, drop}
use Rattle.sno_value.specs.declared.value.Value.TheVariants.{Str}
use Rattle.sno_store.specs.Calls.{restored}
use Rattle.sno_store.specs.inner.Seen.{numbered}
use Rattle.sno_store.proofs.calls.take_result.Goals as goal

pub returns-in-Some-clause-values : goal.returns-in-Some-clause-values
returns-in-Some-clause-values c =
    let ss = c.args.saved.now in
    let is = stands_at ss c.args.held c.in-Some.field-0.now c.in-Some.ensures.lookup.3.0 c.in-Some.ensures.lookup.3.1 in
    ap (restored (numbered (drop c.args.held ss))) c.taken.ensures.values
    ∙ begun_values ss c.args.held c.in-Some.field-0.now c.args.values.now.items (Str []) is
