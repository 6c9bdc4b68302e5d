use Rattle.std.proofs.Common.{sym, ◌∙◌}
use Rattle.std.proofs.lemmas.Result.{err_from_is_err_and}
use Rattle.sno_runtime.specs.inner.Operations.{assignment_of}
use Rattle.sno_runtime.proofs.Conversions.{target_refused, target_joined}
use Rattle.sno_runtime.proofs.operators.pattern_with_target.Goals as goal

pub returns-in_err-body : goal.returns-in_err-body
returns-in_err-body c =
    let p = err_from_is_err_and c.from_residual.result c.from_residual.ensures.1 in
    rw (p.1, p.2, c.in-Name.is)
    (target_refused (assignment_of c.args.assignment) _ c.in-Name.target _ _ _ (sym (c.is_patternable.ensures c.args.runtime.now.nodes)
    ∙ c.if-not-is_patternable.false) c.in_err-body.ensures)

pub returns : goal.returns
returns c = rw c.in-Name.is
    (target_joined (assignment_of c.args.assignment) _ c.in-Name.target _ _ _ _ _ (sym (c.is_patternable.ensures c.args.runtime.now.nodes)
    ∙ c.if-not-is_patternable.false) c.in_ok-body.ensures c.assigned.ensures)
