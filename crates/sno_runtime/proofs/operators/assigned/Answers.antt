use Rattle.std.proofs.lemmas.Result.{err_from_is_err_and}
use Rattle.sno_runtime.proofs.Conversions.{value_made, value_refused}
use Rattle.sno_runtime.proofs.operators.assigned.Goals as goal

pub returns-in_err-id-in-Conditional : goal.returns-in_err-id-in-Conditional
returns-in_err-id-in-Conditional c =
    let p = err_from_is_err_and c.from_residual.result c.from_residual.ensures.1 in
    rw (p.1, p.2, c.in-Conditional.is) (value_refused _ _ _ _ c.in_err-id-in-Conditional.ensures)

pub returns-in_err-id-in-Immediate : goal.returns-in_err-id-in-Immediate
returns-in_err-id-in-Immediate c =
    let p = err_from_is_err_and c.from_residual-in_err-id-in-Immediate.result c.from_residual-in_err-id-in-Immediate.ensures.1 in
    rw (p.1, p.2, c.in-Immediate.is) (value_refused _ _ _ _ c.in_err-id-in-Immediate.ensures)

pub returns-in_ok-id-in-Conditional : goal.returns-in_ok-id-in-Conditional
returns-in_ok-id-in-Conditional c = rw c.in-Conditional.is (value_made _ _ _ _ c.in_ok-id-in-Conditional.ensures)

pub returns-in_ok-id-in-Immediate : goal.returns-in_ok-id-in-Immediate
returns-in_ok-id-in-Immediate c = rw c.in-Immediate.is (value_made _ _ _ _ c.in_ok-id-in-Immediate.ensures)
