use Rattle.std.proofs.lemmas.Result.{err_from_is_err_and}
use Rattle.sno_runtime.proofs.Conversions.{value_made, value_refused}
use Rattle.sno_runtime.proofs.unary_operators.cursor_pattern.Goals as goal

pub returns-in_err-id-in-Name : goal.returns-in_err-id-in-Name
returns-in_err-id-in-Name c =
    let p = err_from_is_err_and c.from_residual.result c.from_residual.ensures.1 in
    rw (p.1, p.2, c.in-Name.is) (value_refused _ _ _ _ c.in_err-id-in-Name.ensures)

pub returns-in_ok-id-in-Name : goal.returns-in_ok-id-in-Name
returns-in_ok-id-in-Name c = rw c.in-Name.is (value_made _ _ _ _ c.in_ok-id-in-Name.ensures)
