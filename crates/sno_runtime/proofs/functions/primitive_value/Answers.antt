use Rattle.std.proofs.lemmas.Result.{err_from_is_err_and}
use Rattle.sno_runtime.proofs.Conversions.{value_made, value_refused}
use Rattle.sno_runtime.proofs.Arguments.{primitive_at_once}
use Rattle.sno_runtime.proofs.functions.primitive_value.Goals as goal

pub returns-in_err-id : goal.returns-in_err-id
returns-in_err-id c =
    let p = err_from_is_err_and c.from_residual.result c.from_residual.ensures.1 in
    rw (p.1, p.2, c.in-Expr.is) (value_refused _ _ _ _ c.in_err-id.ensures)

pub returns-in-Expr : goal.returns-in-Expr
returns-in-Expr c = rw c.in-Expr.is (value_made _ _ _ _ c.in_ok-id.ensures)

pub returns-in_err-id-2 : goal.returns-in_err-id-2
returns-in_err-id-2 c =
    let p = err_from_is_err_and c.from_residual-in_err-id-2.result c.from_residual-in_err-id-2.ensures.1 in
    rw (p.1, p.2, primitive_at_once c.args.prim c.args.runtime.now.nodes c.args.operand c.in_default.not-Expr) (value_refused _ _ _ _ c.in_err-id-2.ensures)

pub returns : goal.returns
returns c = rw (primitive_at_once c.args.prim c.args.runtime.now.nodes c.args.operand c.in_default.not-Expr) (value_made _ _ _ _ c.in_ok-id-2.ensures)
