use Rattle.std.proofs.lemmas.Result.{err_from_is_err_and}
use Rattle.sno_runtime.proofs.Names.{name_given, name_refused}
use Rattle.sno_runtime.proofs.unary_operators.unary_name.Goals as goal

pub returns-in_err-target-in-Indirect : goal.returns-in_err-target-in-Indirect
returns-in_err-target-in-Indirect c =
    let p = err_from_is_err_and c.from_residual.result c.from_residual.ensures.1 in
    rw (p.1, p.2, c.in-Indirect.is) (name_refused _ _ _ _ c.in_err-target-in-Indirect.ensures)

pub returns-in_ok-target-in-Indirect : goal.returns-in_ok-target-in-Indirect
returns-in_ok-target-in-Indirect c = rw c.in-Indirect.is (name_given _ _ _ _ c.in_ok-target-in-Indirect.ensures)
