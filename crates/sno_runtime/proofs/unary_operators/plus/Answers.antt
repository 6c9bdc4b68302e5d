use Rattle.std.proofs.Common.{ℤ}
use Rattle.std.proofs.lemmas.Result.{err_from_is_err_and}
use Rattle.sno_runtime.proofs.Conversions.{missing, either_none}
use Rattle.sno_runtime.proofs.unary_operators.plus.Goals as goal

pub returns-in_err-number : goal.returns-in_err-number
returns-in_err-number c s =
    let p = err_from_is_err_and c.from_residual.result c.from_residual.ensures.1 in
    rw (p.1, p.2) (missing {X = ℤ} (λ n. n) _ _ s _ (either_none _ _) (c.in_err-number.ensures s.nodes))
