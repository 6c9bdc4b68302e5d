use Rattle.std.proofs.lemmas.Result.{err_from_is_err_and}
use Rattle.sno_pattern.specs.Pattern.{Arbno}
use Rattle.sno_runtime.proofs.Conversions.{value_made, value_refused}
use Rattle.sno_runtime.proofs.Arguments.{body_refused, body_made}
use Rattle.sno_runtime.proofs.functions.repetition.Goals as goal

pub returns-in_err-body : goal.returns-in_err-body
returns-in_err-body c =
    let p = err_from_is_err_and c.from_residual.result c.from_residual.ensures.1 in
    rw (p.1, p.2) (body_refused Arbno _ _ _ _ c.in_err-body.ensures)

pub returns-in_err-id : goal.returns-in_err-id
returns-in_err-id c =
    let p = err_from_is_err_and c.from_residual-in_err-id.result c.from_residual-in_err-id.ensures.1 in
    rw (p.1, p.2) (body_made Arbno _ _ _ _ _ _ c.in_ok-body.ensures (value_refused _ _ _ _ c.in_err-id.ensures))

pub returns : goal.returns
returns c = body_made Arbno _ _ _ _ _ _ c.in_ok-body.ensures (value_made _ _ _ _ c.in_ok-id.ensures)
