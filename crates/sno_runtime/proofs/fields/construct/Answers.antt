use Rattle.std.proofs.lemmas.Result.{err_from_is_err_and}
use Rattle.sno_runtime.proofs.FieldLaws.{constructed, not_constructed}
use Rattle.sno_runtime.proofs.fields.construct.Goals as goal

pub returns-in_err-id : goal.returns-in_err-id
returns-in_err-id c =
    let p = err_from_is_err_and c.from_residual.result c.from_residual.ensures.1 in
    rw (p.1, p.2) (not_constructed _ _ _ _ _ c.in_err-id.ensures)

pub returns : goal.returns
returns c = constructed _ _ _ _ _ c.in_ok-id.ensures
