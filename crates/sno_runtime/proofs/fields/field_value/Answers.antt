use Rattle.std.proofs.lemmas.Result.{err_from_is_err_and}
use Rattle.sno_runtime.proofs.FieldLaws.{field_held_by, no_field_held}
use Rattle.sno_runtime.proofs.fields.field_value.Goals as goal

pub returns-in_err-name : goal.returns-in_err-name
returns-in_err-name c =
    let p = err_from_is_err_and c.from_residual.result c.from_residual.ensures.1 in
    rw (p.1, p.2) (no_field_held _ _ _ _ c.in_err-name.ensures)

pub returns : goal.returns
returns c = field_held_by c.args.symbol.0 _ _ _ _ c.in_ok-name.ensures c.stored.ensures
