use Rattle.std.proofs.lemmas.Result.{err_from_is_err_and}
use Rattle.sno_runtime.proofs.FieldLaws.{no_symbol, field_named, field_not_named}
use Rattle.sno_runtime.proofs.fields.field_as_name.Goals as goal

pub returns-in_default : goal.returns-in_default
returns-in_default c =
    rw c.error.ensures (no_symbol c.args.function.now _ _ c.find_symbol.result c.in_default.not-Some (rw c.store.ensures at c.find_symbol.ensures))

pub returns-in_err-name : goal.returns-in_err-name
returns-in_err-name c =
    let p = err_from_is_err_and c.from_residual.result c.from_residual.ensures.1 in
    rw (p.1, p.2)
    (field_not_named c.args.function.now _ _ c.find_symbol.result c.in-Some.symbol _ c.in-Some.is (rw c.store.ensures at c.find_symbol.ensures) c.in_err-name.ensures)

pub returns : goal.returns
returns c =
    field_named c.args.function.now _ _ c.find_symbol.result c.in-Some.symbol _ c.in-Some.is (rw c.store.ensures at c.find_symbol.ensures) c.in_ok-name.ensures
