use Rattle.std.proofs.lemmas.Result.{err_from_is_err_and}
use Rattle.sno_runtime.proofs.Names.{name_given, name_refused}
use Rattle.sno_runtime.proofs.items.item_name.Goals as goal

pub returns-in_err-name : goal.returns-in_err-name
returns-in_err-name c =
    let p = err_from_is_err_and c.from_residual.result c.from_residual.ensures.1 in
    rw (p.1, p.2) (name_refused _ _ _ _ c.in_err-name.ensures)

pub returns : goal.returns
returns c = name_given _ _ _ _ c.in_ok-name.ensures
