use Rattle.std.proofs.lemmas.Result.{err_from_is_err_and}
use Rattle.sno_runtime.proofs.ContainerLaws.{table_given, table_refused}
use Rattle.sno_runtime.proofs.containers.table.Goals as goal

pub returns-in_err-id : goal.returns-in_err-id
returns-in_err-id c =
    let p = err_from_is_err_and c.from_residual.result c.from_residual.ensures.1 in
    rw (p.1, p.2) (table_refused _ _ _ c.in_err-id.ensures)

pub returns : goal.returns
returns c = table_given _ _ _ c.in_ok-id.ensures
