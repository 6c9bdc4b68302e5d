use Rattle.std.proofs.lemmas.Result.{err_from_is_err_and}
use Rattle.sno_runtime.proofs.ContainerLaws.{entries_refused, entries_given, no_entries}
use Rattle.sno_runtime.proofs.containers.to_array.Goals as goal

pub returns-in_err-array-in-Table : goal.returns-in_err-array-in-Table
returns-in_err-array-in-Table c =
    let p = err_from_is_err_and c.from_residual.result c.from_residual.ensures.1 in
    rw (p.1, p.2, c.in-Table.is) (entries_refused c.in-Table.id _ _ _ c.in_err-array-in-Table.ensures)

pub returns-in-Some : goal.returns-in-Some
returns-in-Some c = rw c.in-Table.is (entries_given c.in-Table.id _ _ _ (rw c.in-Some.is at c.in_ok-array-in-Table.ensures))

pub returns-in-None : goal.returns-in-None
returns-in-None c = rw c.in-Table.is (no_entries c.in-Table.id _ _ (rw c.in-None.is at c.in_ok-array-in-Table.ensures))
