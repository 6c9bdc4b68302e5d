use Rattle.std.proofs.lemmas.Result.{err_from_is_err_and}
use Rattle.sno_statement.proofs.StatementLaws.{part_runs, part_ended}
use Rattle.sno_statement.proofs.replacement.put_object.Goals as goal

pub returns-in_err-value : goal.returns-in_err-value
returns-in_err-value g c =
    let p = err_from_is_err_and c.from_residual.result c.from_residual.ensures.1 in
    rw (p.1, p.2) (part_ended _ (rw c.value_of-part.ensures at c.in_err-value.ensures))

pub put_value-requires-clause-value : goal.put_value-requires-clause-value
put_value-requires-clause-value g c = c.in_ok-value.ensures.answer

pub put_value-requires-clause-sound : goal.put_value-requires-clause-sound
put_value-requires-clause-sound g c = c.in_ok-value.ensures.ready.writes

pub returns : goal.returns
returns g c = part_runs _ (rw c.value_of-part.ensures at c.in_ok-value.ensures) (c.put_value.ensures _ c.in_ok-value.ensures.ready.reads)
