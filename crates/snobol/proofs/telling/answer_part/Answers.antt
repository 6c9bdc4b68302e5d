use Rattle.std.proofs.Common.{ap, length}
use Rattle.std.proofs.lemmas.Result.{err_from_is_err_and}
use Rattle.snobol.proofs.LineLaws.{refused_runs}
use Rattle.snobol.proofs.telling.answer_part.Goals as goal

pub evaluate-value-requires : goal.evaluate-value-requires
evaluate-value-requires g c = record { level = ap length c.requires.can.closed; ready = c.requires.can.ready }

pub answer_of-requires : goal.answer_of-requires
answer_of-requires g c = c.evaluate-value.ensures.answer

pub returns-in_err-code : goal.returns-in_err-code
returns-in_err-code g c =
    let p = err_from_is_err_and c.from_residual.result c.from_residual.ensures.1 in
    rw (p.1, p.2) (refused_runs _ _ _ _ _ c.requires.can.ready)

pub returns-in_err-given : goal.returns-in_err-given
returns-in_err-given g c =
    let p = err_from_is_err_and c.from_residual-in_err-given.result c.from_residual-in_err-given.ensures.1 in
    rw (p.1, p.2) (c.in_err-given.ensures _ _ _ _ (rw (c.value_of.ensures, c.in_ok-code.ensures) at c.evaluate-value.ensures))

pub returns : goal.returns
returns g c = c.in_ok-given.ensures _ _ _ _ (rw (c.value_of.ensures, c.in_ok-code.ensures) at c.evaluate-value.ensures)
