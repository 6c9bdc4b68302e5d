use Rattle.std.proofs.Common.{ap, length}
use Rattle.std.proofs.lemmas.Result.{err_from_is_err_and}
use Rattle.snobol.proofs.LineLaws.{refused_runs}
use Rattle.snobol.proofs.telling.evaluate_pattern.Goals as goal

pub pattern_of-requires : goal.pattern_of-requires
pattern_of-requires g c = record { level = ap length c.requires.can.closed; ready = c.requires.can.ready }

pub returns-in_err-code : goal.returns-in_err-code
returns-in_err-code g c =
    let p = err_from_is_err_and c.from_residual.result c.from_residual.ensures.1 in
    rw (p.1, p.2) (refused_runs _ _ _ _ _ c.requires.can.ready)

pub returns-in_err-pattern : goal.returns-in_err-pattern
returns-in_err-pattern g c =
    let p = err_from_is_err_and c.from_residual-in_err-pattern.result c.from_residual-in_err-pattern.ensures.1 in
    rw (p.1, p.2) (rw c.in_ok-code.ensures at c.in_err-pattern.ensures)

pub returns : goal.returns
returns g c = rw c.in_ok-code.ensures at c.in_ok-pattern.ensures
