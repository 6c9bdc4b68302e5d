use Rattle.std.proofs.Common.{ap, ◌∙◌, Some, Err}
use Rattle.std.proofs.lemmas.Result.{err_from_is_err_and}
use Rattle.sno_statement.proofs.RunningLaws.{answered}
use Rattle.sno_statement.proofs.StatementLaws.{of_part, pattern_runs, patternless_runs}
use Rattle.sno_statement.proofs.matching.evaluated_pattern.Goals as goal

pub returns-in_err-value : goal.returns-in_err-value
returns-in_err-value g c =
    let p = err_from_is_err_and c.from_residual.result c.from_residual.ensures.1 in
    let lost = of_part _ _ (ap Some c.value_of-part.ensures) c.in_err-value.ensures in
    rw (← c.makes_for.ensures) (answered (p.1 ∙ ap Err p.2) (patternless_runs _ _ _ lost))

pub as_pattern-requires : goal.as_pattern-requires
as_pattern-requires g c = c.in_ok-value.ensures.answer

pub returns-in_err-id : goal.returns-in_err-id
returns-in_err-id g c =
    let p = err_from_is_err_and c.from_residual-in_err-id.result c.from_residual-in_err-id.ensures.1 in
    let gave = of_part _ _ (ap Some c.value_of-part.ensures) c.in_ok-value.ensures in
    rw (← c.makes_for.ensures) (answered (p.1 ∙ ap Err p.2) (pattern_runs _ _ c.args.pattern gave c.in_err-id.ensures))

pub returns : goal.returns
returns g c =
    rw (c.makes_once.ensures, c.keep_whole.ensures, ← c.makes_for.ensures)
    (pattern_runs _ _ c.args.pattern (of_part _ _ (ap Some c.value_of-part.ensures) c.in_ok-value.ensures) c.in_ok-id.ensures)
