use Rattle.std.proofs.Common.{ap, ◌∙◌, Err}
use Rattle.std.proofs.lemmas.Result.{err_from_is_err_and}
use Rattle.sno_statement.specs.Matches.{matches}
use Rattle.sno_statement.proofs.RunningLaws.{answered}
use Rattle.sno_statement.proofs.StatementLaws.{part_runs, part_ended}
use Rattle.sno_statement.proofs.matching.first_span.Goals as goal

pub returns-in_err-id : goal.returns-in_err-id
returns-in_err-id g c =
    let p = err_from_is_err_and c.from_residual.result c.from_residual.ensures.1 in
    answered (p.1 ∙ ap Err p.2) (part_ended _ c.in_err-id.ensures)

pub returns : goal.returns
returns g c =
    let program = g.S.Calls.code c.args.scope.now in
    let call = g.S.Calls.caller c.args.scope.now in
    part_runs (λ p. matches program call p c.args.text.now) c.in_ok-id.ensures c.span_of.ensures
