use Rattle.std.proofs.Common.{ap, ◌∙◌, refl, Err}
use Rattle.std.proofs.lemmas.Result.{err_from_is_err_and}
use Rattle.sno_runtime.specs.Runtime.{tree_of, IsPatternOf}
use Rattle.sno_statement.proofs.RunningLaws.{answered, does_runs}
use Rattle.sno_statement.proofs.matching.made_pattern.Goals as goal

pub returns-in-Some : goal.returns-in-Some
returns-in-Some g c =
    does_runs tree_of IsPatternOf _ _ _ _ _ c.requires.ready ((rw c.code.ensures at c.in-Some.ensures.does) (g.S.Calls.caller c.args.scope.now))

pub returns-in_err-id : goal.returns-in_err-id
returns-in_err-id g c =
    let p = err_from_is_err_and c.from_residual.result c.from_residual.ensures.1 in
    answered (p.1 ∙ ap Err p.2) (rw (c.in_default.ensures.none refl) at c.in_err-id.ensures)

pub returns : goal.returns
returns g c = rw (c.in_default.ensures.none refl) at c.in_ok-id.ensures
