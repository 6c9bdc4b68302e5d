use Rattle.std.proofs.Common.{refl}
use Rattle.std.proofs.lemmas.Result.{err_from_is_err_and}
use Rattle.sno_runtime.specs.Values.{shown, IsValueOf, Name}
use Rattle.sno_statement.specs.Statements.{by_name}
use Rattle.sno_statement.proofs.RunningLaws.{does_runs}
use Rattle.sno_statement.proofs.StatementLaws.{part_runs, part_ended, name_runs}
use Rattle.sno_statement.proofs.naming.named.Goals as goal

pub returns-in-Some : goal.returns-in-Some
returns-in-Some g c =
    let call = g.S.Calls.caller c.args.scope.now in
    let target = c.in-Some.target in
    let gave = does_runs shown IsValueOf _ _ _ _ _ c.requires.ready ((rw c.code.ensures at c.in-Some.ensures) call) in
    record {
      ready = c.requires.ready;
      calls = refl;
      leads = λ next s f r did. part_runs (by_name next) gave (name_runs next (Name target) target refl did);
    }

pub returns-in_err-entry : goal.returns-in_err-entry
returns-in_err-entry g c =
    let p = err_from_is_err_and c.from_residual.result c.from_residual.ensures.1 in
    let call = g.S.Calls.caller c.args.scope.now in
    let lost = does_runs shown IsValueOf _ _ _ _ _ c.requires.ready ((rw c.code-2.ensures at c.in_err-entry.ensures.ends) call) in
    rw (p.1, p.2) (λ next. part_ended (by_name next) lost)

pub returns-in-Some-entry : goal.returns-in-Some-entry
returns-in-Some-entry g c =
    let call = g.S.Calls.caller c.args.scope.now in
    let target = c.in-Some-entry.target in
    let names = rw (c.in-Some-entry.is, c.code-2.ensures) at c.in_ok-entry.ensures.names in
    let gave = does_runs shown IsValueOf _ _ _ _ _ c.requires.ready (names call) in
    record {
      ready = gave.ready;
      calls = gave.calls;
      leads = λ next s f r did. part_runs (by_name next) gave (name_runs next (Name target) target refl did);
    }
