use Rattle.std.proofs.lemmas.Result.{err_from_is_err_and}
use Rattle.sno_statement.specs.Statements.{by_name}
use Rattle.sno_statement.proofs.StatementLaws.{part_runs, part_ended, name_runs, nameless_runs}
use Rattle.sno_statement.proofs.naming.evaluated_name.Goals as goal

pub returns-in_err-name : goal.returns-in_err-name
returns-in_err-name g c =
    let p = err_from_is_err_and c.from_residual.result c.from_residual.ensures.1 in
    let lost = rw c.name_of-part.ensures at c.in_err-name.ensures in
    rw (p.1, p.2) (λ next. part_ended (by_name next) lost)

pub returns-in_err-target : goal.returns-in_err-target
returns-in_err-target g c =
    let p = err_from_is_err_and c.from_residual-in_err-target.result c.from_residual-in_err-target.ensures.1 in
    let gave = rw c.name_of-part.ensures at c.in_ok-name.ensures in
    rw (p.1, p.2) (λ next. part_runs (by_name next) gave
    (nameless_runs next _ gave.ready (c.in_err-target.ensures c.evaluate_root.new.runtime.nodes)))

pub returns : goal.returns
returns g c =
    let gave = rw c.name_of-part.ensures at c.in_ok-name.ensures in
    record {
      ready = gave.ready;
      calls = gave.calls;
      leads = λ next s f r did. part_runs (by_name next) gave (name_runs next _ c.in_ok-target.target
          (c.in_ok-target.ensures c.evaluate_root.new.runtime.nodes) did);
    }
