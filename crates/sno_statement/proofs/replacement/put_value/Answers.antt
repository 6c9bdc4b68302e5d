use Rattle.std.proofs.lemmas.Result.{err_from_is_err_and}
use Rattle.sno_statement.proofs.StatementLaws.{can_run, text_runs, textless_runs}
use Rattle.sno_statement.proofs.replacement.put_value.Goals as goal

pub returns-in_err-new : goal.returns-in_err-new
returns-in_err-new g c = λ f ready.
    let p = err_from_is_err_and c.from_residual.result c.from_residual.ensures.1 in
    rw (p.1, p.2) (textless_runs _ _ (can_run _ f _ c.requires.sound ready) (c.in_err-new.ensures.text c.args.runtime.now.nodes))

pub returns : goal.returns
returns g c = λ f ready.
    let did = rw c.as_slice.ensures at c.put_text.ensures f ready in
    text_runs _ _ c.in_ok-new.new (c.in_ok-new.ensures.text c.args.runtime.now.nodes) did
