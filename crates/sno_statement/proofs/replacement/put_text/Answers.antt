use Rattle.std.proofs.lemmas.Result.{err_from_is_err_and}
use Rattle.sno_runtime.specs.Runtime.{itself}
use Rattle.sno_runtime.specs.inner.Runtime.{any}
use Rattle.sno_statement.proofs.StatementLaws.{can_run, no_memory_runs}
use Rattle.sno_statement.proofs.replacement.put_text.Goals as goal

pub returns-in_err-result : goal.returns-in_err-result
returns-in_err-result g c = λ f ready.
    let p = err_from_is_err_and c.from_residual.result c.from_residual.ensures.1 in
    rw (p.1, p.2) (no_memory_runs itself any _ _ _ (can_run _ f _ c.requires.sound ready))

pub returns : goal.returns
returns g c = λ f ready. rw c.in_ok-result.ensures at c.assign_text.ensures f ready
