use Rattle.std.proofs.Common.{List, ℕ}
use Rattle.std.proofs.lemmas.Result.{err_from_is_err_and}
use Rattle.sno_runtime.proofs.Conversions.{missing}
use Rattle.sno_runtime.proofs.FunctionLaws.{absent}
use Rattle.sno_runtime.proofs.containers.convert.Goals as goal

pub returns-in_err-text : goal.returns-in_err-text
returns-in_err-text c =
    let p = err_from_is_err_and c.from_residual.result c.from_residual.ensures.1 in
    let runtime = c.args.runtime.now in
    rw (p.1, p.2) (missing {X = List ℕ} (λ t. t) _ _ runtime _ (absent _ _) (c.in_err-text.ensures.text runtime.nodes))
