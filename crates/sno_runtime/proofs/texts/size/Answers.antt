use Rattle.std.proofs.Common.{List, ℕ}
use Rattle.std.proofs.lemmas.Result.{err_from_is_err_and}
use Rattle.sno_runtime.proofs.Conversions.{missing}
use Rattle.sno_runtime.proofs.FunctionLaws.{absent}
use Rattle.sno_runtime.proofs.texts.size.Goals as goal

pub returns-in_err-text : goal.returns-in_err-text
returns-in_err-text c s =
    let p = err_from_is_err_and c.from_residual.result c.from_residual.ensures.1 in
    rw (p.1, p.2) (missing {X = List ℕ} (λ t. t) _ _ s _ (absent _ _) (c.in_err-text.ensures.text s.nodes))
