use Rattle.std.proofs.Common.{List, ℕ}
use Rattle.std.proofs.lemmas.Result.{err_from_is_err_and}
use Rattle.sno_runtime.proofs.Conversions.{missing}
use Rattle.sno_runtime.proofs.FunctionLaws.{absent}
use Rattle.sno_runtime.proofs.texts.is_after.Goals as goal

pub returns-in_err-first : goal.returns-in_err-first
returns-in_err-first c s =
    let p = err_from_is_err_and c.from_residual.result c.from_residual.ensures.1 in
    rw (p.1, p.2) (missing {X = List ℕ} (λ t. t) _ _ s _ (absent _ _) (c.in_err-first.ensures.text s.nodes))

pub returns-in_err-second : goal.returns-in_err-second
returns-in_err-second c s =
    let p = err_from_is_err_and c.from_residual-in_err-second.result c.from_residual-in_err-second.ensures.1 in
    rw (p.1, p.2, c.in_ok-first.ensures.text s.nodes) (missing {X = List ℕ} (λ t. t) _ _ s _ (absent _ _) (c.in_err-second.ensures.text s.nodes))

pub returns : goal.returns
returns c s = rw (
  c.in_ok-first.ensures.text s.nodes,
  c.in_ok-second.ensures.text s.nodes,
  ← c.as_slice.ensures,
  ← c.as_slice-2.ensures,
  ← c.lgt.ensures,
) (c.null_where.ensures s)
