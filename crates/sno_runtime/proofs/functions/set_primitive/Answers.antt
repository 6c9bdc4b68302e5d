use Rattle.std.proofs.Common.{List, ℕ}
use Rattle.std.proofs.lemmas.Result.{err_from_is_err_and}
use Rattle.sno_runtime.specs.Runtime.{tree_of, IsPatternOf}
use Rattle.sno_runtime.proofs.Conversions.{missing_in}
use Rattle.sno_runtime.proofs.Arguments.{set_none, set_value}
use Rattle.sno_runtime.proofs.functions.set_primitive.Goals as goal

pub returns-in_err-set : goal.returns-in_err-set
returns-in_err-set c =
    let p = err_from_is_err_and c.from_residual.result c.from_residual.ensures.1 in
    rw (p.1, p.2) (missing_in {X = List ℕ} (λ t. t) tree_of IsPatternOf _ _ c.args.runtime.now _ (set_none _ _)
    (c.in_err-set.ensures.text c.args.runtime.now.nodes))

pub returns-in_err-id : goal.returns-in_err-id
returns-in_err-id c =
    let p = err_from_is_err_and c.from_residual-in_err-id.result c.from_residual-in_err-id.ensures.1 in
    rw (p.1, p.2, c.in_ok-set.ensures.text c.args.runtime.now.nodes, set_value, ← c.as_slice.ensures) c.in_err-id.ensures

pub returns : goal.returns
returns c = rw (c.in_ok-set.ensures.text c.args.runtime.now.nodes, set_value, ← c.as_slice.ensures) c.in_ok-id.ensures
