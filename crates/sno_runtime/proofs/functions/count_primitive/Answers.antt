use Rattle.std.proofs.Common.{ℤ, rules}
use mir.Syntax.{w64}
use mir.Val.{SFits}
use Rattle.std.proofs.lemmas.Int.{to_z-of_z}
use Rattle.std.proofs.lemmas.Result.{err_from_is_err_and}
use Rattle.sno_runtime.specs.Runtime.{tree_of, IsPatternOf}
use Rattle.sno_runtime.proofs.Conversions.{missing_in}
use Rattle.sno_runtime.proofs.Arguments.{count_none, count_value}
use Rattle.sno_runtime.proofs.functions.count_primitive.Goals as goal

pub returns-in_err-count : goal.returns-in_err-count
returns-in_err-count c =
    let p = err_from_is_err_and c.from_residual.result c.from_residual.ensures.1 in
    rw (p.1, p.2) (missing_in {X = ℤ} (λ n. n) tree_of IsPatternOf _ _ c.args.runtime.now _ (count_none _ _) (c.in_err-count.ensures c.args.runtime.now.nodes))

pub returns-in_err-id : goal.returns-in_err-id
returns-in_err-id c =
    let p = err_from_is_err_and c.from_residual-in_err-id.result c.from_residual-in_err-id.ensures.1 in
    let fits : SFits w64 c.in_ok-count.count = search rules in
    rw (p.1, p.2, c.in_ok-count.ensures c.args.runtime.now.nodes, count_value) (simp to_z-of_z at c.in_err-id.ensures)

pub returns : goal.returns
returns c =
    let fits : SFits w64 c.in_ok-count.count = search rules in
    rw (c.in_ok-count.ensures c.args.runtime.now.nodes, count_value) (simp to_z-of_z at c.in_ok-id.ensures)
