use Rattle.std.proofs.Common.{◌≡◌, ℤ, true, rules}
use mir.Syntax.{w64}
use mir.Val.{SFits}
use Rattle.std.proofs.lemmas.Int.{to_z-of_z}
use Rattle.std.proofs.lemmas.Result.{err_from_is_err_and}
use Rattle.sno_runtime.specs.inner.Operations.{is_arithmetic, calculated}
use Rattle.sno_runtime.proofs.Conversions.{missing, both_none, both_there, arithmetic_operation}
use Rattle.sno_runtime.proofs.operators.operation.Goals as goal

pub returns-in_err-x-in-Add : goal.returns-in_err-x-in-Add
returns-in_err-x-in-Add c =
    let p = err_from_is_err_and c.from_residual.result c.from_residual.ensures.1 in
    let is : is_arithmetic c.args.operator ≡ true = search rules in
    rw (p.1, p.2, arithmetic_operation _ _ _ is)
    (missing {X = ℤ × ℤ} (λ p. p) _ _ c.args.runtime.now _ (both_none _ _ _) (c.in_err-x-in-Add.ensures c.args.runtime.now.nodes))

pub returns-in_ok-x-in-Add : goal.returns-in_ok-x-in-Add
returns-in_ok-x-in-Add c =
    let is : is_arithmetic c.args.operator ≡ true = search rules in
    let x : SFits w64 c.in_ok-x-in-Add.x = search rules in
    let y : SFits w64 c.in_ok-x-in-Add.y = search rules in
    let gave : c.calculated.result ≡ calculated c.args.operator c.in_ok-x-in-Add.x c.in_ok-x-in-Add.y = simp to_z-of_z at c.calculated.ensures in
    rw (arithmetic_operation _ _ _ is, both_there _ _ _ _ (c.in_ok-x-in-Add.ensures c.args.runtime.now.nodes), ← gave) (c.computed.ensures c.args.runtime.now)

pub returns-in-Alternate : goal.returns-in-Alternate
returns-in-Alternate c = rw c.in-Alternate.is c.alternation.ensures

pub returns-in-Conditional : goal.returns-in-Conditional
returns-in-Conditional c = rw c.in-Conditional.is c.pattern_with_target.ensures

pub returns-in-Immediate : goal.returns-in-Immediate
returns-in-Immediate c = rw c.in-Immediate.is c.pattern_with_target-in-Immediate.ensures
