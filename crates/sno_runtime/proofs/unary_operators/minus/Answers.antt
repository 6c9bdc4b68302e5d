use Rattle.std.proofs.Common.{◌≡◌, ℤ, pos, rules}
use Rattle.std.proofs.lemmas.Result.{err_from_is_err_and}
use Rattle.sno_value.specs.Arithmetic.{difference_of}
use mir.Syntax.{w64}
use mir.Val.{SFits}
use Rattle.std.proofs.lemmas.Int.{to_z-of_z}
use Rattle.sno_runtime.proofs.Conversions.{missing, zero_none}
use Rattle.sno_runtime.proofs.unary_operators.minus.Goals as goal

pub returns-in_err-number : goal.returns-in_err-number
returns-in_err-number c s =
    let p = err_from_is_err_and c.from_residual.result c.from_residual.ensures.1 in
    rw (p.1, p.2) (missing {X = ℤ} (λ n. n) _ _ s _ (zero_none _) (c.in_err-number.ensures s.nodes))

pub returns : goal.returns
returns c s =
    let fits : SFits w64 c.in_ok-number.number = search rules in
    let is : c.sub.result ≡ difference_of (pos 0) c.in_ok-number.number = simp to_z-of_z at c.sub.ensures in
    rw (c.in_ok-number.ensures s.nodes, ← is) (c.computed.ensures s)
