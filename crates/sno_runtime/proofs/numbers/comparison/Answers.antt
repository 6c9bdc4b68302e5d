use Rattle.std.proofs.Common.{◌≡◌, ℤ, rules}
use mir.Syntax.{w64}
use mir.Val.{SFits}
use Rattle.std.proofs.lemmas.Int.{to_z-of_z}
use Rattle.std.proofs.lemmas.Result.{err_from_is_err_and}
use Rattle.sno_runtime.specs.Functions.{stands}
use Rattle.sno_runtime.proofs.Conversions.{missing}
use Rattle.sno_runtime.proofs.FunctionLaws.{absent}
use Rattle.sno_runtime.proofs.numbers.comparison.Goals as goal

pub returns-in_err-m : goal.returns-in_err-m
returns-in_err-m c s =
    let p = err_from_is_err_and c.from_residual.result c.from_residual.ensures.1 in
    rw (p.1, p.2) (missing {X = ℤ} (λ n. n) _ _ s _ (absent _ _) (c.in_err-m.ensures s.nodes))

pub returns-in_err-n : goal.returns-in_err-n
returns-in_err-n c s =
    let p = err_from_is_err_and c.from_residual-in_err-n.result c.from_residual-in_err-n.ensures.1 in
    rw (p.1, p.2, c.in_ok-m.ensures s.nodes) (missing {X = ℤ} (λ n. n) _ _ s _ (absent _ _) (c.in_err-n.ensures s.nodes))

pub returns : goal.returns
returns c s =
    let m : SFits w64 c.in_ok-m.m = search rules in
    let n : SFits w64 c.in_ok-n.n = search rules in
    let is : c.stands.result ≡ stands c.args.relation c.in_ok-m.m c.in_ok-n.n = simp to_z-of_z at c.stands.ensures in
    rw (c.in_ok-m.ensures s.nodes, c.in_ok-n.ensures s.nodes, ← is) (c.null_where.ensures s)
