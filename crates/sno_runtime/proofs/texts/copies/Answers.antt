use Rattle.std.proofs.Common.{List, ◌≡◌, ℕ, ℤ, Some, Ok, refl, sym, rules}
use Rattle.std.proofs.lemmas.Result.{err_from_is_err_and}
use Rattle.sno_runtime.proofs.Conversions.{missing}
use mir.Syntax.{w64}
use mir.Val.{SFits}
use Rattle.sno_value.specs.Strings.{duplicate}
use Rattle.sno_value.specs.declared.value.Value.TheVariants as stored
use Rattle.sno_runtime.specs.Values.{Str, shown, IsValueOf}
use Rattle.sno_runtime.proofs.Outcomes.{gives_does}
use Rattle.sno_runtime.proofs.FunctionLaws.{absent, length-duplicate}
use Rattle.sno_runtime.proofs.texts.copies.Goals as goal

pub returns-in_err-text : goal.returns-in_err-text
returns-in_err-text c s =
    let p = err_from_is_err_and c.from_residual.result c.from_residual.ensures.1 in
    rw (p.1, p.2) (missing {X = List ℕ} (λ t. t) _ _ s _ (absent _ _) (c.in_err-text.ensures.text s.nodes))

pub returns-in_err-count : goal.returns-in_err-count
returns-in_err-count c s =
    let p = err_from_is_err_and c.from_residual-in_err-count.result c.from_residual-in_err-count.ensures.1 in
    rw (p.1, p.2, c.in_ok-text.ensures.text s.nodes) (missing {X = ℤ} (λ n. n) _ _ s _ (absent _ _) (c.in_err-count.ensures s.nodes))

pub returns-in-Ok-Some : goal.returns-in-Ok-Some
returns-in-Ok-Some c s =
    let fits : SFits w64 c.in_ok-count.count = search rules in
    let made : Ok (Some c.in-Ok-Some.copied) ≡ duplicate c.in_ok-text.text c.in_ok-count.count = search rules in
    rw (c.in_ok-text.ensures.text s.nodes, c.in_ok-count.ensures s.nodes, ← made)
    (gives_does shown IsValueOf s (stored.Str c.in-Ok-Some.copied) (Str c.in-Ok-Some.copied) refl (length-duplicate _ _ _ (sym made)))
