use Rattle.std.proofs.Common.{List, ◌≡◌, ℕ, Some, refl, sym, rules}
use Rattle.std.proofs.lemmas.Result.{err_from_is_err_and}
use Rattle.sno_runtime.proofs.Conversions.{missing}
use Rattle.sno_value.specs.Strings.{replaced}
use Rattle.sno_value.specs.declared.value.Value.TheVariants as stored
use Rattle.sno_runtime.specs.Values.{Str, shown, IsValueOf}
use Rattle.sno_runtime.proofs.Outcomes.{gives_does}
use Rattle.sno_runtime.proofs.FunctionLaws.{absent, length-replaced}
use Rattle.sno_runtime.proofs.texts.replaced.Goals as goal

pub returns-in_err-text : goal.returns-in_err-text
returns-in_err-text c s k =
    let p = err_from_is_err_and c.from_residual.result c.from_residual.ensures.1 in
    rw (p.1, p.2) (missing {X = List ℕ} (λ t. t) _ _ s _ (absent _ _) (c.in_err-text.ensures.text s.nodes))

pub returns-in_err-from : goal.returns-in_err-from
returns-in_err-from c s k =
    let p = err_from_is_err_and c.from_residual-in_err-from.result c.from_residual-in_err-from.ensures.1 in
    rw (p.1, p.2, c.in_ok-text.ensures.text s.nodes) (missing {X = List ℕ} (λ t. t) _ _ s _ (absent _ _) (c.in_err-from.ensures.text s.nodes))

pub returns-in_err-to : goal.returns-in_err-to
returns-in_err-to c s k =
    let p = err_from_is_err_and c.from_residual-in_err-to.result c.from_residual-in_err-to.ensures.1 in
    rw (p.1, p.2, c.in_ok-text.ensures.text s.nodes, c.in_ok-from.ensures.text s.nodes)
    (missing {X = List ℕ} (λ t. t) _ _ s _ (absent _ _) (c.in_err-to.ensures.text s.nodes))

pub returns-in-Some : goal.returns-in-Some
returns-in-Some c s k =
    let made : Some c.in-Some.text ≡ replaced c.in_ok-text.text c.in_ok-from.from c.in_ok-to.to = search rules in
    let long = length-replaced _ _ _ _ (sym made) in
    let short = c.in_ok-text.ensures.short s.nodes k in
    rw (c.in_ok-text.ensures.text s.nodes, c.in_ok-from.ensures.text s.nodes, c.in_ok-to.ensures.text s.nodes, ← made)
    (gives_does shown IsValueOf s (stored.Str c.in-Some.text) (Str c.in-Some.text) refl (rw long short))
