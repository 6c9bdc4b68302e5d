use Rattle.std.proofs.Common.{List, ℕ, ◌≡◌, ◌-◌, length, take, refl, ap, ◌∙◌, arith}
use Rattle.std.proofs.lemmas.Result.{err_from_is_err_and}
use Rattle.sno_runtime.proofs.Conversions.{missing}
use Rattle.sno_value.specs.Strings.{trimmed}
use Rattle.sno_value.specs.declared.value.Value.TheVariants as stored
use Rattle.sno_runtime.specs.Values.{Str, shown, IsValueOf}
use Rattle.sno_runtime.proofs.Outcomes.{gives_does}
use Rattle.sno_runtime.proofs.FunctionLaws.{absent, length-trimmed}
use Rattle.sno_runtime.proofs.InputLaws.{trimmed_begins}
use Rattle.sno_runtime.proofs.texts.trimmed.Goals as goal

pub returns-in_err-text : goal.returns-in_err-text
returns-in_err-text c s k =
    let p = err_from_is_err_and c.from_residual.result c.from_residual.ensures.1 in
    rw (p.1, p.2) (missing {X = List ℕ} (λ t. t) _ _ s _ (absent _ _) (c.in_err-text.ensures.text s.nodes))

pub part-requires-clause-within : goal.part-requires-clause-within
part-requires-clause-within c = rw (c.trim.ensures, c.as_slice.ensures) (length-trimmed c.in_ok-text.text)

pub returns : goal.returns
returns c s k =
    let line = c.in_ok-text.text in
    let few = ap length (c.trim.ensures ∙ ap trimmed c.as_slice.ensures) in
    let all : length c.trim.result.now - 0 ≡ length c.trim.result.now = omega arith in
    let made = c.in_ok-kept.ensures ∙ (ap (λ n. take n line) (all ∙ few) ∙ trimmed_begins line) in
    let shorter = length-trimmed c.in_ok-text.text in
    let short = c.in_ok-text.ensures.short s.nodes k in
    rw (c.in_ok-text.ensures.text s.nodes, made)
    (gives_does shown IsValueOf s (stored.Str (trimmed c.in_ok-text.text)) (Str (trimmed c.in_ok-text.text)) refl
    (omega (arith, shorter, short)))
