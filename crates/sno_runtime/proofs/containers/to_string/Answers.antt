use Rattle.std.proofs.Common.{refl, sym, ◌∙◌}
use Rattle.std.proofs.lemmas.Result.{err_from_is_err_and}
use Rattle.sno_value.specs.declared.value.Value.TheVariants as stored
use Rattle.sno_runtime.specs.Values.{Str, shown, IsValueOf}
use Rattle.sno_runtime.proofs.Outcomes.{gives_does}
use Rattle.sno_runtime.proofs.Conversions.{text_refused}
use Rattle.sno_runtime.proofs.containers.to_string.Goals as goal

pub returns-in_err-text : goal.returns-in_err-text
returns-in_err-text c s k =
    let p = err_from_is_err_and c.from_residual.result c.from_residual.ensures.1 in
    rw (p.1, p.2) (text_refused _ c.args.value s _ (sym c.has_text.ensures ∙ c.if-not-has_text.false) (c.in_err-text.ensures.text s.nodes))

pub returns : goal.returns
returns c s k =
    let bytes = c.in_ok-text.text in
    rw (c.in_ok-text.ensures.text s.nodes)
    (gives_does shown IsValueOf s (stored.Str bytes) (Str bytes) refl (c.in_ok-text.ensures.short s.nodes k))
