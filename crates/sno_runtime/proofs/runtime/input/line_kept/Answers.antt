use Rattle.std.proofs.Common.{ap, sym, ◌∙◌, take, length}
use mir.Syntax.{w64}
use mir.Val.{of_z}
use Rattle.sno_value.specs.Strings.{trimmed}
use Rattle.sno_runtime.proofs.InputLaws.{trimmed_begins, kept_trimmed}
use Rattle.sno_runtime.proofs.runtime.input.line_kept.Goals as goal

pub returns-then-trims-ne0 : goal.returns-then-trims-ne0
returns-then-trims-ne0 c =
    let line = c.args.line.items in
    let kept = kept_trimmed c.args.trims line (λ e. c.if-trims-ne0.true (ap (of_z w64) e)) in
    c.truncate.ensures.items ∙ (ap (λ n. take n line) (ap length (c.trim-length.ensures ∙ ap trimmed c.deref.ensures.value)) ∙ (trimmed_begins line ∙ sym kept))
