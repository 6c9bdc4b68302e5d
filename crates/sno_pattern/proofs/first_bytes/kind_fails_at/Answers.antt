use Rattle.std.proofs.Common.{◌∙◌, ap, not}
use Rattle.sno_pattern.proofs.FirstByteLaws.{span_without, no_first}
use Rattle.sno_pattern.proofs.first_bytes.kind_fails_at.Goals as goal

pub returns-in-Span : goal.returns-in-Span
returns-in-Span c = λ none.
    rw (c.in-Among.is, c.in-Span.is)
    (span_without c.in-Among.members c.args.subject.now c.args.at
    (no_first c.any_end-in-Span.result _ c.any_end-in-Span.ensures (c.is_none-in-Span.ensures ∙ ap not none)))
