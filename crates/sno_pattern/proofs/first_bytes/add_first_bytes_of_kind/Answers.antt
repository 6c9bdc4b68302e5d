use Rattle.std.proofs.Common.{◌≡◌, ◌==◌, false, length, sym, ◌∙◌}
use Rattle.sno_pattern.proofs.FirstByteLaws.{text_among, first_stays, span_among}
use Rattle.sno_pattern.proofs.first_bytes.add_first_bytes_of_kind.Goals as goal

pub returns-else-is_empty-clause-known : goal.returns-else-is_empty-clause-known
returns-else-is_empty-clause-known c =
    let some : (length c.as_slice-text.result.now == 0) ≡ false = sym c.is_empty.ensures ∙ c.if-is_empty.false in
    let first = text_among c.as_slice-text.result.now c.args.set.now c.add.new.self in
    λ _ s place none. rw (c.in-Text.is, ← c.as_slice-text.ensures) (first s place _ some (first_stays c.as_slice-text.result.now _ _ some) c.add.ensures none)

pub returns-in-Span-clause-known : goal.returns-in-Span-clause-known
returns-in-Span-clause-known c =
    λ _ s place none.
    rw (c.in-Among.is, c.in-Span.is)
    (span_among c.in-Among.members c.args.set.now c.add_all-in-Span.new.self s place c.add_all-in-Span.ensures none)
