use Rattle.sno_pattern.proofs.PlaceLaws.{span_place}
use Rattle.sno_pattern.proofs.StopLaws.{stop_place}
use Rattle.sno_pattern.proofs.places.first_place_of_kind.Goals as goal

pub returns-in-Span : goal.returns-in-Span
returns-in-Span c = rw (c.in-Among.is, c.in-Span.is)
    (span_place c.in-Among.set c.args.subject.now c.args.from c.args.until c.place_in_set-in-Span.result c.place_in_set-in-Span.ensures)

pub returns-in-BreakX : goal.returns-in-BreakX
returns-in-BreakX c =
    rw (c.in-Among.is, c.in-BreakX.is)
    (stop_place c.in-Among.set c.args.subject.now c.args.from c.args.until c.place_before_set-in-BreakX.result
    c.place_before_set-in-BreakX.ensures)
