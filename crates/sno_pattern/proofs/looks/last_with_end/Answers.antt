use Rattle.std.proofs.Common.{sym}
use Rattle.sno_pattern.proofs.LookLaws.{span_run, break_look, stop_look}
use Rattle.sno_pattern.proofs.looks.last_with_end.Goals as goal

pub returns-in-Some : goal.returns-in-Some
returns-in-Some c =
    let at = c.requires in
    rw (c.in-Among.is, c.in-Span.is, c.in-Some.is)
    (λ d low high. span_run c.in-Among._set c.args.subject.now c.args.at c.in-Some.end d (sym (rw (c.in-Among.is, c.in-Span.is, c.in-Some.is) at at)) low
    (rw c.saturating_sub.ensures at high))

pub returns-in-Break : goal.returns-in-Break
returns-in-Break c =
    let at = c.requires in
    rw (c.in-Among.is, c.in-Break.is)
    (λ d low high. break_look c.in-Among._set c.args.subject.now c.args.at d c.args.end (rw (c.in-Among.is, c.in-Break.is) at at) low
    (rw c.unwrap_or.ensures at high))

pub returns-in-BreakX : goal.returns-in-BreakX
returns-in-BreakX c =
    let at = c.requires in
    rw (c.in-Among.is, c.in-BreakX.is)
    (λ d low high. stop_look c.in-Among._set c.args.subject.now c.args.at d c.args.end (rw (c.in-Among.is, c.in-BreakX.is) at at) low
    (rw c.unwrap_or-in-BreakX.ensures at high))
