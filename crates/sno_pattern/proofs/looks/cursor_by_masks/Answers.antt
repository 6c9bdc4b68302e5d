use Rattle.std.proofs.Common.{arith}
use Rattle.sno_pattern.proofs.PresentLaws.{break-passed, stop-passed, span-near}
use Rattle.sno_pattern.proofs.looks.cursor_by_masks.Goals as goal

pub returns-in-Span-clause-same : goal.returns-in-Span-clause-same
returns-in-Span-clause-same c =
    rw (c.in-Among.is, c.in-Span.is)
    (span-near c.in-Among.set c.args.subject.now c.args.at c.cursor_near-behind.result c.max.result c.cursor_near-behind.ensures.inside
    (omega (arith, c.max.ensures, c.saturating_sub.ensures)) c.cursor_near-behind.ensures.passed)

pub returns-in-Break-clause-same : goal.returns-in-Break-clause-same
returns-in-Break-clause-same c =
    rw (c.in-Among.is, c.in-Break.is)
    (break-passed c.in-Among.set c.args.subject.now c.args.at c.cursor_near-end.result c.cursor_near-end.ensures.behind c.cursor_near-end.ensures.inside
    c.cursor_near-end.ensures.passed)

pub returns-in-BreakX-clause-same : goal.returns-in-BreakX-clause-same
returns-in-BreakX-clause-same c =
    rw (c.in-Among.is, c.in-BreakX.is)
    (stop-passed c.in-Among.set c.args.subject.now c.args.at c.cursor_near-end-in-BreakX.result c.cursor_near-end-in-BreakX.ensures.behind
    c.cursor_near-end-in-BreakX.ensures.inside c.cursor_near-end-in-BreakX.ensures.passed)
