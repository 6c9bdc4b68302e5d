use Rattle.sno_runtime.specs.Lines.{span_of}
use Rattle.sno_runtime.proofs.LineLaws.{one_more_part}
use Rattle.sno_runtime.proofs.lines.way_line.Goals as goal

pub loop-assignment-preserved : goal.loop-assignment-preserved
loop-assignment-preserved c =
    one_more_part c.args.runtime.now.store.symbols (span_of c.args.start c.args.end) c.args.pending.now c.loop-assignment.assignment-index _ _ _
    c.loop-assignment-test.true c.loop-assignment.invariant c.in_ok-push_pending.ensures
