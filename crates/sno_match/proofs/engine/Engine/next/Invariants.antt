use Rattle.sno_match.specs.inner.Running.{GoesOn, work}
use Rattle.sno_match.proofs.engine.Engine.next.Given as goal

abbrev pub invariant-loop-event : goal.invariant-loop-event
invariant-loop-event g l = GoesOn l.initial.self l.self

abbrev pub decreases-loop-event : goal.decreases-loop-event
decreases-loop-event g l = work l.self
