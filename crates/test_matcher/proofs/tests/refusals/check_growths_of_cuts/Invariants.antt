use Rattle.std.proofs.Common.{◌<◌, length}
use Rattle.test_matcher.proofs.tests.refusals.check_growths_of_cuts.Given as goal

abbrev pub invariant-loop-other : goal.invariant-loop-other
invariant-loop-other g l = (l.outer.0 < length l.table) × (l.rest.0 < length l.table)

abbrev pub invariant-growths : goal.invariant-growths
invariant-growths g l = (l.outer.0 < length l.table) × (l.rest.0 < length l.table)
