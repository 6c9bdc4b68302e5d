use Rattle.std.proofs.Common.{◌<◌, length}
use Rattle.test_matcher.proofs.tests.refusals.count_growths.Given as goal

abbrev pub invariant-growths : goal.invariant-growths
invariant-growths g l = l.choice.0 < length l.table
