use Rattle.std.proofs.Common.{◌≡◌, false}
use Rattle.test_matcher.proofs.tests.long_subjects.check_ways.Given as goal

abbrev pub invariant-ways : goal.invariant-ways
invariant-ways g l = (l.m.nodes ≡ l.table) × (l.m.waits ≡ false)
