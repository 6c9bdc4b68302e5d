use Rattle.std.proofs.Common.{◌≡◌, false}
use Rattle.test_matcher.proofs.tests.long_subjects.check_starts.Given as goal

abbrev pub invariant-starts : goal.invariant-starts
invariant-starts g l = (l.m.nodes ≡ l.table) × (l.m.waits ≡ false)
