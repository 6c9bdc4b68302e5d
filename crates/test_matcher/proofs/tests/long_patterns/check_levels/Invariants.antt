use Rattle.std.proofs.Common.{◌≡◌, false}
use Rattle.test_matcher.proofs.tests.long_patterns.check_levels.Given as goal

abbrev pub invariant-levels : goal.invariant-levels
invariant-levels g l = (l.m.nodes ≡ l.table) × (l.m.waits ≡ false)
