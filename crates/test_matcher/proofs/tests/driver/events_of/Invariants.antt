use Rattle.std.proofs.Common.{◌≡◌, false}
use Rattle.test_matcher.proofs.tests.driver.events_of.Given as goal

abbrev pub invariant-events : goal.invariant-events
invariant-events g l = (l.m.nodes ≡ l.table) × (l.m.waits ≡ false)
