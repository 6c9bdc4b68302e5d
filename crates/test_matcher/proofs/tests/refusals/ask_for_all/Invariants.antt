use Rattle.std.proofs.Common.{◌≡◌, false}
use Rattle.test_matcher.proofs.tests.refusals.ask_for_all.Given as goal

abbrev pub invariant-ways : goal.invariant-ways
invariant-ways g l = (l.m.nodes ≡ l.table) × (l.m.waits ≡ false)
