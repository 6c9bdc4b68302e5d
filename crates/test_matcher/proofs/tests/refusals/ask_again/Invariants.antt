use Rattle.std.proofs.Common.{◌≡◌, false}
use Rattle.test_matcher.proofs.tests.refusals.ask_again.Given as goal

abbrev pub invariant-asking : goal.invariant-asking
invariant-asking g l = (l.m.nodes ≡ l.table) × (l.m.waits ≡ false)
