use Rattle.std.proofs.Common.{◌≡◌, false}
use Rattle.refusals.proofs.matching.tells_all.Given as goal

abbrev pub invariant-events : goal.invariant-events
invariant-events g l = (l.m.nodes ≡ l.table) × (l.m.waits ≡ false)
