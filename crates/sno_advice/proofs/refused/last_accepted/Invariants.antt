use Rattle.std.proofs.Common.{IfSome}
use Rattle.sno_advice.specs.inner.Beginning.{IsAccepted}
use Rattle.sno_advice.proofs.refused.last_accepted.Given as goal

-- what was found is accepted
abbrev pub invariant-loop : goal.invariant-loop
invariant-loop l = IfSome l.best IsAccepted
