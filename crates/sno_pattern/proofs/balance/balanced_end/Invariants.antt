use Rattle.sno_pattern.proofs.BalanceLaws.{IsOpen}
use Rattle.sno_pattern.proofs.balance.balanced_end.Given as goal

abbrev pub invariant-loop-end : goal.invariant-loop-end
invariant-loop-end l = IsOpen l.subject l.at l.end l.depth
