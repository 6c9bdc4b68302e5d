use Rattle.sno_pattern.proofs.BalanceLaws.{IsNth}
use Rattle.sno_pattern.proofs.balance.balanced_end_at.Given as goal

abbrev pub invariant-loop-more : goal.invariant-loop-more
invariant-loop-more l = IsNth l.subject l.at l._more l.end
