use Rattle.std.proofs.Common.{◌-◌, length}
use Rattle.sno_pattern.proofs.HopLaws.{IsHop}
use Rattle.sno_pattern.proofs.balance_table.closed_end.Given as goal

abbrev pub invariant-parts : goal.invariant-parts
invariant-parts l = IsHop l.subject l.at l.place

abbrev pub decreases-parts : goal.decreases-parts
decreases-parts l = length l.subject - l.place
