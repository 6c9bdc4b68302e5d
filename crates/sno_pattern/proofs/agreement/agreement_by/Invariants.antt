use Rattle.std.proofs.Common.{◌-◌}
use Rattle.sno_pattern.specs.Agreement.{AreSame}
use Rattle.sno_pattern.proofs.agreement.agreement_by.Given as goal

abbrev pub invariant-parts : goal.invariant-parts
invariant-parts l = AreSame l.first l.second l.count

abbrev pub decreases-parts : goal.decreases-parts
decreases-parts l = l.most - l.count
