use Rattle.std.proofs.Common.{◌-◌}
use Rattle.sno_pattern.specs.Agreement.{AreSame}
use Rattle.sno_pattern.proofs.agreement.agreement.Given as goal

abbrev pub invariant-bytes : goal.invariant-bytes
invariant-bytes l = AreSame l.first l.second l.count

abbrev pub decreases-bytes : goal.decreases-bytes
decreases-bytes l = l.most - l.count
