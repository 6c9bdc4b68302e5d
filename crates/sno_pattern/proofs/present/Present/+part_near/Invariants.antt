use Rattle.std.proofs.Common.{length, ◌-◌}
use Rattle.sno_pattern.proofs.present.Present.+part_near.Given as goal

abbrev pub decreases-part_near : goal.decreases-part_near
decreases-part_near l = length l.self.now - l.number
