use Rattle.std.proofs.Common.{◌-◌}
use Rattle.sno_pattern.proofs.more_runs.free_place.Given as goal

abbrev pub decreases-ways : goal.decreases-ways
decreases-ways l = 8 - l.way
