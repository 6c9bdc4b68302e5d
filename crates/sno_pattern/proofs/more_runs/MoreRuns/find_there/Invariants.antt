use Rattle.std.proofs.Common.{◌-◌}
use Rattle.sno_pattern.proofs.more_runs.MoreRuns.find_there.Given as goal

abbrev pub decreases-ways : goal.decreases-ways
decreases-ways l = 8 - l.way
