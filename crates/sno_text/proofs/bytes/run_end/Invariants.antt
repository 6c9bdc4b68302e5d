use Rattle.std.proofs.Common.{length, ◌-◌, ◌≤◌}
use Rattle.sno_text.specs.Bytes.{IsRun}
use Rattle.sno_text.proofs.bytes.run_end.Given as goal

abbrev pub invariant-bytes : goal.invariant-bytes
invariant-bytes l = (l.at ≤ length l.text) × IsRun l.class l.text l.from l.at

abbrev pub decreases-bytes : goal.decreases-bytes
decreases-bytes l = length l.text - l.at
