use Rattle.std.proofs.Common.{◌≡◌, true, false, None}
use Rattle.refusals.proofs.lines.hold.Given as goal

abbrev pub invariant-loop-length : goal.invariant-loop-length
invariant-loop-length l = (l.lines.stopped ≡ None) × (l.reader.has_failed ≡ false) × (l.lines.told_end ≡ true → l.reader.told_end ≡ true)
