use Rattle.std.proofs.Common.{◌≡◌, None, false, true}
use Rattle.test_reader.proofs.tests.input.tell_four.Given as goal

abbrev pub invariant-calls : goal.invariant-calls
invariant-calls l = (l.lines.stopped ≡ None → l.device.has_failed ≡ false) × (l.lines.stopped ≡ None → l.lines.told_end ≡ true → l.device.told_end ≡ true)
