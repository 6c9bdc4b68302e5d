use Rattle.std.proofs.Common.{◌≡◌, false}
use Rattle.test_reader.proofs.tests.devices.check_interrupted_reads.Given as goal

abbrev pub invariant-loop-byte : goal.invariant-loop-byte
invariant-loop-byte g l = l.device.has_failed ≡ false
