use Rattle.std.proofs.Common.{◌≡◌, ◌<◌, ◌≤◌, ◌++◌, length, drop, unsigned_abs}
use Rattle.std.specs.Fmt.{decimal}
use Rattle.sno_value.proofs.digits.Digits.of.Given as goal

abbrev pub invariant-tens : goal.invariant-tens
invariant-tens l =
    (length (decimal l.left) < l.start) × (l.start ≤ 20) × (length l.bytes ≡ 20)
    × (decimal l.left ++ drop l.start l.bytes ≡ decimal (unsigned_abs l.number))

abbrev pub decreases-tens : goal.decreases-tens
decreases-tens l = l.left
