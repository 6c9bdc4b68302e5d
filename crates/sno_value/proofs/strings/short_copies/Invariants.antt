use Rattle.std.proofs.Common.{◌≡◌, length, take}
use Rattle.sno_value.specs.Strings.{copies}
use Rattle.sno_value.proofs.strings.short_copies.Given as goal

abbrev pub invariant-loop-k : goal.invariant-loop-k
invariant-loop-k l = (length l.bytes ≡ 22) × (take l.k l.bytes ≡ take l.k (copies l.count l.text))
