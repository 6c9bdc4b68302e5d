use Rattle.std.proofs.Common.{◌≡◌, length, map, take}
use Rattle.sno_value.specs.Strings.{replacement}
use Rattle.sno_value.proofs.strings.short_replaced.Given as goal

abbrev pub invariant-loop-k : goal.invariant-loop-k
invariant-loop-k l = (length l.bytes ≡ 22) × (take l.k l.bytes ≡ map (replacement l.from l.to) (take l.k l.text))
