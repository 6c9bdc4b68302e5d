use Rattle.std.proofs.Common.{◌≡◌, ◌++◌, length, map, take, drop}
use Rattle.sno_value.specs.Strings.{replacement}
use Rattle.sno_value.proofs.strings.replace.Given as goal

abbrev pub invariant-loop-byte : goal.invariant-loop-byte
invariant-loop-byte l =
    (length l.byte-items ≡ length l.text)
    × (l.byte-items ≡ map (replacement l.from l.to) (take l.byte-index l.text) ++ drop l.byte-index l.text)
