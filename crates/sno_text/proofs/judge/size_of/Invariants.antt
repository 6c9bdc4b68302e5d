use Rattle.std.proofs.Common.{◌≡◌, ◌==◌, not, take}
use Rattle.std.specs.List.{count_by}
use Rattle.sno_text.proofs.judge.size_of.Given as goal

abbrev pub invariant-loop-byte : goal.invariant-loop-byte
invariant-loop-byte l = l.size ≡ count_by (λ b. not (b == 10)) (take l.byte-index l.bytes)
