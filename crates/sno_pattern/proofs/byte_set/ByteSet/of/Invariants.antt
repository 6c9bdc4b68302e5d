use Rattle.std.proofs.Common.{◌≡◌, ℕ, ◌<◌, length, take}
use Rattle.sno_pattern.specs.Ends.{is_in}
use Rattle.sno_pattern.specs.Masks.{has_bit}
use Rattle.sno_pattern.proofs.byte_set.ByteSet.of.Given as goal

abbrev pub invariant-loop-byte : goal.invariant-loop-byte
invariant-loop-byte l = record {
  four : length l.words ≡ 4;
  bits : (b : ℕ) → b < 256 → has_bit l.words b ≡ is_in (take l.byte-index l.bytes) b;
}
