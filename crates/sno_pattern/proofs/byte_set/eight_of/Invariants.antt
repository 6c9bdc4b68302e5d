use Rattle.std.proofs.Common.{◌≡◌, ℕ, ◌<◌, ◌≤◌, length, take, get_or}
use Rattle.sno_pattern.specs.Ends.{is_in}
use Rattle.sno_pattern.proofs.byte_set.eight_of.Given as goal

abbrev pub invariant-loop-byte : goal.invariant-loop-byte
invariant-loop-byte l = record {
  long : length l.eight ≡ 8;
  few : l.count ≤ 8;
  seen : (b : ℕ) → is_in (take l.count l.eight) b ≡ is_in (take l.byte-index l.bytes) b;
  rest : (k : ℕ) → l.count ≤ k → k < 8 → get_or l.eight k 0 ≡ get_or l.bytes 0 0;
}
