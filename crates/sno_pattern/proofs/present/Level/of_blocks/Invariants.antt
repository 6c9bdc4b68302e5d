use Rattle.std.proofs.Common.{ℕ, ◌≡◌, ◌+◌, ◌-◌, ◌/◌, ◌<◌, true, [], length, get_or}
use Rattle.sno_pattern.specs.Ends.{is_in}
use Rattle.sno_pattern.specs.Masks.{members}
use Rattle.sno_pattern.proofs.present.Level.of_blocks.Given as goal

abbrev pub invariant-bytes : goal.invariant-bytes
invariant-bytes l = record {
  long : length l.masks.items ≡ length l.subject / 64 + 1;
  has : (c : ℕ) → c < l.at → is_in (members (get_or l.masks.items (c / 64) [])) (get_or l.subject c 0) ≡ true;
}

abbrev pub decreases-bytes : goal.decreases-bytes
decreases-bytes l = length l.subject - l.at
