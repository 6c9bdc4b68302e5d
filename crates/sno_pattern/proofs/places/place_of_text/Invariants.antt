use Rattle.std.proofs.Common.{◌≡◌, ℕ, ◌-◌, ◌<◌, ◌≤◌, ◌==◌, false, true, slice_index}
use Rattle.sno_pattern.specs.Pattern.{Text}
use Rattle.sno_pattern.specs.inner.Places.{leaf_has_end, byte_passes}
use Rattle.sno_pattern.proofs.places.place_of_text.Given as goal

abbrev pub invariant-places : goal.invariant-places
invariant-places l = record {
  behind : l.from ≤ l.place;
  before : l.place ≤ l.until;
  none : (c : ℕ) → l.from ≤ c → c < l.place → leaf_has_end (Text l.text) l.subject c ≡ false;
  found : l.place < l.until → byte_passes (λ b. b == slice_index l.text 0) l.subject l.place ≡ true;
}

abbrev pub decreases-places : goal.decreases-places
decreases-places l = l.until - l.place
