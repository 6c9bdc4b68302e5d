use Rattle.std.proofs.Common.{◌≡◌, ℕ, ◌-◌, ◌<◌, ◌≤◌, false}
use Rattle.sno_pattern.specs.inner.Kinds.{node_of}
use Rattle.sno_pattern.specs.inner.Places.{node_has_end}
use Rattle.sno_pattern.proofs.places.place_of_end.Given as goal

abbrev pub invariant-places : goal.invariant-places
invariant-places l = record {
  behind : l.from ≤ l.place;
  before : l.place ≤ l.until;
  none : (c : ℕ) → l.from ≤ c → c < l.place → node_has_end (node_of l.kind) l.subject c ≡ false;
}

abbrev pub decreases-places : goal.decreases-places
decreases-places l = l.until - l.place
