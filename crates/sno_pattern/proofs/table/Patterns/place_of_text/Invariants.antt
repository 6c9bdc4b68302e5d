use Rattle.std.proofs.Common.{◌≡◌, ℕ, ◌-◌, ◌<◌, ◌≤◌, false}
use Rattle.sno_pattern.specs.Looks.{AreTrue}
use Rattle.sno_pattern.specs.Places.{has_end}
use Rattle.sno_pattern.specs.Table.{tree}
use Rattle.sno_pattern.proofs.table.Patterns.place_of_text.Given as goal

abbrev pub invariant-places : goal.invariant-places
invariant-places l = record {
  behind : l.from ≤ l.place;
  before : l.place ≤ l.until;
  none : (c : ℕ) → l.from ≤ c → c < l.place → has_end (tree l.self l.id.0) l.subject c ≡ false;
  looks : AreTrue l.self l.subject l.looks;
}

abbrev pub decreases-places : goal.decreases-places
decreases-places l = l.until - l.place
