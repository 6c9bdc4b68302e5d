use Rattle.std.proofs.Common.{◌≡◌, ℕ, List, ◌-◌, ◌<◌, ◌≤◌, false}
use Rattle.sno_pattern.specs.BalanceTable.{IsTableIfMade}
use Rattle.sno_pattern.specs.Looks.{AreTrue}
use Rattle.sno_pattern.specs.Pattern.{Bal}
use Rattle.sno_pattern.specs.inner.Places.{leaf_has_end}
use Rattle.sno_pattern.specs.Table.{Node}
use Rattle.sno_pattern.proofs.looks.Looks.balanced_place.Given as goal

abbrev pub invariant-places : goal.invariant-places
invariant-places l = record {
  behind : l.from ≤ l.place;
  before : l.place ≤ l.until;
  none : (c : ℕ) → l.from ≤ c → c < l.place → leaf_has_end Bal l.subject c ≡ false;
  balance : IsTableIfMade l.subject l.self.first_ends;
  looks : (nodes : List Node) → AreTrue nodes l.subject l.fn.self → AreTrue nodes l.subject l.self;
}

abbrev pub decreases-places : goal.decreases-places
decreases-places l = l.until - l.place
