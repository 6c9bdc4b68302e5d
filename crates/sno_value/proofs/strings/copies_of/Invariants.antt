use Rattle.std.proofs.Common.{◌≡◌, ◌≤◌, ◌-◌}
use Rattle.sno_value.specs.Strings.{copies}
use Rattle.sno_value.proofs.strings.copies_of.Given as goal

abbrev pub invariant-doublings : goal.invariant-doublings
invariant-doublings l = record {
  some : 1 ≤ l.made;
  within : l.made ≤ l.count;
  copied : l.copied.items ≡ copies l.made l.text;
}

abbrev pub decreases-doublings : goal.decreases-doublings
decreases-doublings l = l.count - l.made
