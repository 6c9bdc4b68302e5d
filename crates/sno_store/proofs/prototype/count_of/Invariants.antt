use Rattle.std.proofs.Common.{◌≡◌, ◌<◌, ◌≤◌, length, drop}
use Rattle.std.specs.List.{slice_split}
use Rattle.sno_store.specs.Arrays.{is_comma}
use Rattle.sno_store.proofs.Prototypes.{counted}
use Rattle.sno_store.proofs.prototype.count_of.Given as goal

abbrev pub invariant-texts : goal.invariant-texts
invariant-texts l =
    record {
      can_next : (goal.iterator-texts).can_next l.text-iterator;
      is_finite : (goal.iterator-texts).is_finite l.text-iterator;
      some : 0 < l.count;
      few : l.count ≤ 1_000_001;
      onward : counted (drop (length l.yielded) (slice_split is_comma l.prototype)) l.count ≡ counted (slice_split is_comma l.prototype) 1;
    }
