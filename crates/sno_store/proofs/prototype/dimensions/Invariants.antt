use Rattle.std.proofs.Common.{◌≡◌, ◌++◌, filter_map, length, drop}
use Rattle.std.specs.List.{slice_split}
use Rattle.sno_store.specs.Arrays.{dimension_of, is_comma}
use Rattle.sno_store.proofs.prototype.dimensions.Given as goal

abbrev pub invariant-texts : goal.invariant-texts
invariant-texts l =
    record {
      can_next : (goal.iterator-texts).can_next l.text-iterator;
      is_finite : (goal.iterator-texts).is_finite l.text-iterator;
      read : l.dimensions.items ++ filter_map dimension_of (drop (length l.yielded) (slice_split is_comma l.prototype))
          ≡ filter_map dimension_of (slice_split is_comma l.prototype);
    }
