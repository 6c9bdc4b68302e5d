use Rattle.std.proofs.Common.{◌≡◌, ◌≤◌, [], ◌∷◌, length, take, drop}
use Rattle.std.specs.List.{slice_split}
use Rattle.sno_store.specs.Arrays.{is_comma}
use Rattle.sno_store.specs.Types.{are_new}
use Rattle.sno_store.proofs.type_prototype.are_different.Given as goal

abbrev pub invariant-names : goal.invariant-names
invariant-names l =
    record {
      can_next : (goal.iterator-names).can_next l.name-iterator;
      is_finite : (goal.iterator-names).is_finite l.name-iterator;
      place : l.place ≡ length l.yielded;
      within : length l.yielded ≤ length (slice_split is_comma l.list);
      new : are_new (l.first ∷ take (length l.yielded) (slice_split is_comma l.list)) (drop (length l.yielded) (slice_split is_comma l.list))
          ≡ are_new (l.first ∷ []) (slice_split is_comma l.list);
    }
