use Rattle.std.proofs.Common.{◌≡◌, ◌+◌, ◌≤◌, ◌∷◌, length, take}
use Rattle.std.specs.List.{slice_split}
use Rattle.sno_store.specs.Arrays.{is_comma}
use Rattle.sno_store.specs.Definitions.{listed, with_names}
use Rattle.sno_store.proofs.symbols.Symbols.count_new.Given as goal

abbrev pub invariant-names : goal.invariant-names
invariant-names l =
    record {
      can_next : (goal.iterator-names).can_next l.name-iterator;
      is_finite : (goal.iterator-names).is_finite l.name-iterator;
      place : l.place ≡ length l.yielded;
      within : length l.yielded ≤ length (slice_split is_comma l.list);
      few : l.new ≤ l.place;
      counted :
          length (with_names (take (length l.yielded) (slice_split is_comma l.list)) (with_names (l.first ∷ listed l.before) l.self))
          ≡ length (with_names (l.first ∷ listed l.before) l.self) + l.new;
    }
