use Rattle.std.proofs.Common.{◌≡◌, ◌≤◌, ◌++◌, length, drop, map}
use Rattle.std.specs.List.{slice_split}
use Rattle.sno_store.specs.Arrays.{is_comma}
use Rattle.sno_store.specs.Store.{place}
use Rattle.sno_store.specs.Definitions.{with_names}
use Rattle.sno_store.specs.Symbols.{HasMore}
use Rattle.sno_store.proofs.CallLaws.{numbers}
use Rattle.sno_store.proofs.store.Store.join.Given as goal

abbrev pub invariant-names : goal.invariant-names
invariant-names l =
    record {
      can_next : (goal.iterator-names).can_next l.name-iterator;
      is_finite : (goal.iterator-names).is_finite l.name-iterator;
      few : length l.self.symbols ≤ 1_000_000;
      more : HasMore l.initial.self l.self;
      symbols : with_names (drop (length l.yielded) (slice_split is_comma l.list)) l.self.symbols
          ≡ with_names (slice_split is_comma l.list) l.initial.self.symbols;
      numbers :
          numbers l.numbers.items ++ map (λ name. place name (with_names (slice_split is_comma l.list) l.initial.self.symbols))
          (drop (length l.yielded) (slice_split is_comma l.list))
          ≡ map (λ name. place name (with_names (slice_split is_comma l.list) l.initial.self.symbols)) (slice_split is_comma l.list);
    }
