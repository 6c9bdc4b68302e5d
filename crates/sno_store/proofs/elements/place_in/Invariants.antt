use Rattle.std.proofs.Common.{◌≡◌, ◌<◌, ◌≤◌, Some, drop}
use Rattle.sno_store.specs.Arrays.{element_count, element_place}
use Rattle.sno_store.proofs.elements.place_in.Given as goal

abbrev pub invariant-dimensions : goal.invariant-dimensions
invariant-dimensions l =
    record {
      block : l.block ≡ element_count (drop l.i l.dimensions);
      place : Some l.place ≡ element_place (drop l.i l.dimensions) (drop l.i l.subscripts);
      inside : l.place < l.block;
      few : l.block ≤ 1_000_000;
    }
