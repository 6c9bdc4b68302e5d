use Rattle.std.proofs.Common.{◌≡◌, ◌+◌, ◌-◌, ◌/◌, length}
use Rattle.sno_pattern.specs.inner.Present.{IsAboveUpTo}
use Rattle.sno_pattern.proofs.present.Level.above.Given as goal

abbrev pub invariant-parts : goal.invariant-parts
invariant-parts l = record {
  long : length l.masks.items ≡ length l.self / 8 + 1;
  above : IsAboveUpTo l.part l.self l.masks.items;
}

abbrev pub decreases-parts : goal.decreases-parts
decreases-parts l = length l.self - l.part
