use Rattle.std.proofs.Common.{length}
use Rattle.sno_pattern.specs.Present.{IsLevel, ArePresent}
use Rattle.sno_pattern.proofs.present.levels_of.Given as goal

abbrev pub invariant-levels : goal.invariant-levels
invariant-levels l = record {
  below : ArePresent l.subject l.levels.items;
  top : IsLevel l.subject (length l.levels.items) l.top;
}

abbrev pub decreases-levels : goal.decreases-levels
decreases-levels l = length l.top
