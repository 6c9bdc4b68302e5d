use Rattle.std.proofs.Common.{◌≡◌, ℕ, ◌<◌, Some, slice_get}
use Rattle.sno_match.specs.declared.side_list.Side.{Side}
use Rattle.sno_match.specs.inner.Sides.{MissedAt}
use Rattle.sno_match.proofs.side_list.all_fail.Given as goal

abbrev pub invariant-sides : goal.invariant-sides
invariant-sides l = (k : ℕ) (side : Side) → k < l.side-index → slice_get l.sides k ≡ Some side → MissedAt l.patterns l.subject l.at side
