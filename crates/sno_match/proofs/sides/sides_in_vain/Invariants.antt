use Rattle.std.proofs.Common.{◌-◌, ◌<◌, length}
use Rattle.sno_pattern.specs.Table.{tree}
use Rattle.sno_match.specs.inner.Starts.{GivesWay}
use Rattle.sno_match.proofs.sides.sides_in_vain.Given as goal

abbrev pub invariant-sides : goal.invariant-sides
invariant-sides l = record {
  known : l.rest.id.0 < length l.patterns;
  near : l.rest.steps < l.left;
  gives_way : GivesWay (tree l.patterns l.fn.id.0) (tree l.patterns l.rest.id.0) l.subject l.rest.steps l.at;
}

abbrev pub decreases-sides : goal.decreases-sides
decreases-sides l = l.left - l.rest.steps
