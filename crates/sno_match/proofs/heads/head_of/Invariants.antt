use Rattle.std.proofs.Common.{◌-◌, ◌<◌, ◌≤◌, length}
use Rattle.sno_pattern.specs.Table.{tree}
use Rattle.sno_match.specs.inner.Starts.{FailsWith}
use Rattle.sno_match.proofs.heads.head_of.Given as goal

abbrev pub invariant-chain : goal.invariant-chain
invariant-chain l = record {
  known : l.head.id.0 < length l.patterns;
  fails : FailsWith (tree l.patterns l.fn.pattern.0) (tree l.patterns l.head.id.0) l.head.above;
  near : l.head.above ≤ l.left - 2;
}

abbrev pub decreases-chain : goal.decreases-chain
decreases-chain l = l.head.id.0
