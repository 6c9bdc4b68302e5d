use Rattle.std.proofs.Common.{◌≤◌, length}
use Rattle.sno_pattern.specs.Table.{tree}
use Rattle.sno_match.specs.inner.Direct.{IsBehind}
use Rattle.sno_match.proofs.direct.later_way.Given as goal

abbrev pub invariant-starts : goal.invariant-starts
invariant-starts l = record {
  inside : l.start ≤ length l.subject;
  behind : IsBehind (tree l.patterns l.fn.pattern.0) l.subject l.fn.limit l.start l.left;
}
