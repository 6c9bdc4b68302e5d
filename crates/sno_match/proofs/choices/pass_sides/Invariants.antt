use Rattle.std.proofs.Common.{◌-◌, ◌≤◌, false, length}
use Rattle.sno_pattern.specs.Table.{tree}
use Rattle.sno_match.specs.inner.Starts.{Passes}
use Rattle.sno_match.proofs.choices.pass_sides.Given as goal

abbrev pub invariant-starts : goal.invariant-starts
invariant-starts l = record {
  inside : l.passed.start ≤ length l.subject;
  enough : l.passed.steps ≤ l.left;
  passes : Passes false (tree l.patterns l.fn.pattern.0) l.subject l.fn.start l.passed.start l.passed.steps;
}

abbrev pub decreases-starts : goal.decreases-starts
decreases-starts l = length l.subject - l.passed.start
