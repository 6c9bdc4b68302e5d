use Rattle.std.proofs.Common.{◌-◌, ◌≤◌, length}
use Rattle.sno_pattern.specs.Looks.{AreTrue}
use Rattle.sno_pattern.specs.Table.{tree}
use Rattle.sno_match.specs.inner.Straight.{waits, LeadsTo}
use Rattle.sno_match.proofs.straight.straight_in_vain.Given as goal

abbrev pub invariant-goals : goal.invariant-goals
invariant-goals l = record {
  looks : AreTrue l.patterns l.subject l.looks;
  inside : l.search.cursor ≤ length l.subject;
  enough : l.search.steps ≤ l.left;
  leads : LeadsTo l.patterns (tree l.patterns l.fn.pattern.0) l.subject l.fn.at l.search.steps (waits l.search) l.search.cursor;
}

abbrev pub decreases-goals : goal.decreases-goals
decreases-goals l = l.left - l.search.steps
