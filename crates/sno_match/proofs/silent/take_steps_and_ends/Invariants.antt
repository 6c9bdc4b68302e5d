use Rattle.std.proofs.Common.{◌≤◌, ◌+◌, ◌-◌, ◌*◌, length}
use Rattle.sno_pattern.specs.Looks.{AreTrue}
use Rattle.sno_match.specs.inner.Shared.{Holds, points_of}
use Rattle.sno_match.specs.Silent.{LeadsOn}
use Rattle.sno_match.proofs.silent.take_steps_and_ends.Given as goal

-- the steps so far lead to the stack
abbrev pub invariant-ends : goal.invariant-ends
invariant-ends l = record {
  holds : Holds l.lists.records.items l.lists.pending.items l.lists.top l.lists.below.items;
  looks : AreTrue l.patterns l.subject l.looks;
  leads : LeadsOn l.patterns l.subject l.limit (points_of l.fn.lists.records.items l.fn.lists.pending.items l.fn.lists.top l.fn.lists.below.items) l.fn.taken
      (points_of l.lists.records.items l.lists.pending.items l.lists.top l.lists.below.items) l.steps;
  records : length l.lists.records.items + 2 * l.fn.taken ≤ length l.fn.lists.records.items + 2 * l.steps;
}

abbrev pub decreases-ends : goal.decreases-ends
decreases-ends l = l.limit - l.steps
