use Rattle.std.proofs.Common.{◌≤◌, ◌+◌, ◌-◌, ◌*◌, length}
use Rattle.sno_pattern.specs.Looks.{AreTrue}
use Rattle.sno_match.specs.inner.Shared.{Holds, points_of}
use Rattle.sno_match.specs.Silent.{LeadsOn}
use Rattle.sno_match.proofs.silent.take_steps.Given as goal

-- the steps so far lead to the stack with this newest point
abbrev pub invariant-steps : goal.invariant-steps
invariant-steps l = record {
  holds : Holds l.lists.records.items l.lists.pending.items l.top l.lists.below.items;
  looks : AreTrue l.patterns l.subject l.looks;
  leads : LeadsOn l.patterns l.subject l.limit (points_of l.initial.lists.records.items l.initial.lists.pending.items l.initial.lists.top l.initial.lists.below.items) l.taken
      (points_of l.lists.records.items l.lists.pending.items l.top l.lists.below.items) l.steps;
  records : length l.lists.records.items + 2 * l.taken ≤ length l.initial.lists.records.items + 2 * l.steps;
}

abbrev pub decreases-steps : goal.decreases-steps
decreases-steps l = l.limit - l.steps
