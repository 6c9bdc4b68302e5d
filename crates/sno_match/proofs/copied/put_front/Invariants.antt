use Rattle.std.proofs.Common.{◌≡◌, ◌+◌, ◌++◌, map, length, vec_len, vec_capacity}
use Rattle.sno_match.proofs.copied.put_front.Given as goal

-- the goals that were put are those that were yielded
abbrev pub invariant-loop-goal : goal.invariant-loop-goal
invariant-loop-goal l = record {
  items : l.goals.items ≡ l.initial.goals.items ++ map (λ y. y.now) l.yielded;
  len : vec_len l.goals ≡ vec_len l.initial.goals + length l.yielded;
  capacity : vec_capacity l.goals ≡ vec_capacity l.initial.goals;
}
