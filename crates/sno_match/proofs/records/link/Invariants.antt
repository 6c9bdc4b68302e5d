use Rattle.std.proofs.Common.{◌≡◌, ◌+◌, map, length, reverse, vec_len, vec_capacity}
use Rattle.sno_match.specs.inner.Shared.{Extends}
use Rattle.sno_match.proofs.records.link.Given as goal

-- the goals that were yielded, the last one first, stand in front of the list
abbrev pub invariant-loop-goal : goal.invariant-loop-goal
invariant-loop-goal l = record {
  extends : Extends l.initial.records.items l.fn.behind (reverse (map (λ y. y.now) l.yielded)) l.records.items l.goals;
  len : vec_len l.records ≡ vec_len l.initial.records + length l.yielded;
  capacity : vec_capacity l.records ≡ vec_capacity l.initial.records;
}
