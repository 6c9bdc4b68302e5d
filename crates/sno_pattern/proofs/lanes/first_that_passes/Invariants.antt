use Rattle.std.proofs.Common.{◌≡◌, ◌≤◌, ◌+◌, ◌-◌, length, drop, position, option_map}
use Rattle.sno_pattern.specs.inner.Lanes.{passes}
use Rattle.sno_pattern.proofs.lanes.first_that_passes.Given as goal

abbrev pub invariant-blocks-2 : goal.invariant-blocks-2
invariant-blocks-2 l = record {
  inside : l.at ≤ length l.bytes;
  searched : position (passes l.inside l.set) l.bytes ≡ option_map (λ n. l.at + n) (position (passes l.inside l.set) (drop l.at l.bytes));
}

abbrev pub decreases-blocks-2 : goal.decreases-blocks-2
decreases-blocks-2 l = length l.bytes - l.at
