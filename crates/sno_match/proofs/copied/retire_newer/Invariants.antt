use Rattle.std.proofs.Common.{◌≡◌, take, length}
use Rattle.sno_match.proofs.copied.retire_newer.Given as goal

abbrev pub invariant-points : goal.invariant-points
invariant-points l = take l.count l.below.items ≡ take l.count l.fn.below.items

abbrev pub decreases-points : goal.decreases-points
decreases-points l = length l.below.items
