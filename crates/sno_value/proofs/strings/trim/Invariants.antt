use Rattle.std.proofs.Common.{◌≡◌, length}
use Rattle.sno_value.specs.Strings.{trimmed}
use Rattle.sno_value.proofs.strings.trim.Given as goal

abbrev pub invariant-loop-kept : goal.invariant-loop-kept
invariant-loop-kept l = trimmed l.kept ≡ trimmed l.text

abbrev pub decreases-loop-kept : goal.decreases-loop-kept
decreases-loop-kept l = length l.kept
