use Rattle.std.proofs.Common.{◌≤◌, ◌+◌, length, drop}
use Rattle.sno_listing.specs.inner.Listing.{AreNumbers}
use Rattle.sno_listing.proofs.listing.first_numbers.Given as goal

abbrev pub invariant-statements : goal.invariant-statements
invariant-statements l = (l.number ≤ length l.fn.program.statements)
    × AreNumbers l.fn.lines (l.number + 1) (drop l.number l.fn.program.statements) l.numbers.items

abbrev pub decreases-statements : goal.decreases-statements
decreases-statements l = l.number
