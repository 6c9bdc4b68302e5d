use Rattle.std.proofs.Common.{◌≡◌, ◌+◌, ◌++◌, length}
use Rattle.bstr.specs.Text.{lines_of}
use Rattle.sno_listing.specs.Listing.{listed, lines_listed}
use Rattle.sno_listing.proofs.listing.listing.Given as goal

abbrev pub invariant-loop-line : goal.invariant-loop-line
invariant-loop-line l = (l.at + length l.line-iterator ≡ length (lines_of l.fn.text))
    × (l.listing.items ++ lines_listed l.fn.program.statements (l.at + 1) l.line-iterator ≡ listed l.fn.text l.fn.program.statements)
