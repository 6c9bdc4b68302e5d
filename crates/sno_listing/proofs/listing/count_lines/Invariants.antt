use Rattle.std.proofs.Common.{◌≡◌, ◌+◌, ◌≤◌, length}
use Rattle.bstr.specs.Text.{lines_of}
use Rattle.sno_listing.proofs.listing.count_lines.Given as goal

abbrev pub invariant-loop-line : goal.invariant-loop-line
invariant-loop-line l = (l.count + length l._line-iterator ≡ length (lines_of l.fn.text)) × (length (lines_of l.fn.text) ≤ length l.fn.text)
