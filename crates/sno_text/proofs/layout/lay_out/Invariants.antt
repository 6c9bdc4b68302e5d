use Rattle.sno_text.proofs.Layouts.{Laid}
use Rattle.sno_text.proofs.layout.lay_out.Given as goal

abbrev pub invariant-loop-line : goal.invariant-loop-line
invariant-loop-line l = Laid l.fn.text l.begun l.start l.joined.items l.extents.items l.line-iterator
