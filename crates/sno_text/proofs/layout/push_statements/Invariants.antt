use Rattle.std.proofs.Common.{◌≡◌, ◌≤◌, ◌++◌, map, drop}
use Rattle.sno_text.specs.Lines.{moved, cut, statements_of}
use Rattle.sno_text.specs.inner.Layouts.{kept}
use Rattle.sno_text.proofs.layout.push_statements.Given as goal

abbrev pub invariant-loop-end : goal.invariant-loop-end
invariant-loop-end l =
    (l.extents.items ++ map (moved l.at) (kept l.card (cut l.quote l.start l.end (drop l.end l.card))) ≡ l.fn.extents.items
    ++ map (moved l.at) (statements_of l.card))
    × (l.start ≤ l.end)
