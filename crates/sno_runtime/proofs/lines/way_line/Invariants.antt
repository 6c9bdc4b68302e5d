use Rattle.std.proofs.Common.{◌≡◌, ◌++◌, take}
use Rattle.sno_runtime.specs.Lines.{span_of, pending_parts}
use Rattle.sno_runtime.proofs.lines.way_line.Given as goal

-- the line up to the assignments that were put behind it
abbrev pub invariant-loop-assignment : goal.invariant-loop-assignment
invariant-loop-assignment l = l.line.items ≡ span_of l.fn.start l.fn.end ++ pending_parts l.runtime.store.symbols (take l.assignment-index l.pending)
