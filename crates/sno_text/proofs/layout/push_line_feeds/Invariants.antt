use Rattle.std.proofs.Common.{◌≡◌, ◌++◌}
use Rattle.sno_text.specs.Lines.{line_feeds}
use Rattle.sno_text.proofs.layout.push_line_feeds.Given as goal

abbrev pub invariant-loop : goal.invariant-loop
invariant-loop l = l.joined.items ≡ l.fn.joined.items ++ line_feeds l.counter
