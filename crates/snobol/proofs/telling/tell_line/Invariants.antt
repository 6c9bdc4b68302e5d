use Rattle.std.proofs.Common.{◌≡◌, ◌-◌, ◌++◌, ℕ, List, [], false}
use Rattle.std.specs.List.{AllByRecursion}
use Rattle.std.specs.Io.KnownBytes.{Appends}
use Rattle.sno_pattern.specs.Table.{tree}
use Rattle.sno_match.specs.Matching.{told_of}
use Rattle.sno_match.specs.Search.{Event}
use Rattle.sno_runtime.specs.Runtime.{world}
use Rattle.sno_statement.specs.Running.{devices}
use Rattle.sno_statement.specs.Turns.{most_events}
use Rattle.snobol.specs.Enumeration.{IsDeferred, Leaves, lists_rest}
use Rattle.snobol.specs.inner.Running.{no_input}
use Rattle.snobol.specs.inner.Telling.{CanGoOn}
use Rattle.snobol.proofs.EnumerationLaws.{to_end}
use Rattle.sno_statement.proofs.SessionLaws.{Follows, given_to}
use Rattle.snobol.proofs.telling.tell_line.Given as goal

-- deferred parts were told, and what was left then is still left behind what they wrote
abbrev pub invariant-parts : goal.invariant-parts
invariant-parts g l = record {
  follows : Follows l.matcher l.runtime.nodes (tree l.fn.matcher.nodes l.fn.matcher.pattern.0) l.fn.subject l.fn.matcher.anchored l.fn.matcher.limit;
  waits : l.matcher.waits ≡ false;
  go : CanGoOn l.runtime (devices (no_input l.reader.told_end) (g.W.Sink.drain l.writer));
  front : List ℕ;
  appends : Appends (g.W.Sink.drain l.fn.writer).taken (g.W.Sink.drain l.writer).taken front;
  leaves : Leaves (lists_rest l.fn.program l.fn.matcher (world l.fn.runtime []))
      (to_end l.fn.program (tree l.fn.matcher.nodes l.fn.matcher.pattern.0) l.fn.subject l.fn.matcher.anchored l.fn.matcher.limit
      (given_to l.matcher) l.matcher.told (world l.runtime [])) front;
  parts : List (Event × ℕ);
  deferred : AllByRecursion (λ told. IsDeferred told.0) parts;
  told : told_of l.matcher ≡ told_of l.fn.matcher ++ parts;
}

-- the events still to be told
abbrev pub decreases-parts : goal.decreases-parts
decreases-parts g l = most_events l.fn.matcher.limit - l.matcher.told
