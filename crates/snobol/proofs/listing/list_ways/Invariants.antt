use Rattle.std.proofs.Common.{◌≡◌, ◌-◌, [], false, Result}
use Rattle.sno_pattern.specs.Table.{tree}
use Rattle.sno_runtime.specs.declared.stops.Exit.{Exit}
use Rattle.sno_runtime.specs.Runtime.{Runtime, itself}
use Rattle.sno_runtime.specs.inner.Runtime.{any}
use Rattle.sno_statement.specs.Running.{Devices, CanRun, Runs, devices}
use Rattle.sno_statement.specs.Turns.{most_events}
use Rattle.snobol.proofs.EnumerationLaws.{to_end}
use Rattle.sno_statement.proofs.SessionLaws.{Follows, given_to}
use Rattle.snobol.proofs.listing.list_ways.Given as goal

-- what is left of the events is still to be listed
abbrev pub invariant-events : goal.invariant-events
invariant-events g l = record {
  follows : Follows l.matcher l.runtime.nodes (tree l.fn.runtime.nodes l.fn.pattern.0) l.fn.subject l.fn.anchored l.fn.limit;
  waits : l.matcher.waits ≡ false;
  can : CanRun l.runtime (devices (g.R.Source.feed l.reader) (g.W.Sink.drain l.writer));
  calls : l.runtime.store.calls ≡ l.fn.runtime.store.calls;
  leads : (c : Runtime) (z : Devices) (r : Result Unit Exit)
      → Runs itself any (to_end (g.S.Calls.code l.scope) (tree l.fn.runtime.nodes l.fn.pattern.0) l.fn.subject l.fn.anchored l.fn.limit
      (given_to l.matcher) l.matcher.told) l.runtime c
      (devices (g.R.Source.feed l.reader) (g.W.Sink.drain l.writer)) z r
      → Runs itself any (to_end (g.S.Calls.code l.scope) (tree l.fn.runtime.nodes l.fn.pattern.0) l.fn.subject l.fn.anchored l.fn.limit [] 0) l.fn.runtime c
      (devices (g.R.Source.feed l.fn.reader) (g.W.Sink.drain l.fn.writer)) z r;
}

-- the events still to be told
abbrev pub decreases-events : goal.decreases-events
decreases-events g l = most_events l.fn.limit - l.matcher.told
