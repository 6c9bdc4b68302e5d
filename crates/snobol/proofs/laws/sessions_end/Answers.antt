use Rattle.std.proofs.Common.{◌+◌, ◌*◌, arith, []}
use Rattle.sno_match.specs.Search.{trace}
use Rattle.sno_runtime.specs.Action.{fails, gives}
use Rattle.sno_statement.specs.Matches.{after_event}
use Rattle.sno_statement.specs.Turns.{answers, most_events}
use Rattle.snobol.specs.Listing.{lists_event}
use Rattle.snobol.specs.Meaning.{calls}
use Rattle.snobol.proofs.TurnLaws.{session_same, trace_few}
use Rattle.snobol.proofs.laws.sessions_end.Goals as goal

pub returns : goal.returns
returns c = record {
  matches = λ program call p subject anchored limit more.
      session_same (after_event subject) (answers program call) (λ given. trace p subject anchored limit given) fails (2 * limit + 2)
      (λ given. trace_few p subject anchored limit given) (most_events limit + more) (most_events limit) [] 0 (omega arith) (omega arith);
  listings = λ program p subject anchored limit more.
      session_same (lists_event subject) (answers program (calls program)) (λ given. trace p subject anchored limit given) (gives tt) (2 * limit + 2)
      (λ given. trace_few p subject anchored limit given) (most_events limit + more) (most_events limit) [] 0 (omega arith) (omega arith);
}
