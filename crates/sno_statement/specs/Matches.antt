-- A match up to its first way.
use Rattle.std.specs.Prelude.{ℕ, Bool, List, [], ◌∷◌}
use Rattle.sno_match.specs.declared.event.Pending.{Pending}
use Rattle.sno_pattern.specs.Pattern.{Pattern}
use Rattle.sno_match.specs.Search.{Event, Answer, Way, Ended, Exhausted, Aborted, Limit, Waiting, CutOff, trace}
use Rattle.sno_runtime.specs.Values.{Str}
use Rattle.sno_runtime.specs.Action.{Error, Action, gives, fails, stops, and_then}
use Rattle.sno_runtime.specs.Variables.{assigns}
use Rattle.sno_runtime.specs.Keywords.{is_anchored}
use Rattle.sno_runtime.specs.Effects.{part_of, effect}
use Rattle.sno_text.specs.Program.{Program}
use Rattle.sno_expression.specs.Evaluate.{Caller}
use Rattle.sno_statement.specs.Turns.{answers, session, most_events}

-- the assignments that waited for the end of the match, in their order
abbrev pub performs_pending : List ℕ → List Pending → Action Unit
performs_pending subject [] = gives tt
performs_pending subject (p ∷ pending) =
    and_then (assigns p.target (Str (part_of subject p.start p.end))) (λ done. performs_pending subject pending)

-- An event takes effect, and then the next ones do. A way ends the match, and its assignments are performed; where
-- there is none the match fails, and a search that takes too many steps is error 21.
abbrev pub after_event : List ℕ → Event → Action (ℕ × ℕ) → Action (ℕ × ℕ)
after_event subject (Way start end pending) next =
    and_then (performs_pending subject pending) (λ done. gives (start, end))
after_event subject (Ended Limit) next = stops (Error 21)
after_event subject (Ended Exhausted) next = fails
after_event subject (Ended Aborted) next = fails
after_event subject (Ended Waiting) next = fails
after_event subject (Ended (CutOff mark)) next = fails
after_event subject event next = and_then (effect subject event) (λ done. next)

-- the events of a match, up to the first way
abbrev pub first_way : Program → Caller → Pattern → List ℕ → Bool → ℕ → ℕ → List Answer → ℕ → Action (ℕ × ℕ)
first_way program call p subject anchored limit =
    session (after_event subject) (answers program call) (λ given. trace p subject anchored limit given) fails

-- a pattern is matched against a subject, and gives where it begins and ends
abbrev pub matches : Program → Caller → Pattern → List ℕ → Action (ℕ × ℕ)
matches program call p subject w =
    first_way program call p subject (is_anchored w.keywords.anchor) w.keywords.steps
    (most_events w.keywords.steps) [] 0 w
