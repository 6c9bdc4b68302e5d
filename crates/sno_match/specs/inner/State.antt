-- The state that a match is in behind an event. These words are private to the matcher.
use Rattle.std.specs.Prelude.{ℕ, Bool, true, false, List, Option, None, Some, IsTrue}
use Rattle.sno_match.specs.declared.event.Event.{Event as Told}
use Rattle.sno_match.specs.declared.event.Event.TheVariants as V
use Rattle.sno_match.specs.declared.engine.State.{State}
use Rattle.sno_match.specs.declared.engine.State.TheVariants as S
use Rattle.sno_match.specs.Matching.{is_last}
use Rattle.sno_match.specs.Search.{Verdict, Exhausted, Aborted, Limit}
use Rattle.sno_match.specs.Point.{Point, HasFirst}
use Rattle.sno_match.specs.inner.Scopes.{FirstIsPlain}

abbrev pub verdict_of : Told → Verdict
verdict_of V.Exhausted = Exhausted
verdict_of V.Aborted = Aborted
verdict_of event = Limit

-- the state behind an event
abbrev pub after : Told → State
after (V.Value prim expr) = S.Waiting
after V.Exhausted = S.Ended V.Exhausted
after V.Aborted = S.Ended V.Aborted
after V.Limit = S.Ended V.Limit
after event = S.Going

abbrev pub waits : State → Bool
waits S.Going = false
waits S.Waiting = true
waits (S.Ended event) = false

abbrev pub ended : State → Bool
ended S.Going = false
ended S.Waiting = false
ended (S.Ended event) = true

-- no event was told
abbrev pub after_move : Option Told → State
after_move None = S.Going
after_move (Some event) = after event

abbrev pub LastIn : State → Type 0
LastIn S.Going = Unit {0}
LastIn S.Waiting = Unit {0}
LastIn (S.Ended event) = IsTrue (is_last event)

abbrev pub HasAsked : State → List Point → Type 0
HasAsked S.Going points = Unit {0}
HasAsked S.Waiting points = HasFirst points × FirstIsPlain points
HasAsked (S.Ended event) points = Unit {0}

-- whether the last event told is a last one; whether an answer is owed, which may need a record
abbrev pub over : State → ℕ
over S.Going = 0
over S.Waiting = 0
over (S.Ended event) = 1

abbrev pub owed : State → ℕ
owed S.Going = 0
owed S.Waiting = 1
owed (S.Ended event) = 0
