-- A match as its callers see it, and the events that it tells, beside those of the trace.
use Rattle.std.specs.Prelude.{ℕ, ◌≡◌, ◌≤◌, ◌+◌, ◌-◌, ◌*◌, ◌||◌, Bool, true, false, List, [], ◌∷◌, ◌++◌, Option, Some}
use Rattle.std.specs.Prelude.{map, length, min, take, slice_get, IfSome, IsTrue}
use Rattle.std.specs.List.{AllByRecursion}
use Rattle.std.specs.Option.{option_map}
use Rattle.std.specs.declared.result.Result.{Result}
use Rattle.std.specs.declared.result.Result.TheVariants.{Ok}
use Rattle.sno_value.specs.declared.ids.PatId.{PatId}
use Rattle.sno_pattern.specs.Pattern.{IsQuiet}
use Rattle.sno_pattern.specs.Table.{Node, tree}
use Rattle.sno_match.specs.declared.event.Pending.{Pending}
use Rattle.sno_match.specs.declared.event.Event.{Event as Told}
use Rattle.sno_match.specs.declared.event.Event.TheVariants as V
use Rattle.sno_match.specs.Search.{Event, Way, Assign, Cursor, Value, Ended, Exhausted, Aborted, Limit, Answer, trace}
use Rattle.sno_match.specs.Ways.{AreWays}

-- the event of the trace, where a way has its pending list
abbrev pub in_trace : Told → List Pending → Event
in_trace (V.Way start end) way = Way start end way
in_trace (V.Assign target start end) way = Assign target start end
in_trace (V.Cursor target at) way = Cursor target at
in_trace (V.Value prim expr) way = Value prim expr.0
in_trace V.Exhausted way = Ended Exhausted
in_trace V.Aborted way = Ended Aborted
in_trace V.Limit way = Ended Limit

-- nothing comes behind it
abbrev pub is_last : Told → Bool
is_last V.Exhausted = true
is_last V.Aborted = true
is_last V.Limit = true
is_last event = false

-- an answer is waited for
abbrev pub is_value : Told → Bool
is_value (V.Value prim expr) = true
is_value event = false

-- at least so many steps are taken for it
abbrev pub cost : Told → ℕ
cost (V.Assign target start end) = 1
cost (V.Cursor target at) = 1
cost (V.Value prim expr) = 1
cost event = 0

-- only a way changes the list of the last way
abbrev pub pending_after : Event → List Pending → List Pending
pending_after (Way start end pending) before = pending
pending_after event before = before

-- the pending list of the last way among the events, or the one from before them
abbrev pub last_pending : List Pending → List (Event × ℕ) → List Pending
last_pending before [] = before
last_pending before (told ∷ events) = last_pending (pending_after told.0 before) events

-- the count of the last of the events, or the one from before them
abbrev pub last_count : ℕ → List (Event × ℕ) → ℕ
last_count before [] = before
last_count before (told ∷ events) = last_count told.1 events

-- what is assigned, and what an event tells, lies within a subject of so many bytes
abbrev pub IsPart : ℕ → Pending → Type 0
IsPart n p = (p.start ≤ p.end) × (p.end ≤ n)

abbrev pub IsWithin : ℕ → Event → Type 0
IsWithin n (Way start end pending) = (start ≤ end) × (end ≤ n) × AllByRecursion (IsPart n) pending
IsWithin n (Assign target from to) = (from ≤ to) × (to ≤ n)
IsWithin n (Cursor target at) = at ≤ n
IsWithin n event = Unit {0}

pub record Matching : Type 0 where
  -- the table that was lent last
  pub nodes : List Node
  pub pattern : PatId
  pub subject : List ℕ
  pub anchored : Bool
  pub limit : ℕ
  -- those given so far
  pub answers : List (Option PatId)
  -- how many events were told, and how many steps were taken
  pub told : ℕ
  pub steps : ℕ
  -- a Value was told and not yet answered
  pub waits : Bool
  -- a last event was told
  pub ended : Bool
  -- the pending list of the last way
  pub way : List Pending
  -- how many resumption points and continuation records there are
  pub points : ℕ
  pub records : ℕ

abbrev pub answers_of : List Node → List (Option PatId) → List Answer
answers_of nodes answers = map (option_map (λ (id : PatId). tree nodes id.0)) answers

-- all events of the match, for the answers given so far
abbrev pub trace_of : Matching → List (Event × ℕ)
trace_of m = trace (tree m.nodes m.pattern.0) m.subject m.anchored m.limit (answers_of m.nodes m.answers)

-- those told so far
abbrev pub told_of : Matching → List (Event × ℕ)
told_of m = take m.told (trace_of m)

-- a match of which nothing was told
abbrev pub begins : List Node → PatId → List ℕ → Bool → ℕ → ℕ → Matching
begins nodes pattern subject anchored limit records =
    record {
      nodes = nodes;
      pattern = pattern;
      subject = subject;
      anchored = anchored;
      limit = limit;
      answers = [];
      told = 0;
      steps = 0;
      waits = false;
      ended = false;
      way = [];
      points = 1;
      records = records;
    }

-- the table lent later begins with the one lent before
abbrev pub Begins : List Node → List Node → Type 0
Begins nodes lent = (more : List Node) × (lent ≡ nodes ++ more)

-- the same match with the same answers, so that the same events are told
pub record SameMatch (old new : Matching) : Type 0 where
  pub pattern : new.pattern ≡ old.pattern
  pub subject : new.subject ≡ old.subject
  pub anchored : new.anchored ≡ old.anchored
  pub limit : new.limit ≡ old.limit
  pub answers : new.answers ≡ old.answers
  pub trace : trace_of new ≡ trace_of old

-- an event was told
pub record IsTold (old new : Matching) (event : Told) : Type 0 where
  -- it is the one of the trace that makes the number of events told what it is, with its count
  pub at : slice_get (trace_of new) (new.told - 1) ≡ Some (in_trace event new.way, new.steps)
  -- one more is told, and behind a last event that one again
  pub count : new.told ≡ min (old.told + 1) (length (trace_of new))
  pub grows : old.ended ≡ false → new.told ≡ old.told + 1
  -- nothing comes behind a last event, nor behind a value until it is answered
  pub stops : IsTrue (is_last event || is_value event) → length (trace_of new) ≡ new.told
  pub ended : new.ended ≡ is_last event
  pub waits : new.waits ≡ is_value event
  pub paid : old.steps + cost event ≤ new.steps
  pub way : new.way ≡ pending_after (in_trace event new.way) old.way

-- the event told is the one of the trace before which as many stand as were told before
abbrev pub ToldInOrder : Type 0
ToldInOrder =
    (old new : Matching) (event : Told) → IsTold old new event → old.ended ≡ false →
    slice_get (trace_of new) old.told ≡ Some (in_trace event new.way, new.steps)

-- nothing was told
pub record StaysAt (old new : Matching) : Type 0 where
  pub told : new.told ≡ old.told
  pub way : new.way ≡ old.way
  pub waits : new.waits ≡ false
  pub ended : new.ended ≡ false
  pub steps : old.steps ≤ new.steps

-- what the counts and the pending list of a match are, whatever was asked of it and however often memory was refused
pub record IsCounted (m : Matching) : Type 0 where
  pub told : m.told ≤ length (trace_of m)
  pub pending : m.way ≡ last_pending [] (told_of m)
  -- the steps lie between the count of the last event told and that of the next one
  pub since : last_count 0 (told_of m) ≤ m.steps
  pub until : IfSome (slice_get (trace_of m) m.told) (λ next. m.steps ≤ next.1)
  pub steps : m.steps ≤ m.limit
  pub few : m.told ≤ 2 * m.limit + 2
  pub points : m.points ≤ m.steps + 1
  pub records : m.records ≤ 2 * m.steps + 2

-- the events told tell the ways of a quiet pattern, all of them where the answer is Exhausted
pub record TellsWays {E : Type 0} (m : Matching) (answer : Result Told E) : Type 0 where
  pub ways : IsQuiet (tree m.nodes m.pattern.0) → AreWays (tree m.nodes m.pattern.0) m.subject m.anchored (told_of m)
      (answer ≡ Ok V.Exhausted)
