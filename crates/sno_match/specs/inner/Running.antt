-- What is kept of a match between two calls. These words are private to the matcher.
use Rattle.std.specs.Prelude.{ℕ, ◌≡◌, ◌≤◌, ◌<◌, ◌+◌, ◌-◌, ◌*◌, Bool, true, false, List, [], ◌∷◌, ◌++◌, Option, Some}
use Rattle.std.specs.Prelude.{None, map, length}
use Rattle.sno_value.specs.declared.ids.PatId.{PatId}
use Rattle.sno_pattern.specs.Table.{Node, tree}
use Rattle.sno_pattern.specs.Ends.{count_from}
use Rattle.sno_match.specs.declared.event.Event.{Event as Told}
use Rattle.sno_match.specs.declared.event.Pending.{Pending}
use Rattle.sno_match.specs.declared.engine.State.{State}
use Rattle.sno_match.specs.declared.engine.State.TheVariants as S
use Rattle.sno_match.specs.Matching.{last_pending, last_count, Matching, answers_of, SameMatch, StaysAt, IsTold}
use Rattle.sno_match.specs.Search.{Match, Event, Answer, Search, Gives, emit, further, search, whole}
use Rattle.sno_match.specs.Point.{Point}
use Rattle.sno_match.specs.inner.State.{verdict_of, waits, ended, over, owed, LastIn, HasAsked}
use Rattle.sno_match.specs.Remaining.{remaining, IsStack}
use Rattle.sno_match.specs.inner.Remaining.{waiting}
use Rattle.sno_match.specs.Scopes.{HasCuts}

-- the starts behind this one
abbrev pub later_starts : Bool → List ℕ → ℕ → List ℕ
later_starts true s start = []
later_starts false s start = count_from (start + 1) (length s - start)

abbrev pub later : Matching → ℕ → List Search
later m start = map (λ b. search m.subject b (Match (tree m.nodes m.pattern.0) ∷ []) b [])
    (later_starts m.anchored m.subject start)

-- what is still to come: the stack, and then the later starts
abbrev pub to_come : State → Matching → ℕ → List Point → Search
to_come S.Going m start points answers left =
    further (remaining m.nodes m.subject start points answers left) (later m start)
to_come S.Waiting m start points answers left =
    further (waiting m.nodes m.subject start points answers left) (later m start)
to_come (S.Ended event) m start points answers left = Gives [] answers left (verdict_of event)

-- each answer is of this table
abbrev pub AnswersIn : List Node → List (Option PatId) → Type 0
AnswersIn nodes [] = Unit {0}
AnswersIn nodes (None ∷ answers) = AnswersIn nodes answers
AnswersIn nodes (Some id ∷ answers) = (id.0 < length nodes) × AnswersIn nodes answers

-- what a trace shows of an event
abbrev pub counted : ℕ → Event × ℕ → Event × ℕ
counted limit told = (told.0, limit - told.1)

pub record IsMatch (m : Matching) (start : ℕ) (points : List Point) (state : State) : Type 0 where
  pub pattern_in : m.pattern.0 < length m.nodes
  pub answers_in : AnswersIn m.nodes m.answers
  pub steps_in : m.steps ≤ m.limit
  pub start_in : start ≤ length m.subject
  pub stack : IsStack m.nodes m.subject points
  pub cuts : HasCuts m.nodes (m.limit - m.steps) points
  pub asked : HasAsked state points
  pub last_in : LastIn state
  pub points_in : length points ≤ m.steps + 1
  pub records_in : m.records + owed state ≤ 2 * m.steps + 1
  -- the events told so far, but for a last one
  pub events : List (Event × ℕ)
  pub told : m.told ≡ length events + over state
  pub pending : m.way ≡ last_pending [] events
  pub since : last_count 0 (map (counted m.limit) events) ≤ m.steps
  -- whatever is answered later
  pub story : (more : List Answer) → whole (tree m.nodes m.pattern.0) m.subject m.anchored
      (answers_of m.nodes m.answers ++ more) m.limit
      ≡ emit events (to_come state m start points more (m.limit - m.steps))

-- the session that is seen of a match
abbrev pub seen : List Node → PatId → List ℕ → Bool → ℕ → List (Option PatId) → ℕ → ℕ → State → List Pending
    → List Point → ℕ → Matching
seen nodes pattern subject anchored limit answers told steps state way points records =
    record {
      nodes = nodes;
      pattern = pattern;
      subject = subject;
      anchored = anchored;
      limit = limit;
      answers = answers;
      told = told;
      steps = steps;
      waits = waits state;
      ended = ended state;
      way = way;
      points = length points;
      records = records;
    }

-- no event was told on the way
pub record GoesOn (old new : Matching) : Type 0 where
  pub nodes : new.nodes ≡ old.nodes
  pub same : SameMatch old new
  pub stays : StaysAt old new

-- how much is left to be done before the next event
abbrev pub work : Matching → ℕ
work m = 2 * (m.limit - m.steps) + m.points

-- what one move or one start does
abbrev pub Advances : Matching → Option Told → Matching → Type 0
Advances old None new = GoesOn old new × (work new < work old)
Advances old (Some event) new = (new.nodes ≡ old.nodes) × SameMatch old new × IsTold old new event
