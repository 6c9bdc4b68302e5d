-- What a move of the matcher does to the searches still to come. These words are private to the matcher.
use Rattle.std.specs.Prelude.{ℕ, ◌≡◌, ◌<◌, ◌≤◌, ◌+◌, ◌-◌, ◌*◌, List, [], ◌∷◌, Option, None, Some, Result, length}
use Rattle.std.specs.Prelude.{Contains, Ok, Err, OnOk, OnErr}
use Rattle.sno_value.specs.declared.ids.PatId.{PatId}
use Rattle.sno_pattern.specs.Pattern.{Pattern, Fence, Cut}
use Rattle.sno_pattern.specs.Table.{Node, tree}
use Rattle.sno_pattern.specs.Looks.{Found, AreTrue}
use Rattle.sno_pattern.specs.NextEnd.{ends_of}
use Rattle.sno_match.specs.declared.goal.Goal.{Goal}
use Rattle.sno_match.specs.declared.goal.Goal.TheVariants.{Match, CloseCut}
use Rattle.sno_match.specs.declared.goal.Mark.{Mark}
use Rattle.sno_match.specs.declared.goal.Mark.TheVariants.{Enter, Next}
use Rattle.sno_match.specs.declared.goal.Top.TheVariants.{Open}
use Rattle.sno_match.specs.declared.event.Event.{Event as Told}
use Rattle.sno_match.specs.declared.event.Event.TheVariants as V
use Rattle.sno_match.specs.declared.event.Pending.{Pending}
use Rattle.sno_match.specs.declared.engine.State.{State}
use Rattle.sno_match.specs.declared.engine.State.TheVariants as S
use Rattle.sno_match.specs.declared.plan.Plan.{Plan}
use Rattle.sno_match.specs.declared.plan.Plan.TheVariants as P
use Rattle.sno_match.specs.Search.{Event, Answer, Gives, Search, emit}
use Rattle.sno_match.specs.Matching.{in_trace, cost, pending_after}
use Rattle.sno_match.specs.Point.{Point, HasFirst, with_front, replaced, branched, closed, cut_back, below}
use Rattle.sno_match.specs.Top.{IsTop}
use Rattle.sno_match.specs.inner.State.{verdict_of, after_move, owed, HasAsked}
use Rattle.sno_match.specs.declared.steps.Due.{Due}
use Rattle.sno_match.specs.declared.steps.Due.TheVariants as D
use Rattle.sno_match.specs.inner.Plan.{goals_in, IsPlan, KeepsScopes}
use Rattle.sno_match.specs.Remaining.{remaining, IsKnown, MarkFits}
use Rattle.sno_match.specs.inner.Remaining.{waiting}
use Rattle.sno_match.specs.inner.Starts.{GivesWay}

-- what a move adds to the events; a last event is a verdict, and stands behind them
abbrev pub entries : Option Told → List Pending → ℕ → List (Event × ℕ)
entries None way left = []
entries (Some V.Exhausted) way left = []
entries (Some V.Aborted) way left = []
entries (Some V.Limit) way left = []
entries (Some event) way left = (in_trace event way, left) ∷ []

abbrev pub price : Option Told → ℕ
price None = 0
price (Some event) = cost event

abbrev pub way_after : Option Told → List Pending → List Pending → List Pending
way_after None way was = was
way_after (Some event) way was = pending_after (in_trace event way) was

-- the searches that a stack is, in a state
abbrev pub standing : State → List Node → (s : List ℕ) (start : ℕ) → List Point → Search
standing S.Going nodes s start points answers left = remaining nodes s start points answers left
standing S.Waiting nodes s start points answers left = waiting nodes s start points answers left
standing (S.Ended event) nodes s start points answers left = Gives [] answers left (verdict_of event)

-- One move at a stack with a point: the steps taken, the pending list of the last way, and the event, if one is told.
pub record Makes (nodes : List Node) (s : List ℕ) (start limit : ℕ) (old : List Point) (steps0 : ℕ) (was : List Pending)
    (told : Option Told) (new : List Point) (steps : ℕ) (way : List Pending) : Type 0 where
  pub steps_in : steps ≤ limit
  pub paid : steps0 + price told ≤ steps
  pub grows : length new + steps0 ≤ length old + steps
  pub falls : told ≡ None → 2 * (limit - steps) + length new < 2 * (limit - steps0) + length old
  pub more : told ≡ Some V.Exhausted → ⊥
  pub asked : HasAsked (after_move told) new
  pub pending : way ≡ way_after told way was
  pub leads : (answers : List Answer) → remaining nodes s start old answers (limit - steps0)
      ≡ emit (entries told way (limit - steps)) (standing (after_move told) nodes s start new answers (limit - steps))

-- a pattern that is entered gives way to another, so many steps later
abbrev pub EnteredGivesWay : List Node → List ℕ → Goal → Mark → PatId → ℕ → ℕ → Type 0
EnteredGivesWay nodes s (Match id) Enter other price c = GivesWay (tree nodes id.0) (tree nodes other.0) s price c
EnteredGivesWay nodes s goal mark other price c = ⊥

-- what a plan does to the stack, and what it tells, with the cursor and the steps left behind its own
abbrev pub CarriesOut : Plan → ℕ → ℕ → List Point → Option Told → List Point → Type 0
CarriesOut (P.Replace front at) c left old told new = (told ≡ None) × (new ≡ replaced (goals_in front) at old)
CarriesOut (P.Branch front at next) c left old told new = (told ≡ None) × (new ≡ branched (goals_in front) at next old)
CarriesOut (P.Close assignment) c left old told new = (told ≡ None) × (new ≡ closed assignment old)
CarriesOut (P.Assign a) c left old told new = (told ≡ Some (V.Assign a.target a.start a.end))
    × (new ≡ replaced [] c old)
CarriesOut (P.Cursor target) c left old told new = (told ≡ Some (V.Cursor target c)) × (new ≡ replaced [] c old)
CarriesOut (P.Ask prim expr) c left old told new = (told ≡ Some (V.Value prim expr)) × (new ≡ old)
CarriesOut P.Fail c left old told new = (told ≡ None) × (new ≡ below old)
CarriesOut P.Abort c left old told new = (told ≡ Some V.Aborted) × (new ≡ old)
CarriesOut (P.EnterCut p) c left old told new =
    (told ≡ None) × (new ≡ branched (Match p ∷ CloseCut left (length (below old)) ∷ []) c left old)
CarriesOut (P.CloseCut depth) c left old told new = (told ≡ None) × (new ≡ cut_back depth old)

-- a step: a right plan was carried out
pub record Steps (nodes : List Node) (s : List ℕ) (goal : Goal) (c : ℕ) (mark : Mark) (left : ℕ) (old : List Point)
    (told : Option Told) (new : List Point) : Type 0 where
  pub plan : Plan
  pub is_plan : IsPlan nodes s goal c mark plan
  pub scopes : KeepsScopes nodes goal plan
  pub carried : CarriesOut plan c left old told new

-- what is due is a step: no FENCE is backed into, and no cut
abbrev pub HasStep : List Node → Goal → Mark → Type 0
HasStep nodes goal Enter = Unit {0}
HasStep nodes (Match id) (Next at) = (tree nodes id.0 ≡ Fence → ⊥) × ((p : Pattern) → tree nodes id.0 ≡ Cut p → ⊥)
HasStep nodes goal (Next at) = Unit {0}

-- the step of a goal at a cursor: the goal is of the table, its next alternative fits, and a step is due
pub record IsStep (nodes : List Node) (s : List ℕ) (goal : Goal) (c : ℕ) (mark : Mark) : Type 0 where
  pub known : IsKnown nodes goal
  pub next : MarkFits nodes s mark (goal ∷ []) c
  pub due : HasStep nodes goal mark

-- the newest point begins with this goal of the table, and a step is due at it
pub record IsAtTop (nodes : List Node) (goal : Goal) (c : ℕ) (mark : Mark) (points : List Point) : Type 0 where
  pub known : IsKnown nodes goal
  pub due : HasStep nodes goal mark
  pub top : IsTop points (Open goal c mark)

-- what a move that ends so leaves of its records to an answer
abbrev pub owed_by : {E : Type 0} → Result (Option Told) E → ℕ
owed_by (Ok told) = owed (after_move told)
owed_by (Err e) = 0

-- the cursor lies within the subject, whose length has 32 bits
abbrev pub IsCursor : List ℕ → ℕ → Type 0
IsCursor s c = (c ≤ length s) × (length s ≤ 4294967295)

-- a primitive of the table ends there
abbrev pub EndsAt : List Node → List ℕ → PatId → ℕ → ℕ → Type 0
EndsAt nodes s id c end = (id.0 < length nodes) × Contains (ends_of (tree nodes id.0) s c) end

-- the newest point has a goal, no event is told, and what was found of the subject is true
abbrev pub IsReady : List Node → List ℕ → Found → List Point → Option Told → Type 0
IsReady nodes s found points told = AreTrue nodes s found × HasFirst points × (told ≡ None)

-- a step takes two records at most, and leaves one of them to an answer that is owed; where memory is refused nothing
-- has changed
abbrev pub Costs : {T E : Type 0} → Result T E → List Point → ℕ → Option Told → List Point → ℕ → Type 0
Costs result old records0 told new records =
    OnOk result (records + owed (after_move told) ≤ records0 + 2) × OnErr result ((new ≡ old) × (records ≡ records0))

-- what is due at a point
abbrev pub IsDueAs : List Node → Goal → Mark → Due → Type 0
IsDueAs nodes goal mark D.Step = HasStep nodes goal mark
IsDueAs nodes goal mark D.BackIntoFence =
    (id : PatId) × (at : ℕ) × (goal ≡ Match id) × (mark ≡ Next at) × (tree nodes id.0 ≡ Fence)
IsDueAs nodes goal mark D.BackIntoCut =
    (id : PatId) × (at : ℕ) × (p : Pattern) × (goal ≡ Match id) × (mark ≡ Next at) × (tree nodes id.0 ≡ Cut p)

-- the stack once the deferred part at its top is answered
abbrev pub answered : Option PatId → List Point → List Point
answered None points = below points
answered (Some id) [] = []
answered (Some id) (point ∷ rest) = with_front (Match id ∷ []) point.cursor point ∷ rest
