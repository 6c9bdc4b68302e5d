-- A plan is right where carrying it out leaves the reading of the stack. These words are private to the matcher.
use Rattle.std.specs.Prelude.{ℕ, zero, suc, ◌≡◌, ◌<◌, ◌≤◌, List, [], ◌∷◌, ◌++◌, Option, Some, None, length}
use Rattle.sno_pattern.specs.Table.{Node}
use Rattle.sno_match.specs.declared.goal.Goal.{Goal as Numbered}
use Rattle.sno_match.specs.declared.event.Pending.{Pending}
use Rattle.sno_match.specs.declared.goal.Mark.{Mark}
use Rattle.sno_match.specs.declared.goal.Mark.TheVariants.{Enter, Next}
use Rattle.sno_match.specs.declared.plan.Front.{Front}
use Rattle.sno_match.specs.declared.plan.Front.TheVariants.{Nothing, One, Two}
use Rattle.sno_match.specs.declared.plan.Plan.{Plan}
use Rattle.sno_match.specs.declared.plan.Plan.TheVariants as P
use Rattle.sno_match.specs.Search.{Aborted, Limit, Event, Assign, Cursor, Value, Answer, Gives, emit}
use Rattle.sno_match.specs.Point.{Point, with_front, rest_of, cut_back}
use Rattle.sno_match.specs.Remaining.{remaining, AllMarked, AllKnown, MarkFits}
use Rattle.sno_match.specs.inner.Remaining.{waiting}
use Rattle.sno_match.specs.Scopes.{closes, opened, opens, RiseFrom}
use Rattle.sno_match.specs.declared.goal.Goal.TheVariants as N
use Rattle.sno_value.specs.declared.ids.PatId.{PatId}
use Rattle.sno_pattern.specs.Pattern.{Cut}
use Rattle.sno_pattern.specs.Table.{tree}

abbrev pub goals_in : Front → List Numbered
goals_in Nothing = []
goals_in (One goal) = goal ∷ []
goals_in (Two first second) = first ∷ second ∷ []

abbrev pub point_at : Numbered → List Numbered → ℕ → List Pending → Mark → Point
point_at goal rest cursor pending mark = record { goals = goal ∷ rest; cursor = cursor; pending = pending; mark = mark }

-- what is done at an end of a primitive that may have another behind it
abbrev pub end_plan : ℕ → Option ℕ → Plan
end_plan end None = P.Replace Nothing end
end_plan end (Some next) = P.Branch Nothing end next

-- for one step the stack goes on as the new one, once these events are told
abbrev pub Goes : List Node → List ℕ → Numbered → ℕ → Mark → (ℕ → List (Event × ℕ))
    → (Point → List Point → List Point) → Type 0
Goes nodes s goal cursor mark told next =
    (start : ℕ) (rest : List Numbered) (pending : List Pending) (below : List Point)
    (answers : List Answer) → AllMarked below →
    (left : ℕ) → remaining nodes s start (point_at goal rest cursor pending mark ∷ below) answers (suc left) ≡
    emit (told left) (remaining nodes s start (next (point_at goal rest cursor pending mark) below) answers left)

-- a step is due
abbrev pub IsDue : List Node → List ℕ → Numbered → ℕ → Mark → Type 0
IsDue nodes s goal cursor mark =
    (start : ℕ) (rest : List Numbered) (pending : List Pending) (below : List Point) (answers : List Answer) →
    remaining nodes s start (point_at goal rest cursor pending mark ∷ below) answers zero ≡ Gives [] answers zero Limit

-- the goal is this cut of the table
abbrev pub IsCut : List Node → Numbered → PatId → Type 0
IsCut nodes goal p = (id : PatId) × (goal ≡ N.Match id) × (tree nodes id.0 ≡ Cut (tree nodes p.0))

abbrev pub IsPlan : List Node → List ℕ → Numbered → ℕ → Mark → Plan → Type 0
IsPlan nodes s goal cursor mark (P.Replace front at) =
    Goes nodes s goal cursor mark (λ left. []) (λ point below. with_front (goals_in front) at point ∷ below)
    × IsDue nodes s goal cursor mark × AllKnown nodes (goals_in front) × (at ≤ length s)
IsPlan nodes s goal cursor mark (P.Branch front at next) =
    Goes nodes s goal cursor mark (λ left. [])
    (λ point below. with_front (goals_in front) at point ∷ record point { mark = Next next } ∷ below)
    × IsDue nodes s goal cursor mark × AllKnown nodes (goals_in front) × (at ≤ length s)
    × MarkFits nodes s (Next next) (goal ∷ []) cursor
IsPlan nodes s goal cursor mark (P.Close assignment) =
    Goes nodes s goal cursor mark (λ left. [])
    (λ point below. record {
      goals = rest_of point.goals;
      cursor = point.cursor;
      pending = point.pending
          ++ assignment ∷ [];
      mark = Enter;
    } ∷ below) × IsDue nodes s goal cursor mark
IsPlan nodes s goal cursor mark (P.Assign a) =
    Goes nodes s goal cursor mark (λ left. (Assign a.target a.start a.end, left) ∷ [])
    (λ point below. with_front [] cursor point ∷ below) × IsDue nodes s goal cursor mark
IsPlan nodes s goal cursor mark (P.Cursor target) =
    Goes nodes s goal cursor mark (λ left. (Cursor target cursor, left) ∷ [])
    (λ point below. with_front [] cursor point ∷ below) × IsDue nodes s goal cursor mark
IsPlan nodes s goal cursor mark (P.Ask primitive expression) =
    ((start : ℕ) (rest : List Numbered) (pending : List Pending) (below : List Point)
    (answers : List Answer) (left : ℕ) →
    remaining nodes s start (point_at goal rest cursor pending mark ∷ below) answers (suc left) ≡
    emit ((Value primitive expression.0, left) ∷ [])
    (waiting nodes s start (point_at goal rest cursor pending mark ∷ below) answers left))
    × IsDue nodes s goal cursor mark
IsPlan nodes s goal cursor mark P.Fail =
    Goes nodes s goal cursor mark (λ left. []) (λ point below. below) × IsDue nodes s goal cursor mark
IsPlan nodes s goal cursor mark P.Abort =
    ((start : ℕ) (rest : List Numbered) (pending : List Pending) (below : List Point)
    (answers : List Answer) (left : ℕ) →
    remaining nodes s start (point_at goal rest cursor pending mark ∷ below) answers (suc left)
    ≡ Gives [] answers left Aborted) × IsDue nodes s goal cursor mark
IsPlan nodes s goal cursor mark (P.EnterCut p) =
    ((start : ℕ) (rest : List Numbered) (pending : List Pending) (below : List Point)
    (answers : List Answer) (left : ℕ) →
    remaining nodes s start (point_at goal rest cursor pending mark ∷ below) answers (suc left) ≡
    remaining nodes s start (with_front (N.Match p ∷ N.CloseCut left (length below) ∷ []) cursor
    (point_at goal rest cursor pending mark)
    ∷ record (point_at goal rest cursor pending mark) { mark = Next left } ∷ below) answers left)
    × IsDue nodes s goal cursor mark × (p.0 < length nodes) × IsCut nodes goal p
IsPlan nodes s goal cursor mark (P.CloseCut depth) =
    ((start left : ℕ) (rest : List Numbered) (pending : List Pending) (below : List Point) (answers : List Answer)
    → opens nodes below ≡ closes (goal ∷ rest) → RiseFrom (suc left) (opens nodes below) →
    remaining nodes s start (point_at goal rest cursor pending mark ∷ below) answers (suc left) ≡
    remaining nodes s start (cut_back depth (point_at goal rest cursor pending mark ∷ below)) answers left)
    × IsDue nodes s goal cursor mark × ((m : ℕ) × (goal ≡ N.CloseCut m depth))

-- FENCE is backed into: the match is over
abbrev pub BacksIntoFence : List Node → List ℕ → Numbered → ℕ → Mark → Type 0
BacksIntoFence nodes s goal cursor mark =
    (start : ℕ) (rest : List Numbered) (pending : List Pending) (below : List Point)
    (answers : List Answer) (left : ℕ) →
    remaining nodes s start (point_at goal rest cursor pending mark ∷ below) answers left
    ≡ Gives [] answers left Aborted

-- FENCE(P) is backed into: the search goes on below
abbrev pub BacksIntoCut : List Node → List ℕ → Numbered → ℕ → Mark → Type 0
BacksIntoCut nodes s goal cursor mark =
    (start : ℕ) (rest : List Numbered) (pending : List Pending) (below : List Point) (answers : List Answer)
    → AllMarked below → (left : ℕ) →
    remaining nodes s start (point_at goal rest cursor pending mark ∷ below) answers left
    ≡ remaining nodes s start below answers left

-- the goal closes no cut, and its further alternative is that of none
abbrev pub IsPlain : List Node → Numbered → Type 0
IsPlain nodes goal = (closes (goal ∷ []) ≡ [])
    × ((rest : List Numbered) (mark : Mark) (depth : ℕ) → opened nodes (goal ∷ rest) mark depth ≡ [])

-- the goals of a front close no cut, and neither does the goal that it takes the place of
abbrev pub KeepsScopes : List Node → Numbered → Plan → Type 0
KeepsScopes nodes goal (P.Replace front at) = (closes (goal ∷ []) ≡ []) × (closes (goals_in front) ≡ [])
KeepsScopes nodes goal (P.Branch front at next) = IsPlain nodes goal × (closes (goals_in front) ≡ [])
KeepsScopes nodes goal (P.Close assignment) = closes (goal ∷ []) ≡ []
KeepsScopes nodes goal (P.Assign a) = closes (goal ∷ []) ≡ []
KeepsScopes nodes goal (P.Cursor target) = closes (goal ∷ []) ≡ []
KeepsScopes nodes goal (P.Ask primitive expression) = closes (goal ∷ []) ≡ []
KeepsScopes nodes goal plan = Unit {0}
