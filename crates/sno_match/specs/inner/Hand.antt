-- The newest point in hand, and silent steps with it. These words are private to the matcher.
use Rattle.std.specs.Prelude.{ℕ, ◌≡◌, ◌≤◌, ◌<◌, ◌+◌, ◌-◌, Bool, true, false, List, ◌∷◌, Option, Some, None, length}
use Rattle.sno_pattern.specs.Table.{Node}
use Rattle.sno_match.specs.declared.event.Pending.{Pending}
use Rattle.sno_match.specs.declared.goal.Goal.{Goal}
use Rattle.sno_match.specs.declared.goal.Mark.{Mark}
use Rattle.sno_match.specs.declared.plan.Plan.{Plan}
use Rattle.sno_match.specs.declared.records.GoalRecord.{GoalRecord}
use Rattle.sno_match.specs.declared.shared.Held.{Held}
use Rattle.sno_match.specs.Point.{rest_of}
use Rattle.sno_match.specs.Scopes.{HasCuts}
use Rattle.sno_match.specs.inner.Shared.{goals_of, Holds, points_of}
use Rattle.sno_match.specs.Silent.{LeadsOn}
use Rattle.sno_match.specs.inner.Move.{CarriesOut, Steps}

-- the first record of a list
abbrev pub IsFirst : List GoalRecord → ℕ → GoalRecord → Type 0
IsFirst records goals first =
    (goals_of records goals ≡ first.goal ∷ goals_of records first.behind) × (first.behind ≤ goals)

-- the list behind the first goal of a list
abbrev pub IsBehind : List GoalRecord → ℕ → ℕ → Type 0
IsBehind records goals behind = (goals_of records behind ≡ rest_of (goals_of records goals)) × (behind ≤ goals)

-- the plan was carried out at the newest point, or nothing was changed
abbrev pub Carries : Bool → Plan → List GoalRecord → List Pending → Held → List Held
    → List GoalRecord → List Pending → Option Held → List Held → Type 0
Carries false plan records0 pending0 point below0 records pending top below =
    (records ≡ records0) × (pending ≡ pending0) × (below ≡ below0) × (top ≡ Some point)
Carries true plan records0 pending0 point below0 records pending top below =
    Holds records pending top below
    × ((c left : ℕ) → CarriesOut plan c left (points_of records0 pending0 (Some point) below0) None
    (points_of records pending top below))
    × (length records ≤ length records0 + 2)

-- the step of this goal was taken at the newest point, or nothing was changed
abbrev pub Enters : Bool → List Node → List ℕ → Goal → ℕ → Mark → List GoalRecord → List Pending → Held → List Held
    → List GoalRecord → List Pending → Option Held → List Held → Type 0
Enters false nodes s goal c mark records0 pending0 point below0 records pending top below =
    (records ≡ records0) × (pending ≡ pending0) × (below ≡ below0) × (top ≡ Some point)
Enters true nodes s goal c mark records0 pending0 point below0 records pending top below =
    Holds records pending top below
    × ((left : ℕ) → Steps nodes s goal c mark left (points_of records0 pending0 (Some point) below0) None
    (points_of records pending top below))
    × (length records ≤ length records0 + 2)

-- a step was taken, or nothing was changed
abbrev pub Leads : Bool → List Node → List ℕ → List GoalRecord → List Pending → Held → List Held
    → List GoalRecord → List Pending → Option Held → List Held → Type 0
Leads false nodes s records0 pending0 point below0 records pending top below =
    (records ≡ records0) × (pending ≡ pending0) × (below ≡ below0) × (top ≡ Some point)
Leads true nodes s records0 pending0 point below0 records pending top below =
    Holds records pending top below
    × ((limit steps : ℕ) → steps < limit
    → HasCuts nodes (limit - steps) (points_of records0 pending0 (Some point) below0)
    → LeadsOn nodes s limit (points_of records0 pending0 (Some point) below0) steps
    (points_of records pending top below) (steps + 1))
    × (length records ≤ length records0 + 2)
