-- Ends of ARB behind which the search fails at once. These words are private to the matcher.
use Rattle.std.specs.Prelude.{ℕ, ◌≡◌, ◌≤◌, ◌<◌, ◌+◌, ◌-◌, ◌*◌, List, ◌∷◌, Option, Some, length}
use Rattle.sno_value.specs.declared.ids.PatId.{PatId}
use Rattle.sno_pattern.specs.Pattern.{Leaf, Arb}
use Rattle.sno_pattern.specs.Table.{Node, tree}
use Rattle.sno_match.specs.declared.arb.Behind.{Behind}
use Rattle.sno_match.specs.declared.arb.Jump.{Jump}
use Rattle.sno_match.specs.declared.event.Pending.{Pending}
use Rattle.sno_match.specs.declared.goal.Goal.{Goal}
use Rattle.sno_match.specs.declared.goal.Goal.TheVariants as N
use Rattle.sno_match.specs.declared.records.GoalRecord.{GoalRecord}
use Rattle.sno_match.specs.declared.shared.Held.{Held}
use Rattle.sno_match.specs.Remaining.{goals_of}
use Rattle.sno_match.specs.Scopes.{HasCuts}
use Rattle.sno_match.specs.Silent.{LeadsOn}
use Rattle.sno_match.specs.inner.Shared.{Holds, points_of}
use Rattle.sno_match.specs.inner.Starts.{FailsAt, GoalsFail}

-- ARB is the first goal, and what comes behind it fails where this pattern does, so many steps later
abbrev pub StandsBehind : List Node → List Goal → Behind → Type 0
StandsBehind nodes goals behind =
    (arb : PatId) × (rest : List Goal) × (goals ≡ N.Match arb ∷ rest) × (tree nodes arb.0 ≡ Leaf Arb) × (behind.id.0 < length nodes)
    × (behind.closes ≤ 1)
    × ((s : List ℕ) (price e : ℕ) → FailsAt (tree nodes behind.id.0) s price e → GoalsFail s (goals_of nodes rest) (price + behind.closes) e)

-- a later end of ARB among so many bytes, where from each before it the search is in vain, and their steps at this price each
abbrev pub JumpsOver : (ℕ → Type 0) → ℕ → ℕ → ℕ → ℕ → Jump → Type 0
JumpsOver InVain at each left most jump =
    (at ≤ jump.place) × (jump.place ≤ most) × ((e : ℕ) → at ≤ e → e < jump.place → InVain e)
    × (jump.price ≡ (jump.place - at) * each) × (jump.price ≤ left)

-- a later end of ARB, where what comes behind fails from those before it, and their steps
abbrev pub Jumps : List Node → List ℕ → List Goal → Option ℕ → ℕ → Jump → Type 0
Jumps nodes s goals next left jump =
    (at : ℕ) × (behind : Behind) × (price : ℕ) × (next ≡ Some at) × StandsBehind nodes goals behind
    × JumpsOver (FailsAt (tree nodes behind.id.0) s price) at (price + behind.closes + 1) left (length s) jump

-- so many steps that tell nothing were passed at the newest point
abbrev pub PassesEnds : List Node → List ℕ → List GoalRecord → List Pending → List Held → Option Held → Option Held → ℕ → ℕ → Type 0
PassesEnds nodes s records pending below old new left price =
    Holds records pending new below
    × ((limit steps : ℕ) → left ≡ limit - steps → steps ≤ limit → HasCuts nodes (limit - steps) (points_of records pending old below)
    → LeadsOn nodes s limit (points_of records pending old below) steps (points_of records pending new below) (steps + price))
