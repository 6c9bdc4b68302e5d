-- Searches that go one way alone. These words are private to the matcher.
use Rattle.std.specs.Prelude.{ℕ, ◌≡◌, ◌≤◌, ◌<◌, ◌+◌, List, [], ◌∷◌, ◌++◌, Option, Some, None, length, take}
use Rattle.sno_value.specs.declared.ids.PatId.{PatId}
use Rattle.sno_pattern.specs.Pattern.{Pattern}
use Rattle.sno_pattern.specs.Table.{Node, tree}
use Rattle.sno_match.specs.declared.event.Pending.{Pending}
use Rattle.sno_match.specs.declared.straight.Met.{Met}
use Rattle.sno_match.specs.declared.straight.Met.TheVariants.{GoesOn, Fails, Open}
use Rattle.sno_match.specs.declared.straight.Straight.{Straight}
use Rattle.sno_match.specs.Search.{Goal, Match, CloseCond, CloseImm, CloseRepeat, CloseCut, Answer, search}
use Rattle.sno_match.specs.inner.Starts.{FailsAt}

-- the numbers of the goals that wait, the next one last
abbrev pub waits : Straight → List PatId
waits m = take m.count m.goals

-- the goal with this number
abbrev pub IsGoal : List Node → PatId → Goal → Type 0
IsGoal nodes id (Match p) = (id.0 < length nodes) × (id.0 < 4294967295) × (p ≡ tree nodes id.0)
IsGoal nodes id (CloseCond target from) = id.0 ≡ 4294967295
IsGoal nodes id (CloseImm target from) = ⊥
IsGoal nodes id (CloseRepeat body from) = ⊥
IsGoal nodes id (CloseCut mark) = ⊥

-- the goals with these numbers, the last of them first, and others behind them
abbrev pub AreGoals : List Node → List PatId → List Goal → List Goal → Type 0
AreGoals nodes [] goals rest = goals ≡ rest
AreGoals nodes (id ∷ ids) goals rest = (goal : Goal) × IsGoal nodes id goal × AreGoals nodes ids goals (goal ∷ rest)

-- from one cursor the pattern's search is, so many steps later, a search for these goals from another
pub record LeadsTo (nodes : List Node) (p : Pattern) (s : List ℕ) (from price : ℕ) (ids : List PatId) (at : ℕ) : Type 0 where
  pub leads : (start : ℕ) (rest : List Goal) (pending : List Pending) (answers : List Answer) (due left : ℕ)
      → due ≡ left + price → (goals : List Goal) × (waiting : List Pending) × AreGoals nodes ids goals rest
      × (search s start (Match p ∷ rest) from pending answers due ≡ search s start goals at waiting answers left)

-- so many steps later these goals wait too
abbrev pub Puts : ℕ → List PatId → Straight → Met → Straight → Type 0
Puts steps ids old GoesOn new = (waits new ≡ waits old ++ ids) × (new.cursor ≡ old.cursor) × (new.steps ≡ old.steps + steps)
    × (0 < steps) × ((id : PatId) → ids ≡ id ∷ [] → id.0 < 4294967295)
Puts steps ids old Fails new = ⊥
Puts steps ids old Open new = Unit {0}

-- a primitive's step, by its first end and the one behind that
abbrev pub Ends : Option ℕ → Option ℕ → Straight → Met → Straight → Type 0
Ends first next old GoesOn new = (first ≡ Some new.cursor) × (next ≡ None) × (waits new ≡ waits old) × (new.steps ≡ old.steps + 1)
Ends first next old Fails new = (first ≡ None) × (new.steps ≡ old.steps + 1)
Ends first next old Open new = Unit {0}

-- what the step of the goal with this number, behind which others wait, comes to, where there are so many steps
abbrev pub Meets : List Node → List ℕ → PatId → ℕ → Straight → Met → Straight → Type 0
Meets nodes s id left old GoesOn new = (new.cursor ≤ length s) × (old.steps < new.steps) × (new.steps < old.steps + left)
    × ((p : Pattern) (from : ℕ) → LeadsTo nodes p s from old.steps (waits old ++ id ∷ []) old.cursor
    → LeadsTo nodes p s from new.steps (waits new) new.cursor)
Meets nodes s id left old Fails new = (new.steps < old.steps + left)
    × ((p : Pattern) (from : ℕ) → LeadsTo nodes p s from old.steps (waits old ++ id ∷ []) old.cursor
    → FailsAt p s new.steps from)
Meets nodes s id left old Open new = Unit {0}
