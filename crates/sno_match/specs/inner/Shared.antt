-- The points that a stack with shared goal records holds. These words are private to the matcher.
use Rattle.std.specs.Prelude.{ℕ, ◌≡◌, ◌≤◌, ◌+◌, eqb, if◌then◌else◌, List, [], ◌∷◌, ◌++◌, Option, Some, None, map}
use Rattle.std.specs.Prelude.{length, reverse, take}
use Rattle.sno_match.specs.declared.event.Pending.{Pending}
use Rattle.sno_match.specs.declared.goal.Goal.{Goal}
use Rattle.sno_match.specs.declared.goal.Mark.{Mark}
use Rattle.sno_match.specs.declared.goal.Mark.TheVariants.{Enter, Next}
use Rattle.sno_match.specs.declared.records.GoalRecord.{GoalRecord}
use Rattle.sno_match.specs.declared.shared.Held.{Held}
use Rattle.sno_match.specs.Point.{Point}

-- the list with this number, among records of which the newest stands first
unfoldable pub goals_at : List GoalRecord → ℕ → List Goal
goals_at [] n = []
goals_at (newest ∷ older) n =
    if eqb n (length older + 1) then newest.goal ∷ goals_at older newest.behind else goals_at older n

abbrev pub goals_of : List GoalRecord → ℕ → List Goal
goals_of records n = goals_at (reverse records) n

-- what stands behind a record has a smaller number; the newest record stands first
abbrev pub Falls : List GoalRecord → Type 0
Falls [] = Unit {0}
Falls (newest ∷ older) = (newest.behind ≤ length older) × Falls older

-- a point's first goal is to be entered, or its next alternative goes on from there
abbrev pub marked : Option ℕ → Mark
marked None = Enter
marked (Some at) = Next at

abbrev pub point_of : List GoalRecord → List Pending → Held → Point
point_of records pending held =
    record {
      goals = goals_of records held.goals;
      cursor = held.cursor;
      pending = take held.assigned pending;
      mark = marked held.next;
    }

-- the newest first
abbrev pub held_of : Option Held → List Held → List Held
held_of None below = []
held_of (Some top) below = top ∷ reverse below

abbrev pub points_of : List GoalRecord → List Pending → Option Held → List Held → List Point
points_of records pending top below = map (point_of records pending) (held_of top below)

-- the lists of these points, the newest first, are within so many records and entries
abbrev pub Fits : ℕ → ℕ → List Held → Type 0
Fits count entries [] = Unit {0}
Fits count entries (held ∷ under) =
    (held.goals ≤ count) × (held.floor ≤ count) × (held.assigned ≤ entries) × Fits held.floor held.assigned under

pub record Holds (records : List GoalRecord) (pending : List Pending) (top : Option Held)
    (below : List Held) : Type 0 where
  pub falls : Falls (reverse records)
  pub fits : Fits (length records) (length pending) (held_of top below)

-- goals were put in front of a list, in records behind the old ones
pub record Extends (old : List GoalRecord) (behind : ℕ) (front : List Goal) (new : List GoalRecord)
    (goals : ℕ) : Type 0 where
  pub kept : (made : List GoalRecord) × (new ≡ old ++ made)
  pub count : length new ≡ length old + length front
  pub falls : Falls (reverse new)
  pub inside : goals ≤ length new
  pub list : goals_of new goals ≡ front ++ goals_of old behind
