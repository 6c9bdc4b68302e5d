-- A stack of resumption points, read as the searches still to come, each behind the one above it.
use Rattle.std.specs.Prelude.{ℕ, suc, ◌≡◌, ◌<◌, ◌≤◌, List, [], ◌∷◌, length, map, filter, nat_le, replicate, Contains}
use Rattle.sno_pattern.specs.Pattern.{Pattern, Leaf, Fence, Cut, Succeed, Arbno, Alt}
use Rattle.sno_pattern.specs.Ends.{ends}
use Rattle.sno_pattern.specs.Table.{Node, tree}
use Rattle.sno_match.specs.declared.goal.Goal.{Goal as Numbered}
use Rattle.sno_match.specs.declared.goal.Goal.TheVariants as N
use Rattle.sno_match.specs.declared.event.Pending.{Pending}
use Rattle.sno_match.specs.declared.goal.Mark.{Mark}
use Rattle.sno_match.specs.declared.goal.Mark.TheVariants.{Enter, Next}
use Rattle.sno_match.specs.Search.{Goal, Match, CloseCond, CloseImm, CloseRepeat, CloseCut, Exhausted, SearchResult}
use Rattle.sno_match.specs.Search.{Gives}
use Rattle.sno_match.specs.Search.{Search, further, abort_if_exhausted, exhausted_if_cut_off, search}
use Rattle.sno_match.specs.Point.{Point, below}

-- the body of an ARBNO
abbrev pub body_of : Pattern → Pattern
body_of (Arbno p) = p
body_of other = other

-- the goal of a numbered goal
abbrev pub goal_of : List Node → Numbered → Goal
goal_of nodes (N.Match id) = Match (tree nodes id.0)
goal_of nodes (N.CloseCond target from) = CloseCond target from
goal_of nodes (N.CloseImm target from) = CloseImm target from
goal_of nodes (N.CloseRepeat id from) = CloseRepeat (body_of (tree nodes id.0)) from
goal_of nodes (N.CloseCut left depth) = CloseCut left

abbrev pub goals_of : List Node → List Numbered → List Goal
goals_of nodes goals = map (goal_of nodes) goals

abbrev pub left_of : SearchResult → ℕ
left_of (Gives events answers left verdict) = left

-- the ends from this one on
abbrev pub ends_from : ℕ → List ℕ → List ℕ
ends_from next es = filter (λ e. nat_le next e) es

-- what follows an outcome, where the pattern's next alternative goes on from this cursor
abbrev pub after_pattern : (s : List ℕ) (start : ℕ) → Pattern → List Goal → ℕ → List Pending → ℕ
    → SearchResult → SearchResult
after_pattern s start (Leaf a) rest c pending next outcome =
    further outcome (map (λ e. search s start rest e pending) (ends_from next (ends a s c)))
after_pattern s start (Alt p q) rest c pending next outcome =
    further outcome (search s start (Match q ∷ rest) c pending ∷ [])
after_pattern s start (Arbno p) rest c pending next outcome =
    further outcome (search s start (Match p ∷ CloseRepeat p c ∷ rest) c pending ∷ [])
after_pattern s start Succeed rest c pending next outcome =
    further outcome (replicate (suc (left_of outcome)) (search s start rest c pending))
after_pattern s start Fence rest c pending next outcome = abort_if_exhausted outcome
after_pattern s start (Cut p) rest c pending next outcome = exhausted_if_cut_off next outcome
after_pattern s start pattern rest c pending next outcome = outcome

abbrev pub after_goals : (s : List ℕ) (start : ℕ) → List Goal → ℕ → List Pending → ℕ → SearchResult → SearchResult
after_goals s start (Match p ∷ rest) c pending next outcome = after_pattern s start p rest c pending next outcome
after_goals s start goals c pending next outcome = outcome

-- what follows an outcome at a point
abbrev pub behind_mark : (s : List ℕ) (start : ℕ) → Mark → List Goal → ℕ → List Pending → SearchResult → SearchResult
behind_mark s start Enter goals c pending outcome = outcome
behind_mark s start (Next at) goals c pending outcome = after_goals s start goals c pending at outcome

abbrev pub behind : List Node → (s : List ℕ) (start : ℕ) → Point → SearchResult → SearchResult
behind nodes s start point outcome =
    behind_mark s start point.mark (goals_of nodes point.goals) point.cursor point.pending outcome

-- an outcome, and then the points below, the newest first
abbrev pub resume : List Node → (s : List ℕ) (start : ℕ) → List Point → SearchResult → SearchResult
resume nodes s start [] outcome = outcome
resume nodes s start (point ∷ rest) outcome = resume nodes s start rest (behind nodes s start point outcome)

abbrev pub from_mark : (s : List ℕ) (start : ℕ) → Mark → List Goal → ℕ → List Pending → Search
from_mark s start Enter goals c pending answers left = search s start goals c pending answers left
from_mark s start (Next at) goals c pending answers left =
    after_goals s start goals c pending at (Gives [] answers left Exhausted)

-- the whole stack
abbrev pub remaining : List Node → (s : List ℕ) (start : ℕ) → List Point → Search
remaining nodes s start [] answers left = Gives [] answers left Exhausted
remaining nodes s start (point ∷ rest) answers left =
    resume nodes s start rest
    (from_mark s start point.mark (goals_of nodes point.goals) point.cursor point.pending answers left)

-- below the top no point is still to be entered
abbrev pub IsMarked : Mark → Type 0
IsMarked Enter = ⊥
IsMarked (Next at) = Unit {0}

abbrev pub AllMarked : List Point → Type 0
AllMarked [] = Unit {0}
AllMarked (point ∷ rest) = IsMarked point.mark × AllMarked rest

-- the goal is of this table
abbrev pub IsKnown : List Node → Numbered → Type 0
IsKnown nodes (N.Match id) = id.0 < length nodes
IsKnown nodes (N.CloseCond target from) = Unit {0}
IsKnown nodes (N.CloseImm target from) = Unit {0}
IsKnown nodes (N.CloseCut left depth) = Unit {0}
IsKnown nodes (N.CloseRepeat id from) = (id.0 < length nodes) × (tree nodes id.0 ≡ Arbno (body_of (tree nodes id.0)))

abbrev pub AllKnown : List Node → List Numbered → Type 0
AllKnown nodes [] = Unit {0}
AllKnown nodes (goal ∷ rest) = IsKnown nodes goal × AllKnown nodes rest

-- the pattern has an alternative that is not the first and goes on from this cursor
abbrev pub HasNext : Pattern → List ℕ → ℕ → ℕ → Type 0
HasNext (Leaf a) s c at = Contains (ends a s c) at
HasNext (Alt p q) s c at = Unit {0}
HasNext (Arbno p) s c at = Unit {0}
HasNext Succeed s c at = Unit {0}
HasNext Fence s c at = Unit {0}
HasNext (Cut p) s c at = Unit {0}
HasNext pattern s c at = ⊥

-- a point stays only under an alternative that its first goal has
abbrev pub MarkFits : List Node → List ℕ → Mark → List Numbered → ℕ → Type 0
MarkFits nodes s Enter goals c = Unit {0}
MarkFits nodes s (Next at) (N.Match id ∷ rest) c = HasNext (tree nodes id.0) s c at
MarkFits nodes s (Next at) goals c = ⊥

-- the point is of this table and has its cursor in the subject
pub record Fits (nodes : List Node) (s : List ℕ) (point : Point) : Type 0 where
  pub known : AllKnown nodes point.goals
  pub inside : point.cursor ≤ length s
  pub next : MarkFits nodes s point.mark point.goals point.cursor

abbrev pub AllFit : List Node → List ℕ → List Point → Type 0
AllFit nodes s [] = Unit {0}
AllFit nodes s (point ∷ rest) = Fits nodes s point × AllFit nodes s rest

-- only the newest point may be still to be entered
pub record IsStack (nodes : List Node) (s : List ℕ) (points : List Point) : Type 0 where
  pub fit : AllFit nodes s points
  pub marked : AllMarked (below points)
