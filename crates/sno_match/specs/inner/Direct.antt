-- Searches that are followed with nothing gone back to. These words are private to the matcher.
use Rattle.std.specs.Prelude.{ℕ, ◌≡◌, ◌≤◌, ◌<◌, ◌-◌, ◌+◌, ◌*◌, false, List, [], ◌∷◌, length, take}
use Rattle.sno_value.specs.declared.ids.PatId.{PatId}
use Rattle.sno_pattern.specs.Pattern.{Pattern}
use Rattle.sno_pattern.specs.Table.{Node, tree}
use Rattle.sno_match.specs.declared.direct.DirectWay.{DirectWay}
use Rattle.sno_match.specs.declared.direct.Followed.{Followed}
use Rattle.sno_match.specs.declared.direct.Followed.TheVariants.{Alone, First, Open, Vain}
use Rattle.sno_match.specs.Direct.{pending_of}
use Rattle.sno_match.specs.Search.{Event, Exhausted, Gives, Goal, Match, SearchResult, further, search, whole}
use Rattle.sno_match.specs.inner.Starts.{FailsAt, GoalsFail, searches_behind}

-- a search tells this event first
abbrev pub TellsFirst : SearchResult → Event × ℕ → Type 0
TellsFirst (Gives [] answers left verdict) told = ⊥
TellsFirst (Gives (first ∷ events) answers left verdict) told = first ≡ told

-- What is found out of a search for some goals, of which so many steps are due, from one way on: it is that for others from
-- the other way on; what that tells first it tells first; or it is in vain.
abbrev pub Comes : List ℕ → List Goal → ℕ → DirectWay → Followed → List Goal → DirectWay → Type 0
Comes s from due old (Alone left) to new = (new.end ≤ length s)
    × ((start : ℕ) → search s start from old.end (pending_of old) [] due ≡ search s start to new.end (pending_of new) [] left)
Comes s from due old (First left) to new = (new.end ≤ length s)
    × ((start : ℕ) (told : Event × ℕ) → TellsFirst (search s start to new.end (pending_of new) [] left) told
    → TellsFirst (search s start from old.end (pending_of old) [] due) told)
Comes s from due old (Vain left) to new =
    (start : ℕ) → search s start from old.end (pending_of old) [] due ≡ Gives [] [] left Exhausted
Comes s from due old Open to new = Unit {0}

-- the pattern that is known to stand behind another is one of the table, and the next goal
abbrev pub IsNumber : List Node → PatId → Type 0
IsNumber nodes behind = (behind.0 ≡ 4294967295 → ⊥) → behind.0 < length nodes

abbrev pub StandsBefore : List Node → PatId → List Goal → Type 0
StandsBefore nodes behind rest =
    (behind.0 ≡ 4294967295 → ⊥) → (more : List Goal) × (rest ≡ Match (tree nodes behind.0) ∷ more)

-- what is found out of a pattern's search, whatever comes behind the pattern that is known to
abbrev pub Follows : List Node → List ℕ → Pattern → ℕ → DirectWay → Followed → DirectWay → Type 0
Follows nodes s p due old f new =
    (rest : List Goal) → StandsBefore nodes old.behind rest → Comes s (Match p ∷ rest) due old f rest new

-- the same behind a pattern that has other ways
abbrev pub opened : Followed → Followed
opened (Alone left) = First left
opened (First left) = First left
opened (Vain left) = Open
opened Open = Open

-- where the pattern with a number is searched in vain, these goals are, in so many steps more
abbrev pub FailsBehind : List Node → List ℕ → PatId → ℕ → List Goal → Type 0
FailsBehind nodes s behind closes goals = (behind.0 ≡ 4294967295 → ⊥) → (price at : ℕ)
    → FailsAt (tree nodes behind.0) s price at → GoalsFail s goals (price + closes) at

-- from each cursor up to another these goals are searched in vain, which takes so many steps with those to the next
abbrev pub PassesEnds : List ℕ → List Goal → ℕ → ℕ → ℕ → Type 0
PassesEnds s goals from to steps = (cost : ℕ) × (from ≤ to) × (steps ≡ (to - from) * (cost + 1))
    × ((at : ℕ) → from ≤ at → at < to → GoalsFail s goals cost at)

-- the assignments of the one way are still those with which the other begins
abbrev pub Keeps : DirectWay → DirectWay → Type 0
Keeps old new = (old.count ≤ new.count) × (take old.count new.pending ≡ pending_of old)

-- a match that isn't anchored comes to be behind this start with nothing told, and so many steps are left
abbrev pub IsBehind : Pattern → List ℕ → ℕ → ℕ → ℕ → Type 0
IsBehind p s limit start left =
    whole p s false [] limit ≡ further (Gives [] [] left Exhausted) (searches_behind false p s start)
