-- A stack that waits for an answer, and one that has a point. These words are private to the matcher.
use Rattle.std.specs.Prelude.{ℕ, List, [], ◌∷◌}
use Rattle.sno_pattern.specs.Table.{Node}
use Rattle.sno_match.specs.Search.{Exhausted}
use Rattle.sno_match.specs.Search.{Gives}
use Rattle.sno_match.specs.Search.{Search, with_answer, search}
use Rattle.sno_match.specs.Point.{Point, rest_of}
use Rattle.sno_match.specs.Remaining.{goals_of, resume}

-- the whole stack, whose top waits for the answer of its deferred part
abbrev pub waiting : List Node → (s : List ℕ) (start : ℕ) → List Point → Search
waiting nodes s start [] answers left = Gives [] answers left Exhausted
waiting nodes s start (point ∷ rest) answers left =
    resume nodes s start rest
    (with_answer (search s start) (goals_of nodes (rest_of point.goals)) point.cursor point.pending answers left)

abbrev pub HasPoint : List Point → Type 0
HasPoint [] = ⊥
HasPoint (point ∷ rest) = Unit {0}
