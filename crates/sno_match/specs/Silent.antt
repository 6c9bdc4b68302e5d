-- Steps that tell nothing, and what has to stand before them.
use Rattle.std.specs.Prelude.{ℕ, ◌≡◌, ◌≤◌, ◌+◌, ◌-◌, ◌*◌, List, length}
use Rattle.sno_pattern.specs.Table.{Node}
use Rattle.sno_pattern.specs.Looks.{Found, AreTrue}
use Rattle.sno_match.specs.Search.{Answer}
use Rattle.sno_match.specs.Point.{Point}
use Rattle.sno_match.specs.Remaining.{remaining, IsStack}
use Rattle.sno_match.specs.Scopes.{HasCuts}

-- steps from one stack to another that tell nothing, at most one more point for each
pub record LeadsOn (nodes : List Node) (s : List ℕ) (limit : ℕ) (old : List Point) (steps0 : ℕ) (new : List Point)
    (steps : ℕ) : Type 0 where
  pub steps_in : steps ≤ limit
  pub paid : steps0 ≤ steps
  pub grows : length new + steps0 ≤ length old + steps
  pub falls : 2 * (limit - steps) + length new + steps ≤ 2 * (limit - steps0) + length old + steps0
  pub stack : IsStack nodes s new
  pub cuts : HasCuts nodes (limit - steps) new
  pub leads : (start : ℕ) (answers : List Answer) → remaining nodes s start old answers (limit - steps0)
      ≡ remaining nodes s start new answers (limit - steps)

-- what a move keeps of a match: the stack and its cuts, the steps within their limit, what was found of the subject,
-- and that the subject's length has 32 bits
pub record Stands (nodes : List Node) (s : List ℕ) (found : Found) (limit steps : ℕ) (points : List Point)
    : Type 0 where
  pub stack : IsStack nodes s points
  pub cuts : HasCuts nodes (limit - steps) points
  pub steps_in : steps ≤ limit
  pub looks : AreTrue nodes s found
  pub small : length s ≤ 4294967295
