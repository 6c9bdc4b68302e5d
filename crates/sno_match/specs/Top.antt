-- What is read at the newest point.
use Rattle.std.specs.Prelude.{ℕ, ◌≡◌, List, [], ◌∷◌}
use Rattle.sno_match.specs.declared.goal.Goal.{Goal}
use Rattle.sno_match.specs.declared.event.Pending.{Pending}
use Rattle.sno_match.specs.declared.goal.Mark.TheVariants.{Enter}
use Rattle.sno_match.specs.declared.goal.Top.{Top}
use Rattle.sno_match.specs.declared.goal.Top.TheVariants as T
use Rattle.sno_match.specs.Point.{Point}

abbrev pub IsTop : List Point → Top → Type 0
IsTop points T.Empty = points ≡ []
IsTop points (T.Complete cursor mark) =
    (pending : List Pending) × (rest : List Point)
    × (points ≡ record { goals = []; cursor = cursor; pending = pending; mark = mark } ∷ rest)
IsTop points (T.Open goal cursor mark) =
    (goals : List Goal) × (pending : List Pending) × (rest : List Point)
    × (points ≡ record { goals = goal ∷ goals; cursor = cursor; pending = pending; mark = mark } ∷ rest)

abbrev pub Finishes : List Point → List Point → List Pending → Type 0
Finishes [] new way = new ≡ []
Finishes (point ∷ rest) new way = (new ≡ rest) × (way ≡ point.pending)

abbrev pub first_point : Goal → ℕ → Point
first_point goal cursor = record { goals = goal ∷ []; cursor = cursor; pending = []; mark = Enter }
