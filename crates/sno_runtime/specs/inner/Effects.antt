-- Words of private clauses: the events of a listing that goes on.
use Rattle.std.specs.Prelude.{ℕ, List, [], ◌∷◌}
use Rattle.sno_match.specs.Search.{Event}
use Rattle.sno_runtime.specs.Action.{Action, gives, and_then}
use Rattle.sno_runtime.specs.Effects.{listed}

-- the events in their order
abbrev pub listed_all : List ℕ → List (Event × ℕ) → Action Unit
listed_all subject [] = gives tt
listed_all subject (told ∷ events) = and_then (listed subject told.0) (λ done. listed_all subject events)
