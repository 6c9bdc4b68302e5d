-- What goals and cuts of a stack a move looks at. These words are private to the matcher.
use Rattle.std.specs.Prelude.{ℕ, ◌≡◌, ◌⊎◌, List, [], ◌∷◌}
use Rattle.sno_match.specs.Point.{Point, rest_of}
use Rattle.sno_match.specs.Scopes.{Scope, closes}

-- the newest point's first goal closes no cut
abbrev pub FirstIsPlain : List Point → Type 0
FirstIsPlain [] = Unit {0}
FirstIsPlain (point ∷ below) = closes (rest_of point.goals) ≡ closes point.goals

-- a cut was entered with this many steps left
abbrev pub HasLeft : List Scope → ℕ → Type 0
HasLeft [] k = ⊥
HasLeft (scope ∷ scopes) k = (scope.0 ≡ k) ⊎ HasLeft scopes k
