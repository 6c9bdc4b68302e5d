-- What is told first of a match, where that is a way or that there is none.
use Rattle.std.specs.Prelude.{◌≡◌, ℕ, Bool, List, [], ◌∷◌, take}
use Rattle.sno_pattern.specs.Pattern.{Pattern}
use Rattle.sno_match.specs.declared.direct.DirectWay.{DirectWay}
use Rattle.sno_match.specs.declared.event.Pending.{Pending}
use Rattle.sno_match.specs.Search.{Ended, Event, Exhausted, Way, trace}

-- the assignments that wait for the end of a way
abbrev pub pending_of : DirectWay → List Pending
pending_of way = take way.count way.pending

-- before any answer a match tells this way first, with these assignments
abbrev pub IsFirst : Pattern → List ℕ → Bool → ℕ → ℕ → ℕ → List Pending → Type 0
IsFirst p s anchored limit start end pending =
    (steps : ℕ) × (rest : List (Event × ℕ)) × (trace p s anchored limit [] ≡ (Way start end pending, steps) ∷ rest)

-- before any answer a match tells nothing but that it is exhausted
abbrev pub IsInVain : Pattern → List ℕ → Bool → ℕ → Type 0
IsInVain p s anchored limit = (steps : ℕ) × (trace p s anchored limit [] ≡ (Ended Exhausted, steps) ∷ [])
