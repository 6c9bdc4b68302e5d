-- Which bytes a search lets pass. Private contracts alone cite it.
use Rattle.std.specs.Prelude.{ℕ, Bool, true, false, not, List}
use Rattle.sno_pattern.specs.Ends.{is_in}

-- those among a set, or the others
abbrev pub passes : Bool → List ℕ → ℕ → Bool
passes true set = is_in set
passes false set = λ byte. not (is_in set byte)
