-- The numbers of names among symbols.
use Rattle.std.specs.Prelude.{ℕ, suc, nat_lt, Bool, List, [], ◌∷◌, length, if◌then◌else◌}
use Rattle.std.specs.Str.{bytes_eq}

-- the number of a name: how many symbols stand before it, all of them where it is none
abbrev pub place : List ℕ → List (List ℕ) → ℕ
place name [] = 0
place name (symbol ∷ symbols) = if bytes_eq name symbol then 0 else suc (place name symbols)

abbrev pub is_symbol : List ℕ → List (List ℕ) → Bool
is_symbol name symbols = nat_lt (place name symbols) (length symbols)
