-- Names as numbers.
use Rattle.std.specs.Prelude.{◌≡◌, ℕ, zero, suc, ◌+◌, ◌-◌, ◌≤◌, ◌/◌, ◌%◌, ◌==◌, nat_lt, Bool, true, false, if◌then◌else◌}
use Rattle.std.specs.Prelude.{List, [], ◌∷◌, length}

-- the byte that a digit stands for: A to Z from 2 on, a to z from 28 on, 0 to 9 from 54 on, the dot, the underscore
abbrev pub letter : ℕ → ℕ
letter digit =
    if nat_lt digit 28 then digit + 63 else if nat_lt digit 54 then digit + 69
    else if nat_lt digit 64 then digit - 6 else if digit == 64 then 46 else 95

-- the bytes that so many digits of a key stand for in base 66, the lowest first, up to one that is below 2: the first is
-- none of them where that is said
abbrev pub letters : Bool → ℕ → ℕ → List ℕ
letters true count key = []
letters false zero key = []
letters false (suc count) key = letter (key % 66) ∷ letters (nat_lt (key / 66 % 66) 2) count (key / 66)

-- the name that has a key
abbrev pub name_of : ℕ → List ℕ
name_of key = letters (nat_lt (key % 66) 2) 10 key

-- a name's key tells it, but for 0, which tells none
abbrev pub IsKeyOf : List ℕ → ℕ → Type 0
IsKeyOf name key = 1 ≤ key → (name ≡ name_of key) × (1 ≤ length name)
