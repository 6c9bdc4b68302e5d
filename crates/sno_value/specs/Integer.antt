-- The integer that a text writes.
use Rattle.std.specs.Prelude.{ℕ, ◌+◌, ◌-◌, ◌*◌, ◌^◌, ℤ, pos, neg_ℤ, Bool, ◌&&◌, nat_lt, ◌==◌, List, [], ◌∷◌, length}
use Rattle.std.specs.Prelude.{Option, Some, None, if◌then◌else◌}
use Rattle.std.specs.Str.{all_ascii_digits}
use Rattle.sno_value.specs.Arithmetic.{fits}

-- one decimal digit or more, and nothing else
abbrev pub is_numeral : List ℕ → Bool
is_numeral text = nat_lt 0 (length text) && all_ascii_digits text

-- the number that decimal digits write: each counts by its place
abbrev pub number_of_digits : List ℕ → ℕ
number_of_digits [] = 0
number_of_digits (digit ∷ rest) = (digit - 48) * 10 ^ length rest + number_of_digits rest

-- z, if the digits are a numeral and z fits 64 bits
abbrev pub integer_from : List ℕ → ℤ → Option ℤ
integer_from digits z = if is_numeral digits && fits z then Some z else None

-- the number that a numeral writes, and that number after a minus
abbrev pub positive_of : List ℕ → Option ℤ
positive_of digits = integer_from digits (pos (number_of_digits digits))

abbrev pub negative_of : List ℕ → Option ℤ
negative_of digits = integer_from digits (neg_ℤ (pos (number_of_digits digits)))

-- the empty text is 0; else a numeral, after `-` (45), `+` (43) or no sign
unfoldable pub integer_of : List ℕ → Option ℤ
integer_of [] = Some (pos 0)
integer_of (byte ∷ rest) =
    if byte == 45 then negative_of rest else (if byte == 43 then positive_of rest else positive_of (byte ∷ rest))
