-- What each operation on integers answers: the mathematical result in ℤ, where it fits 64 bits.
use Rattle.std.specs.Prelude.{ℕ, zero, suc, ℤ, pos, negsuc, ◌+ℤ◌, ◌-ℤ◌, ◌*ℤ◌, neg_ℤ, int_div, int_rem, int_le, int_lt}
use Rattle.std.specs.Prelude.{◌^◌, Bool, ◌&&◌, List, codes, Result, Ok, Err, if◌then◌else◌}
use Rattle.std.specs.Ordering.{int_eq}
use Rattle.sno_value.specs.declared.arithmetic.Arith.{Arith}
use Rattle.sno_value.specs.declared.arithmetic.Arith.TheVariants.{Overflow, DivisionByZero, BadExponent}

-- z lies from -2^63 to 2^63 - 1
abbrev pub fits : ℤ → Bool
fits z = int_le (neg_ℤ (pos (2 ^ 63))) z && int_lt z (pos (2 ^ 63))

-- z where it fits, and else an overflow
unfoldable pub fitted : ℤ → Result ℤ Arith
fitted z = if fits z then Ok z else Err Overflow

abbrev pub sum_of : ℤ → ℤ → Result ℤ Arith
sum_of x y = fitted (x +ℤ y)

abbrev pub difference_of : ℤ → ℤ → Result ℤ Arith
difference_of x y = fitted (x -ℤ y)

abbrev pub product_of : ℤ → ℤ → Result ℤ Arith
product_of x y = fitted (x *ℤ y)

-- truncated toward zero
abbrev pub quotient_of : ℤ → ℤ → Result ℤ Arith
quotient_of x y = if int_eq y (pos 0) then Err DivisionByZero else fitted (int_div x y)

-- with the sign of x; it is never further from zero than x
abbrev pub remainder_of : ℤ → ℤ → Result ℤ Arith
remainder_of x y = if int_eq y (pos 0) then Err DivisionByZero else Ok (int_rem x y)

-- x multiplied by itself n times; the empty product is 1, that of 0 too
unfoldable pub power : ℤ → ℕ → ℤ
power x zero = pos 1
power x (suc n) = x *ℤ power x n

abbrev pub power_of : ℤ → ℤ → Result ℤ Arith
power_of x (pos n) = fitted (power x n)
power_of x (negsuc n) = Err BadExponent

-- the error's text
abbrev pub message_of : Arith → List ℕ
message_of Overflow = codes "overflow"
message_of DivisionByZero = codes "division by zero"
message_of BadExponent = codes "negative exponent"
