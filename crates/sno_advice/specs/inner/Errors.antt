-- The errors that a program may end with.
use Rattle.std.specs.Prelude.{ℕ, ◌==◌, ◌||◌, ◌&&◌, nat_le, Bool}

-- 1 to 15, and the limits of statements and of steps
abbrev pub is_error : ℕ → Bool
is_error number = (nat_le 1 number && nat_le number 15) || (number == 20) || (number == 21)
