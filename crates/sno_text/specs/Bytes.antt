-- The bytes of a program text by class, runs of them, and the tokens that are runs.
use Rattle.std.specs.Prelude.{◌≡◌, ℕ, ◌≤◌, ◌<◌, List, Bool, true, false, ◌||◌, ◌&&◌, ◌==◌, nat_le}
use Rattle.std.specs.Prelude.{slice_index}
use Rattle.sno_text.specs.declared.bytes.Class.{Class}
use Rattle.sno_text.specs.declared.bytes.Class.TheVariants.{Blank, NameByte, Digit, Letter, UnarySign, Opening, Start}
use Rattle.sno_text.specs.declared.bytes.Class.TheVariants.{Closing}

-- the byte at a place, 0 behind the end
abbrev pub byte : List ℕ → ℕ → ℕ
byte s k = slice_index s k

unfoldable pub is_letter : ℕ → Bool
is_letter b = (nat_le 65 b && nat_le b 90) || (nat_le 97 b && nat_le b 122)

unfoldable pub is_digit : ℕ → Bool
is_digit b = nat_le 48 b && nat_le b 57

-- A space or a tab. An LF stands between a line and its continuation, and is one there.
unfoldable pub is_blank : ℕ → Bool
is_blank b = (b == 32) || (b == 9) || (b == 10)

-- a letter, a digit, '.' or '_'
unfoldable pub is_name_byte : ℕ → Bool
is_name_byte b = is_letter b || is_digit b || (b == 46) || (b == 95)

-- one of + - $ . * @ ? ~
unfoldable pub is_unary : ℕ → Bool
is_unary b = (b == 43) || (b == 45) || (b == 36) || (b == 46) || (b == 42) || (b == 64) || (b == 63) || (b == 126)

-- what a primary may begin with: a letter, a digit, ' " & (
unfoldable pub is_first : ℕ → Bool
is_first b = is_letter b || is_digit b || (b == 39) || (b == 34) || (b == 38) || (b == 40)

-- what an element may begin with
unfoldable pub can_start : ℕ → Bool
can_start b = is_unary b || is_first b

-- one of ( < [
unfoldable pub is_opening : ℕ → Bool
is_opening b = (b == 40) || (b == 60) || (b == 91)

-- one of ) > ]
unfoldable pub is_closing : ℕ → Bool
is_closing b = (b == 41) || (b == 62) || (b == 93)

abbrev pub in_class : Class → ℕ → Bool
in_class Blank = is_blank
in_class NameByte = is_name_byte
in_class Digit = is_digit
in_class Letter = is_letter
in_class UnarySign = is_unary
in_class Opening = is_opening
in_class Start = can_start
in_class Closing = is_closing

-- each byte from i up to j is of the class
pub record IsRun (c : Class) (s : List ℕ) (i j : ℕ) : Type 0 where
  pub order : i ≤ j
  pub each : (k : ℕ) → i ≤ k → k < j → in_class c (byte s k) ≡ true

-- and the byte at j isn't: the run is taken as long as it goes
pub record IsWholeRun (c : Class) (s : List ℕ) (i j : ℕ) : Type 0 where
  pub run : IsRun c s i j
  pub stop : in_class c (byte s j) ≡ false
