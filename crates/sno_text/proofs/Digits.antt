-- Decimal numbers.
use Rattle.std.proofs.Common.{◌≡◌, ℕ, ◌+◌, ◌-◌, ◌*◌, ◌<◌, ◌≤◌, true, List, [], ◌∷◌, length, drop, get_or, arith, refl, drop-cons, add-one}
use Rattle.std.proofs.lemmas.Bool.Decides.{nat_tests}
use Rattle.sno_text.specs.Bytes.{is_digit}
use Rattle.sno_text.specs.Grammar.{decimal}

pub digit_at_least : (b : ℕ) → is_digit b ≡ true → 48 ≤ b
unfolding is_digit
digit_at_least b h = grind (arith, nat_tests)

pub decimal_grows : (n : ℕ) (ds : List ℕ) → n ≤ decimal n ds
decimal_grows n [] = omega arith
decimal_grows n (d ∷ ds) = let h = decimal_grows (10 * n + (d - 48)) ds in omega arith

-- one more digit
pub decimal_step : (n i : ℕ) (ds : List ℕ) → i < length ds → decimal n (drop i ds) ≡ decimal (10 * n + (get_or ds i 0 - 48)) (drop (i + 1) ds)
decimal_step n i ds h = rw (add-one, drop-cons ds i 0) refl

pub decimal_over : (n i m : ℕ) (ds : List ℕ) → i < length ds → decimal n (drop i ds) ≡ decimal 0 ds → m ≤ 10 * n + (get_or ds i 0 - 48) → m ≤ decimal 0 ds
decimal_over n i m ds h e g = let f = decimal_grows (10 * n + (get_or ds i 0 - 48)) (drop (i + 1) ds) in omega (arith, decimal_step n i ds h)
