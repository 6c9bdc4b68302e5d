-- Decimal texts, read and written.
use Rattle.std.proofs.Common.{◌≡◌, ℕ, zero, suc, ◌^◌, ◌<◌, ◌≤◌, ℤ, pos, negsuc, neg_ℤ, List, [], ◌∷◌, length, Bool, true, false, ◌&&◌, nat_lt, ◌==◌, cond, Some}
use Rattle.std.proofs.Common.{None, Result, Ok, Err, OkIff, refl, sym, ◌∙◌, ap, arith, rules, decimal, IsUtf8, IsAscii, w64}
use Rattle.std.proofs.Common.{◌+◌, ◌-◌, ◌/◌, ◌%◌, ◌++◌, drop, set, unsigned_abs, int_lt, append_assoc, length-append}
use Rattle.std.specs.Fmt.{signed_decimal}
use Rattle.std.specs.Prelude.{FitsSigned}
use Rattle.std.specs.Int.{IsInRange}
use Rattle.std.specs.Result.{result_ok}
use Rattle.std.specs.Str.{all_ascii_digits}
use Rattle.std.specs.Str.Parse.{ParsesSigned}
use Rattle.std.proofs.lemmas.Fmt.{IsAscii-from_digits, digits_decimal, digits_value-decimal, decimal_nonempty, length_signed_le, decimal_digit, decimal_step}
use Rattle.std.proofs.lemmas.List.{drop-set}
use Rattle.std.proofs.lemmas.Bool.Decides.{nat_tests}
use Rattle.std.proofs.lemmas.Str.{IsUtf8-from_ascii}
use Rattle.std.proofs.lemmas.Str.Parse.{IsNumeralModel, numerals_by_weight, parse_signed_minus, parse_signed_plus, parse_signed_plain, digit_at}
use Rattle.sno_value.specs.Arithmetic.{fits}
use Rattle.sno_value.specs.Integer.{is_numeral, number_of_digits, integer_from, positive_of, negative_of, integer_of}

own : IsNumeralModel (λ ds. all_ascii_digits ds ≡ true) number_of_digits
own = numerals_by_weight _ (search rules) number_of_digits (search rules)

-- the tests of a numeral and of the range, as facts
passes : (digits : Bool) (n m : ℕ) → (digits ≡ true) × (0 < n) × (m < 2 ^ 63) → ((nat_lt 0 n && digits) && fits (pos m)) ≡ true
passes digits n m h = grind (arith, nat_tests)

passed : (digits : Bool) (n m : ℕ) → ((nat_lt 0 n && digits) && fits (pos m)) ≡ true → (digits ≡ true) × (0 < n) × (m < 2 ^ 63)
passed digits n m h = (grind (arith, nat_tests), grind (arith, nat_tests), grind (arith, nat_tests))

passes_below : (digits : Bool) (n m : ℕ) → (digits ≡ true) × (0 < n) × (m ≤ 2 ^ 63) → ((nat_lt 0 n && digits) && fits (neg_ℤ (pos m))) ≡ true
passes_below digits n zero h = grind (arith, nat_tests)
passes_below digits n (suc m) h = grind (arith, nat_tests)

passed_below : (digits : Bool) (n m : ℕ) → ((nat_lt 0 n && digits) && fits (neg_ℤ (pos m))) ≡ true → (digits ≡ true) × (0 < n) × (m ≤ 2 ^ 63)
passed_below digits n zero h = (grind (arith, nat_tests), grind (arith, nat_tests), omega arith)
passed_below digits n (suc m) h = (grind (arith, nat_tests), grind (arith, nat_tests), grind (arith, nat_tests))

chosen : {E : Type 0} → (r : Result ℤ E) (t : Bool) (z : ℤ) (Q : Type 0) → OkIff r Q z → (Q → t ≡ true) → (t ≡ true → Q) → result_ok r ≡ cond t (Some z) None
chosen (Ok x) t z Q h to from = ap Some h.1 ∙ sym (ap (λ s. cond s (Some z) None) (to h.0))
chosen (Err e) true z Q h to from = absurd (h (from refl))
chosen (Err e) false z Q h to from = refl

-- what `parse` reads in a text that is not empty
pub parsed : {E : Type 0} → (bs : List ℕ) (r : Result ℤ E) → ParsesSigned w64 10 bs r → 0 < length bs → result_ok r ≡ integer_of bs
unfolding integer_of
parsed [] r h some = absurd (omega arith)
parsed {E = E} (byte ∷ rest) r h some = by_sign (byte == 45) refl (byte == 43) refl
  where
    by_sign : (minus : Bool) → (byte == 45) ≡ minus → (plus : Bool) → (byte == 43) ≡ plus
        → result_ok r ≡ cond minus (negative_of rest) (cond plus (positive_of rest) (positive_of (byte ∷ rest)))
    by_sign true m plus p =
        chosen r _ _ _ (parse_signed_minus own w64 (byte ∷ rest) r h (grind (arith, nat_tests)))
        (passes_below (all_ascii_digits rest) (length rest) (number_of_digits rest))
        (passed_below (all_ascii_digits rest) (length rest) (number_of_digits rest))
    by_sign false m true p =
        chosen r _ _ _ (parse_signed_plus own w64 (byte ∷ rest) r h (grind (arith, nat_tests)))
        (passes (all_ascii_digits rest) (length rest) (number_of_digits rest)) (passed (all_ascii_digits rest) (length rest) (number_of_digits rest))
    by_sign false m false p =
        chosen r _ _ _ (parse_signed_plain own w64 (byte ∷ rest) r h (grind (arith, nat_tests)) (grind (arith, nat_tests)))
        (passes (all_ascii_digits (byte ∷ rest)) (length (byte ∷ rest)) (number_of_digits (byte ∷ rest)))
        (passed (all_ascii_digits (byte ∷ rest)) (length (byte ∷ rest)) (number_of_digits (byte ∷ rest)))

-- digits, with or without a byte before them that is ASCII, are text
IsAscii-digits : (ds : List ℕ) → all_ascii_digits ds ≡ true → IsAscii ds
IsAscii-digits ds h = IsAscii-from_digits ds (own.to ds h)

IsAscii-cons : (b : ℕ) (bs : List ℕ) → b < 128 → IsAscii bs → IsAscii (b ∷ bs)
IsAscii-cons b bs h all zero = h
IsAscii-cons b bs h all (suc i) = all i

no_numeral : (digits : List ℕ) (z : ℤ) → (is_numeral digits ≡ true → ⊥) → None ≡ integer_from digits z
no_numeral digits z h = at (is_numeral digits) h
  where
    at : (t : Bool) → (t ≡ true → ⊥) → None ≡ cond (t && fits z) (Some z) None
    at true h = absurd (h refl)
    at false h = refl

and_right : (a b : Bool) → (a && b) ≡ true → b ≡ true
and_right true b h = h
and_right false b h = absurd (cc)

-- what is no text is no integer's text
pub no_text : (bs : List ℕ) → ¬ (IsUtf8 bs) → 0 < length bs → None ≡ integer_of bs
unfolding integer_of
no_text [] h some = absurd (omega arith)
no_text (byte ∷ rest) h some = by_sign (byte == 45) refl (byte == 43) refl
  where
    signed : (c : ℕ) → (byte == c) ≡ true → c < 128 → is_numeral rest ≡ true → ⊥
    signed c e small n =
        h (IsUtf8-from_ascii (byte ∷ rest)
        (IsAscii-cons byte rest (grind (arith, nat_tests)) (IsAscii-digits rest (and_right (nat_lt 0 (length rest)) (all_ascii_digits rest) n))))

    by_sign : (minus : Bool) → (byte == 45) ≡ minus → (plus : Bool) → (byte == 43) ≡ plus
        → None ≡ cond minus (negative_of rest) (cond plus (positive_of rest) (positive_of (byte ∷ rest)))
    by_sign true m plus p = no_numeral rest (neg_ℤ (pos (number_of_digits rest))) (signed 45 m (omega arith))
    by_sign false m true p = no_numeral rest (pos (number_of_digits rest)) (signed 43 p (omega arith))
    by_sign false m false p =
        no_numeral (byte ∷ rest) (pos (number_of_digits (byte ∷ rest)))
        (λ n. h (IsUtf8-from_ascii (byte ∷ rest)
        (IsAscii-digits (byte ∷ rest) (and_right (nat_lt 0 (length (byte ∷ rest))) (all_ascii_digits (byte ∷ rest)) n))))

-- digits alone have no sign before them
integer_of-digits : (ds : List ℕ) (n : ℕ) → all_ascii_digits ds ≡ true → 0 < length ds → number_of_digits ds ≡ n → n < 2 ^ 63 → integer_of ds ≡ Some (pos n)
unfolding integer_of
integer_of-digits [] n h some e small = absurd (omega arith)
integer_of-digits (d ∷ ds) n h some e small = by_sign (d == 45) refl (d == 43) refl
  where
    range : IsInRange 48 57 d
    range = digit_at (d ∷ ds) 0 (own.to (d ∷ ds) h) some

    by_sign : (minus : Bool) → (d == 45) ≡ minus → (plus : Bool) → (d == 43) ≡ plus
        → cond minus (negative_of ds) (cond plus (positive_of ds) (positive_of (d ∷ ds)))
        ≡ Some (pos n)
    by_sign true m plus p = absurd (grind (arith, nat_tests, range))
    by_sign false m true p = absurd (grind (arith, nat_tests, range))
    by_sign false m false p =
        ap (λ k. integer_from (d ∷ ds) (pos k)) e
        ∙ ap (λ t. cond t (Some (pos n)) None) (passes (all_ascii_digits (d ∷ ds)) (length (d ∷ ds)) n (h, some, small))

-- `to_int` of the decimal text of a number is the number
pub reads_back : (z : ℤ) → FitsSigned w64 z → integer_of (signed_decimal z) ≡ Some z
unfolding integer_of
reads_back (pos n) f = integer_of-digits (decimal n) n (digits_decimal own n small) (decimal_nonempty n small) (digits_value-decimal own n small) f.sfits
  where
    small : n < 2 ^ 64
    small = omega (arith, f.sfits)
reads_back (negsuc n) f =
    ap (λ k. integer_from (decimal (suc n)) (neg_ℤ (pos k))) (digits_value-decimal own (suc n) small)
    ∙ ap (λ t. cond t (Some (negsuc n)) None)
    (passes_below (all_ascii_digits (decimal (suc n))) (length (decimal (suc n))) (suc n)
    (digits_decimal own (suc n) small, decimal_nonempty (suc n) small, omega (arith, f.sfits)))
  where
    small : suc n < 2 ^ 64
    small = omega (arith, f.sfits)

-- a number of two digits or more has one more than its tenth
pub one_longer : (n : ℕ) → 10 ≤ n → n < 2 ^ 64 → length (decimal n) ≡ length (decimal (n / 10)) + 1
one_longer n tens fits = ap length (decimal_step n tens fits) ∙ length-append (decimal (n / 10)) ((48 + n % 10) ∷ [])

-- a last digit is written before those that were
pub step_written : (n at : ℕ) (bytes : List ℕ) → 10 ≤ n → n < 2 ^ 64 → 1 ≤ at → at ≤ length bytes
    → decimal (n / 10) ++ drop (at - 1) (set bytes (at - 1) (48 + n % 10)) ≡ decimal n ++ drop at bytes
step_written n at bytes tens fits some within =
    let e : at - 1 + 1 ≡ at = omega arith in
    rw (drop-set bytes (at - 1) (48 + n % 10) (omega arith), e, decimal_step n tens fits, append_assoc) refl

-- the first digit is written before all others
pub first_written : (n at : ℕ) (bytes : List ℕ) → n < 10 → 1 ≤ at → at ≤ length bytes
    → drop (at - 1) (set bytes (at - 1) (48 + n)) ≡ decimal n ++ drop at bytes
first_written n at bytes one some within =
    let e : at - 1 + 1 ≡ at = omega arith in
    rw (drop-set bytes (at - 1) (48 + n) (omega arith), e, decimal_digit n one) refl

-- a minus is written before the digits
pub minus_written : (at : ℕ) (bytes : List ℕ) → 1 ≤ at → at ≤ length bytes → drop (at - 1) (set bytes (at - 1) 45) ≡ 45 ∷ drop at bytes
minus_written at bytes some within =
    let e : at - 1 + 1 ≡ at = omega arith in
    rw (drop-set bytes (at - 1) 45 (omega arith), e) refl

-- a negative integer has a minus before the digits, and no other has one
pub minus_first : (z : ℤ) → int_lt z (pos 0) ≡ true → 45 ∷ decimal (unsigned_abs z) ≡ signed_decimal z
minus_first (pos n) below = absurd (grind (arith, nat_tests))
minus_first (negsuc n) below = refl

pub no_minus : (z : ℤ) → int_lt z (pos 0) ≡ false → decimal (unsigned_abs z) ≡ signed_decimal z
no_minus (pos n) below = refl
no_minus (negsuc n) below = absurd (grind (arith, nat_tests))

pub short_text : (z : ℤ) → FitsSigned w64 z → length (signed_decimal z) ≤ 20
short_text z f = length_signed_le 19 z (omega (arith, f.sfits)) f.sfits

pub ruleset writing = (reads_back, short_text)
