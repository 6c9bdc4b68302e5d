-- The power to a large exponent, by one that is small.
use Rattle.std.proofs.Common.{◌≡◌, ℕ, zero, suc, ◌+◌, ◌%◌, ◌^◌, ◌<◌, ◌≤◌, ◌⊎◌, pos, neg_ℤ, ◌*ℤ◌, negsuc, ℤ, refl, sym, ◌∙◌, ap, ap₂, cond, not, ◌*◌, ◌==◌, Err}
use Rattle.std.proofs.Common.{arith, le_trans, inl, inr, Bool, true, false}
use Rattle.std.proofs.Math.Nat.{pow-zero, pow-suc, pow-succ', pow-le-pow_left, pow-le-pow_right, mul-one, mul-zero}
use Rattle.std.proofs.lemmas.Grind.{common_steps}
use Rattle.std.proofs.lemmas.Bool.Decides.{nat_tests}
use Rattle.std.specs.Int.{int_pow}
use Rattle.sno_value.specs.declared.arithmetic.Arith.TheVariants.{Overflow}
use Rattle.sno_value.specs.Arithmetic.{fitted, power}

one_power : (n : ℕ) → 1 ^ n ≡ 1
one_power zero = refl
one_power (suc n) = pow-suc 1 n ∙ mul-one (1 ^ n) ∙ one_power n

zero_power : (n : ℕ) → 0 < n → 0 ^ n ≡ 0
zero_power zero h = absurd (omega arith)
zero_power (suc n) h = pow-suc 0 n ∙ mul-zero (0 ^ n)

-- a power of 2 or more to 64 or more
large : (a n : ℕ) → 2 ≤ a → 64 ≤ n → 2 ^ 64 ≤ a ^ n
large a n two h = le_trans (pow-le-pow_right {n = 2} (omega arith) h) (pow-le-pow_left two n)

-- past 64 the size of a power is the same, or too large in both
same_or_large : (a m n : ℕ) → 64 ≤ m → 64 ≤ n → (a ^ m ≡ a ^ n) ⊎ ((2 ^ 64 ≤ a ^ m) × (2 ^ 64 ≤ a ^ n))
same_or_large zero m n h k = inl (zero_power m (omega arith) ∙ sym (zero_power n (omega arith)))
same_or_large (suc zero) m n h k = inl (one_power m ∙ sym (one_power n))
same_or_large (suc (suc a)) m n h k = inr (large (suc (suc a)) m (omega arith) h, large (suc (suc a)) n (omega arith) k)

-- a number of 2 ^ 64 or more in size does not fit, with either sign
too_large : (b : Bool) (m : ℕ) → 2 ^ 64 ≤ m → fitted (cond b (pos m) (neg_ℤ (pos m))) ≡ Err Overflow
unfolding fitted
too_large true m h = grind (arith, common_steps)
too_large false zero h = absurd (omega arith)
too_large false (suc m) h = grind (arith, common_steps)

same_answer : (b : Bool) (p q : ℕ) → (p ≡ q) ⊎ ((2 ^ 64 ≤ p) × (2 ^ 64 ≤ q)) → fitted (cond b (pos p) (neg_ℤ (pos p))) ≡ fitted (cond b (pos q) (neg_ℤ (pos q)))
same_answer b p q (inl e) = ap (λ k. fitted (cond b (pos k) (neg_ℤ (pos k)))) e
same_answer b p q (inr (h, k)) = too_large b p h ∙ sym (too_large b q k)

power_by_parity : (x : ℤ) (m n : ℕ) → 64 ≤ m → 64 ≤ n → m % 2 ≡ n % 2 → fitted (int_pow x m) ≡ fitted (int_pow x n)
power_by_parity (pos a) m n h k e = same_answer true (a ^ m) (a ^ n) (same_or_large a m n h k)
power_by_parity (negsuc a) m n h k e =
    same_answer (m % 2 == 0) (suc a ^ m) (suc a ^ n) (same_or_large (suc a) m n h k)
    ∙ ap (λ r. fitted (cond (r == 0) (pos (suc a ^ n)) (neg_ℤ (pos (suc a ^ n))))) e

next_parity : (n : ℕ) → (suc n % 2 == 0) ≡ not (n % 2 == 0)
next_parity n = grind (arith, nat_tests)

sign_turns : (a : ℕ) (even : Bool) (p : ℕ)
    → negsuc a *ℤ cond even (pos p) (neg_ℤ (pos p)) ≡ cond (not even) (pos (suc a * p)) (neg_ℤ (pos (suc a * p)))
sign_turns a true p = refl
sign_turns a false zero = ap (λ k. neg_ℤ (pos k)) (mul-zero (suc a)) ∙ sym (ap pos (mul-zero (suc a)))
sign_turns a false (suc p) = refl

-- std's power, by sign and parity, is the product
pub int_pow_is : (x : ℤ) (n : ℕ) → int_pow x n ≡ power x n
unfolding power
int_pow_is (pos a) zero = ap pos (pow-zero a)
int_pow_is (pos a) (suc n) = ap pos (pow-succ' a n) ∙ ap (λ z. pos a *ℤ z) (int_pow_is (pos a) n)
int_pow_is (negsuc a) zero = ap pos (pow-zero (suc a))
int_pow_is (negsuc a) (suc n) =
    ap₂ (λ even q. cond even (pos q) (neg_ℤ (pos q))) (next_parity n) (pow-succ' (suc a) n)
    ∙ sym (sign_turns a (n % 2 == 0) (suc a ^ n)) ∙ ap (λ z. negsuc a *ℤ z) (int_pow_is (negsuc a) n)

pub power_of_large : (n : ℕ) → 64 ≤ n → (x : ℤ) → fitted (int_pow x (64 + n % 2)) ≡ fitted (power x n)
power_of_large n h x = power_by_parity x (64 + n % 2) n (omega arith) h (omega arith) ∙ ap fitted (int_pow_is x n)

pub ruleset large_exponents = (power_of_large, int_pow_is)
