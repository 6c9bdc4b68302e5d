-- The first byte of a statement.
use Rattle.std.proofs.Common.{◌≡◌, ℕ, zero, suc, ◌+◌, ◌-◌, ◌<◌, ◌≤◌, ◌==◌, false, List, [], ◌∷◌, length, take, drop, get_or, arith, refl, ap, ◌∙◌, drop-cons}
use Rattle.std.proofs.Common.{add-one}
use Rattle.std.specs.List.{prefix_len, count_by}
use Rattle.std.proofs.lemmas.List.Sums.{count_by_more_no, count_by_more_yes, count_by-le-length}
use Rattle.sno_text.specs.Lines.{part}

dropped : (i : ℕ) (s : List ℕ) → i < length s → drop i s ≡ get_or s i 0 ∷ drop (i + 1) s
dropped i s h = rw (add-one, drop-cons s i 0) refl

taken : (n : ℕ) (x : ℕ) (xs : List ℕ) → 0 < n → take n (x ∷ xs) ≡ x ∷ take (n - 1) xs
taken zero x xs h = absurd (omega arith)
taken (suc n) x xs h = let e : suc n - 1 ≡ n = omega arith in rw e refl

rest_of : (s : List ℕ) (i j : ℕ) → i < j → j ≤ length s → part s (record { start = i; end = j }) ≡ get_or s i 0 ∷ part s (record { start = i + 1; end = j })
rest_of s i j h w =
    let e : j - i - 1 ≡ j - (i + 1) = omega arith in
    ap (take (j - i)) (dropped i s (omega arith)) ∙ taken (j - i) (get_or s i 0) (drop (i + 1) s) (omega arith)
    ∙ ap (λ n. get_or s i 0 ∷ take n (drop (i + 1) s)) e

pub feeds_on : (s : List ℕ) (i j n : ℕ) → i < j → j ≤ length s → get_or s i 0 ≡ 10
    → n ≡ i + prefix_len (λ b. b == 10) (part s (record { start = i; end = j })) →
    n ≡ i + 1 + prefix_len (λ b. b == 10) (part s (record { start = i + 1; end = j }))
feeds_on s i j n h w e f =
    let g : prefix_len (λ b. b == 10) (part s (record { start = i; end = j })) ≡ 1 + prefix_len (λ b. b == 10) (part s (record { start = i + 1; end = j })) =
    ap (prefix_len (λ b. b == 10)) (rest_of s i j h w) ∙ rw e refl in
    omega arith

pub feeds_end : (s : List ℕ) (i j n : ℕ) → j ≤ i → n ≡ i + prefix_len (λ b. b == 10) (part s (record { start = i; end = j })) → i ≡ n
feeds_end s i j n h f =
    let e : j - i ≡ 0 = omega arith in
    let g : prefix_len (λ b. b == 10) (take (j - i) (drop i s)) ≡ 0 = rw e refl in omega arith

pub feeds_over : (s : List ℕ) (i j n : ℕ) → i < j → j ≤ length s → (get_or s i 0 == 10) ≡ false
    → n ≡ i + prefix_len (λ b. b == 10) (part s (record { start = i; end = j })) → i ≡ n
feeds_over s i j n h w e f =
    let g : prefix_len (λ b. b == 10) (part s (record { start = i; end = j })) ≡ 0 =
    ap (prefix_len (λ b. b == 10)) (rest_of s i j h w) ∙ rw e refl in omega arith

length_took : (i : ℕ) (s : List ℕ) → length (take i s) ≤ i
length_took zero s = omega arith
length_took (suc i) [] = omega arith
length_took (suc i) (x ∷ s) = let h = length_took i s in omega arith

pub lines_below : (s : List ℕ) (i : ℕ) → i ≤ length s → count_by (λ b. b == 10) (take i s) ≤ i
lines_below s i h = let c = count_by-le-length (λ b. b == 10) (take i s) in let d = length_took i s in omega arith

pub ruleset place_facts = (feeds_on, feeds_end, feeds_over)

pub ruleset line_facts = (count_by_more_no, count_by_more_yes, lines_below)
