-- Runs of bytes of a set.
use Rattle.std.proofs.Common.{◌≡◌, ℕ, suc, ◌+◌, Bool, true, false, not, cond, if◌then◌else◌, Some, None, ◌≢◌, ◌==◌, List, [], ◌∷◌, length, take, drop, ◌-◌}
use Rattle.std.proofs.Common.{position, slice_get, option_map, refl, ◌∙◌, ap, arith}
use Rattle.std.specs.Prelude.{unwrap_or}
use Rattle.std.specs.List.{position_from}
use Rattle.std.proofs.lemmas.Bool.{ne_eqb}
use Rattle.std.proofs.lemmas.List.{take_rest}
use Rattle.std.proofs.lemmas.Iterator.Adapters.{position_from-zero}
use Rattle.sno_pattern.specs.Ends.{is_in, end_if, run_length, first_in}

run_from : (set : List ℕ) (i : ℕ) (bytes : List ℕ) → unwrap_or (position_from (λ byte. not (is_in set byte)) i bytes) (i + length bytes)
    ≡ i + run_length set bytes
run_from set i [] = refl
run_from set i (byte ∷ bytes) = go (is_in set byte) (run_from set (i + 1) bytes)
  where
    go : (b : Bool) → unwrap_or (position_from (λ byte. not (is_in set byte)) (i + 1) bytes) (i + 1 + length bytes) ≡ i + 1 + run_length set bytes →
        unwrap_or (cond (not b) (Some i) (position_from (λ byte. not (is_in set byte)) (i + 1) bytes)) (i + suc (length bytes))
        ≡ i + (if b then suc (run_length set bytes) else 0)
    go true h =
        let left : i + suc (length bytes) ≡ i + 1 + length bytes = omega arith in
        let right : i + suc (run_length set bytes) ≡ i + 1 + run_length set bytes = omega arith in
        rw (left, right) h
    go false h = omega arith

-- the first place whose byte is not in the set, or the length, is the length of the run
pub run_length-position : (set bytes : List ℕ) → unwrap_or (position (λ byte. not (is_in set byte)) bytes) (length bytes) ≡ run_length set bytes
run_length-position set bytes =
    let zero_left : 0 + length bytes ≡ length bytes = omega arith in
    let zero_right : 0 + run_length set bytes ≡ run_length set bytes = omega arith in
    let from_zero = run_from set 0 bytes in
    rw (position_from-zero (λ byte. not (is_in set byte)) bytes) (rw (zero_left, zero_right) at from_zero)

first_from : (set : List ℕ) (c i : ℕ) (bytes : List ℕ) → option_map (λ n. c + n) (position_from (is_in set) i bytes) ≡ slice_get (first_in set (c + i) bytes) 0
first_from set c i [] = refl
first_from set c i (byte ∷ bytes) = go (is_in set byte) (let e : c + (i + 1) ≡ c + i + 1 = omega arith in rw e at (first_from set c (i + 1) bytes))
  where
    go : (b : Bool) → option_map (λ n. c + n) (position_from (is_in set) (i + 1) bytes) ≡ slice_get (first_in set (c + i + 1) bytes) 0 →
        option_map (λ n. c + n) (cond b (Some i) (position_from (is_in set) (i + 1) bytes))
        ≡ slice_get (if b then (c + i) ∷ [] else first_in set (c + i + 1) bytes) 0
    go true h = refl
    go false h = h

-- the first place whose byte is in the set, counted from c
pub first_in-position : (set : List ℕ) (c : ℕ) (bytes : List ℕ) → option_map (λ n. c + n) (position (is_in set) bytes) ≡ slice_get (first_in set c bytes) 0
first_in-position set c bytes =
    let zero_in : c + 0 ≡ c = omega arith in
    rw (position_from-zero (is_in set) bytes) (rw zero_in at (first_from set c 0 bytes))

-- the bytes from c on, as the code borrows them
abbrev pub rest_of : List ℕ → ℕ → List ℕ
rest_of s c = take (length s - c) (drop c s)

pub break-some : (set s : List ℕ) (c n : ℕ) → Some n ≡ position (is_in set) (rest_of s c) → Some (c + n) ≡ slice_get (first_in set c (drop c s)) 0
break-some set s c n e = rw (take_rest s c) at (ap (option_map (λ n. c + n)) e ∙ first_in-position set c (rest_of s c))

pub break-none : (set s : List ℕ) (c : ℕ) → None ≡ position (is_in set) (rest_of s c) → None ≡ slice_get (first_in set c (drop c s)) 0
break-none set s c e = rw (take_rest s c) at (ap (option_map (λ n. c + n)) e ∙ first_in-position set c (rest_of s c))

pub span-some : (set s : List ℕ) (c run : ℕ) → run ≡ unwrap_or (position (λ byte. not (is_in set byte)) (rest_of s c)) (length (rest_of s c)) → run ≢ 0 →
    Some (c + run) ≡ slice_get (end_if (not (run_length set (drop c s) == 0)) (c + run_length set (drop c s))) 0
span-some set s c run e h =
    let is : run ≡ run_length set (drop c s) = rw (take_rest s c) at (e ∙ run_length-position set (rest_of s c)) in
    let some : (run == 0) ≡ false = ne_eqb run 0 h in
    rw (← is, some) refl
