-- Where the first byte that passes stands, part by part.
use Rattle.std.proofs.Common.{◌≡◌, ◌≢◌, ℕ, suc, ◌+◌, ◌*◌, ◌-◌, ◌<◌, ◌≤◌, Bool, true, false, not, cond, ltb, Some, None, Option, List, [], ◌∷◌, ◌++◌, length}
use Rattle.std.proofs.Common.{take, drop, map, position, option_map, refl, sym, ◌∙◌, ap, arith}
use Rattle.std.specs.List.{position_from, position_or_len}
use Rattle.std.specs.Simd.Lanes.{mask_l}
use Rattle.std.proofs.lemmas.Bool.{lt-ltb, le-ltb}
use Rattle.std.proofs.lemmas.Iterator.Adapters.{position_from-zero}
use Rattle.std.proofs.lemmas.List.{drop-drop, length-drop, length-take, take-append-drop, take_rest}
use Rattle.std.proofs.lemmas.List.Sums.{prefix_len-le-length}
use Rattle.std.proofs.lemmas.Simd.{leading_from_mask_l, trailing_mask_l}
use lib.Count.{count_trailing_zeros}

from_shifted : (p : ℕ → Bool) (c i : ℕ) (xs : List ℕ) → position_from p (c + i) xs ≡ option_map (λ n. c + n) (position_from p i xs)
from_shifted p c i [] = refl
from_shifted p c i (x ∷ xs) = go (p x) (let e : c + (i + 1) ≡ c + i + 1 = omega arith in rw e at (from_shifted p c (i + 1) xs))
  where
    go : (b : Bool) → position_from p (c + i + 1) xs ≡ option_map (λ n. c + n) (position_from p (i + 1) xs) →
        cond b (Some (c + i)) (position_from p (c + i + 1) xs) ≡ option_map (λ n. c + n) (cond b (Some i) (position_from p (i + 1) xs))
    go true h = refl
    go false h = h

from_found : (p : ℕ → Bool) (i : ℕ) (xs ys : List ℕ) (n : ℕ) → position_from p i xs ≡ Some n → position_from p i (xs ++ ys) ≡ Some n
from_found p i [] ys n e = absurd (cc)
from_found p i (x ∷ xs) ys n e = go (p x) e (from_found p (i + 1) xs ys n)
  where
    go : (b : Bool) → cond b (Some i) (position_from p (i + 1) xs) ≡ Some n
        → (position_from p (i + 1) xs ≡ Some n → position_from p (i + 1) (xs ++ ys) ≡ Some n) →
        cond b (Some i) (position_from p (i + 1) (xs ++ ys)) ≡ Some n
    go true e rest = e
    go false e rest = rest e

from_passed : (p : ℕ → Bool) (i : ℕ) (xs ys : List ℕ) → position_from p i xs ≡ None → position_from p i (xs ++ ys) ≡ position_from p (i + length xs) ys
from_passed p i [] ys e = let same : i + 0 ≡ i = omega arith in rw same refl
from_passed p i (x ∷ xs) ys e =
    let same : i + 1 + length xs ≡ i + suc (length xs) = omega arith in
    go (p x) e (λ none. rw same at (from_passed p (i + 1) xs ys none))
  where
    go : (b : Bool) → cond b (Some i) (position_from p (i + 1) xs) ≡ None
        → (position_from p (i + 1) xs ≡ None → position_from p (i + 1) (xs ++ ys) ≡ position_from p (i + suc (length xs)) ys) →
        cond b (Some i) (position_from p (i + 1) (xs ++ ys)) ≡ position_from p (i + suc (length xs)) ys
    go true e rest = absurd (cc)
    go false e rest = rest e

-- what is found in the first part
pub found_before : (p : ℕ → Bool) (xs ys : List ℕ) (n : ℕ) → position p xs ≡ Some n → position p (xs ++ ys) ≡ Some n
found_before p xs ys n e =
    position_from-zero p (xs ++ ys) ∙ from_found p 0 xs ys n (sym (position_from-zero p xs) ∙ e)

-- where the first part has nothing, the second is looked through
pub passed_before : (p : ℕ → Bool) (xs ys : List ℕ) → position p xs ≡ None → position p (xs ++ ys) ≡ option_map (λ n. length xs + n) (position p ys)
passed_before p xs ys e =
    let zero_left : 0 + length xs ≡ length xs = omega arith in
    let zero_right : length xs + 0 ≡ length xs = omega arith in
    position_from-zero p (xs ++ ys) ∙ (rw zero_left at (from_passed p 0 xs ys (sym (position_from-zero p xs) ∙ e)))
    ∙ (rw zero_right at (from_shifted p (length xs) 0 ys)) ∙ ap (option_map (λ n. length xs + n)) (sym (position_from-zero p ys))

-- what is found of a part that begins at a place
pub found_at : (p : ℕ → Bool) (bytes : List ℕ) (at k n : ℕ) → position p bytes ≡ option_map (λ m. at + m) (position p (drop at bytes))
    → Some n ≡ position p (take k (drop at bytes)) →
    Some (at + n) ≡ position p bytes
found_at p bytes at k n searched e =
    let found : position p (drop at bytes) ≡ Some n =
    ap (position p) (sym (take-append-drop k (drop at bytes))) ∙ found_before p (take k (drop at bytes)) (drop k (drop at bytes)) n (sym e) in
    sym (searched ∙ ap (option_map (λ m. at + m)) found)

option_map-add : (a b : ℕ) (o : Option ℕ) → option_map (λ n. a + n) (option_map (λ n. b + n) o) ≡ option_map (λ n. a + b + n) o
option_map-add a b None = refl
option_map-add a b (Some n) = let same : a + (b + n) ≡ a + b + n = omega arith in ap Some same

-- a part that has nothing is passed
pub passed_at : (p : ℕ → Bool) (bytes : List ℕ) (at k : ℕ) → at + k ≤ length bytes → position p bytes ≡ option_map (λ m. at + m) (position p (drop at bytes)) →
    None ≡ position p (take k (drop at bytes)) → position p bytes ≡ option_map (λ m. at + k + m) (position p (drop (at + k) bytes))
passed_at p bytes at k inside searched e =
    let ys = drop at bytes in
    let long : length (take k ys) ≡ k = omega (arith, length-take k ys, length-drop at bytes) in
    let passed : position p ys ≡ option_map (λ m. k + m) (position p (drop k ys)) =
    ap (position p) (sym (take-append-drop k ys)) ∙ (rw long at (passed_before p (take k ys) (drop k ys) (sym e))) in
    searched ∙ ap (option_map (λ m. at + m)) passed ∙ option_map-add at k (position p (drop k ys))
    ∙ ap (λ xs. option_map (λ m. at + k + m) (position p xs)) (drop-drop k at bytes)

pub searched_none : (p : ℕ → Bool) (bytes : List ℕ) → position p bytes ≡ option_map (λ m. 0 + m) (position p (drop 0 bytes))
searched_none p bytes = go (position p bytes)
  where
    go : (o : Option ℕ) → o ≡ option_map (λ m. 0 + m) o
    go None = refl
    go (Some n) = let zero_left : 0 + n ≡ n = omega arith in ap Some (sym zero_left)

-- the rest, as the code borrows it
pub searched_all : (p : ℕ → Bool) (bytes : List ℕ) (at : ℕ) (o : Option ℕ) → position p bytes ≡ option_map (λ m. at + m) (position p (drop at bytes)) →
    o ≡ position p (take (length bytes - at) (drop at bytes)) → option_map (λ m. at + m) o ≡ position p bytes
searched_all p bytes at o searched e = sym (searched ∙ ap (option_map (λ m. at + m)) (sym (rw (take_rest bytes at) at e)))

-- ---- masks of lanes
none_fails : (b : Bool) (n l m : ℕ) → n ≤ l → cond (not b) (1 + n) 0 ≡ 1 + l → (n ≡ l → m ≡ 0) → cond b 1 0 + 2 * m ≡ 0
none_fails true n l m le e behind = let no : ⊥ = omega arith in absurd no
none_fails false n l m le e behind = let z = behind (omega arith) in omega arith

none_set : (p : ℕ → Bool) (xs : List ℕ) → position_or_len p xs ≡ length xs → mask_l (map p xs) ≡ 0
none_set p [] e = refl
none_set p (x ∷ xs) e = none_fails (p x) _ (length xs) _ (prefix_len-le-length (λ y. not (p y)) xs) (omega arith) (none_set p xs)

-- no bit is set: no lane passes
pub no_lane : (p : ℕ → Bool) (xs : List ℕ) (mask : ℕ) → mask ≡ 0 → mask ≡ mask_l (map p xs) → None ≡ position p xs
no_lane p xs mask none e =
    let all : position_or_len p xs ≡ length xs = leading_from_mask_l p xs (sym e ∙ none) in
    let past : ltb (position_or_len p xs) (length xs) ≡ false = le-ltb (position_or_len p xs) (length xs) (omega arith) in
    rw past refl

-- else the lowest bit is the first lane that passes
pub first_lane : (p : ℕ → Bool) (xs : List ℕ) (mask : ℕ) → length xs ≤ 64 → mask ≢ 0 → mask ≡ mask_l (map p xs)
    → Some (count_trailing_zeros 64 mask) ≡ position p xs
first_lane p xs mask few some e =
    let lowest : count_trailing_zeros 64 mask ≡ position_or_len p xs = ap (count_trailing_zeros 64) e ∙ trailing_mask_l p 64 xs few (omega arith) in
    let apart : position_or_len p xs ≢ length xs = λ all. some (e ∙ none_set p xs all) in
    let inside : position_or_len p xs < length xs = omega (arith, prefix_len-le-length (λ x. not (p x)) xs, apart) in
    let within : ltb (position_or_len p xs) (length xs) ≡ true = lt-ltb (position_or_len p xs) (length xs) inside in
    rw (within, lowest) refl

-- the bytes near, and those behind them
pub found_near : (p : ℕ → Bool) (bytes : List ℕ) (k n : ℕ) → Some n ≡ position p (take k bytes) → Some n ≡ position p bytes
found_near p bytes k n e = sym (ap (position p) (sym (take-append-drop k bytes)) ∙ found_before p (take k bytes) (drop k bytes) n (sym e))

pub passed_near : (p : ℕ → Bool) (bytes : List ℕ) (k : ℕ) (o : Option ℕ) → k ≤ length bytes → None ≡ position p (take k bytes)
    → o ≡ position p (take (length bytes - k) (drop k bytes)) →
    option_map (λ m. k + m) o ≡ position p bytes
passed_near p bytes k o inside none e =
    let long : length (take k bytes) ≡ k = omega (arith, length-take k bytes) in
    ap (option_map (λ m. k + m)) (rw (take_rest bytes k) at e)
    ∙ sym (ap (position p) (sym (take-append-drop k bytes)) ∙ (rw long at (passed_before p (take k bytes) (drop k bytes) (sym none))))
