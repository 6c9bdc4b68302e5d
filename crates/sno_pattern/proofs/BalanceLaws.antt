-- The ends of BAL.
use Rattle.std.proofs.Common.{◌≡◌, ◌≢◌, ℕ, zero, suc, ◌+◌, ◌-◌, ◌<◌, ◌≤◌, ◌==◌, Bool, true, false, cond, if◌then◌else◌, Option, Some, None, List, [], ◌∷◌, ◌++◌}
use Rattle.std.proofs.Common.{length, take, drop, get_or, filter, slice_get, refl, sym, ◌∙◌, ap, arith}
use Rattle.std.proofs.lemmas.Bool.{eqb-true, ne_eqb}
use Rattle.std.proofs.lemmas.List.{take_more, get_or-drop, drop-drop, length-drop}
use Rattle.std.proofs.Math.Seq.{take-add}
use Rattle.sno_pattern.proofs.EndsRange.{ends-rise, Rises-at}
use Rattle.sno_pattern.specs.Pattern.{Bal}
use Rattle.sno_pattern.specs.Ends.{count_from, open_after, open_behind, none_open, is_balanced, ends}

open_behind-append : (o : Option ℕ) (xs ys : List ℕ) → open_behind o (xs ++ ys) ≡ open_behind (open_behind o xs) ys
open_behind-append None xs ys = refl
open_behind-append (Some n) [] ys = refl
open_behind-append (Some n) (x ∷ xs) ys = open_behind-append (open_after x n) xs ys

open_behind-none : (o : Option ℕ) → open_behind o [] ≡ o
open_behind-none None = refl
open_behind-none (Some n) = refl

-- how many brackets are open at e, counted from c
abbrev pub depth_at : List ℕ → ℕ → ℕ → Option ℕ
depth_at s c e = open_behind (Some 0) (take (e - c) (drop c s))

-- whether the part from c to e is balanced
abbrev pub is_end : List ℕ → ℕ → ℕ → Bool
is_end s c e = is_balanced (take (e - c) (drop c s))

-- the ends of BAL from c that are behind e
abbrev pub ends_behind : List ℕ → ℕ → ℕ → List ℕ
ends_behind s c e = filter (is_end s c) (count_from (e + 1) (length s - e))

depth_at-start : (s : List ℕ) (c : ℕ) → depth_at s c c ≡ Some 0
depth_at-start s c = let none : c - c ≡ 0 = omega arith in rw none refl

depth_at-more : (s : List ℕ) (c e depth : ℕ) → c ≤ e → e < length s → depth_at s c e ≡ Some depth → depth_at s c (e + 1) ≡ open_after (get_or s e 0) depth
depth_at-more s c e depth h inside d =
    let n : e + 1 - c ≡ e - c + 1 = omega arith in
    let here : c + (e - c) ≡ e = omega arith in
    let byte : get_or (drop c s) (e - c) 0 ≡ get_or s e 0 = rw here at (get_or-drop c s (e - c) 0) in
    let more = take_more (drop c s) (e - c) 0 (omega (arith, length-drop c s)) in
    rw (n, more, byte)
    (open_behind-append (Some 0) (take (e - c) (drop c s)) (get_or s e 0 ∷ []) ∙ ap (λ o. open_behind o (get_or s e 0 ∷ [])) d ∙
    open_behind-none (open_after (get_or s e 0) depth))

-- the part from c to f is the part from c to e, then that from e to f
depth_at-add : (s : List ℕ) (c e f : ℕ) → c ≤ e → e ≤ f → depth_at s c f ≡ open_behind (depth_at s c e) (take (f - e) (drop e s))
depth_at-add s c e f h k =
    let n : f - c ≡ e - c + (f - e) = omega arith in
    let here : c + (e - c) ≡ e = omega arith in
    let rest : drop (e - c) (drop c s) ≡ drop e s = rw here at (drop-drop (e - c) c s) in
    rw (n, take-add (e - c) (f - e) (drop c s), rest)
    (open_behind-append (Some 0) (take (e - c) (drop c s)) (take (f - e) (drop e s)))

depth_at-none : (s : List ℕ) (c e f : ℕ) → c ≤ e → e ≤ f → depth_at s c e ≡ None → depth_at s c f ≡ None
depth_at-none s c e f h k d = depth_at-add s c e f h k ∙ ap (λ o. open_behind o (take (f - e) (drop e s))) d

-- no end behind a place where a bracket is closed that is not open
filter-none : (p : ℕ → Bool) (c n : ℕ) → ((b : ℕ) → c ≤ b → p b ≡ false) → filter p (count_from c n) ≡ []
filter-none p c zero h = refl
filter-none p c (suc n) h = rw (h c (omega arith)) (filter-none p (c + 1) n (λ b above. h b (omega arith)))

ends_behind-unmatched : (s : List ℕ) (c e : ℕ) → c ≤ e → e < length s → depth_at s c (e + 1) ≡ None → ends_behind s c e ≡ []
ends_behind-unmatched s c e h inside d =
    filter-none (is_end s c) (e + 1) (length s - e) (λ b above. ap none_open (depth_at-none s c (e + 1) b (omega arith) above d))

ends_behind-found : (s : List ℕ) (c e : ℕ) → e < length s → depth_at s c (e + 1) ≡ Some 0 → ends_behind s c e ≡ (e + 1) ∷ ends_behind s c (e + 1)
ends_behind-found s c e inside d =
    let n : length s - e ≡ suc (length s - (e + 1)) = omega arith in
    rw n (rw (ap none_open d) refl)

ends_behind-passed : (s : List ℕ) (c e depth : ℕ) → e < length s → depth_at s c (e + 1) ≡ Some depth → depth ≢ 0 → ends_behind s c e ≡ ends_behind s c (e + 1)
ends_behind-passed s c e depth inside d some =
    let n : length s - e ≡ suc (length s - (e + 1)) = omega arith in
    let no_end : (depth == 0) ≡ false = ne_eqb depth 0 some in
    rw n (rw (ap none_open d ∙ no_end) refl)

ends_behind-last : (s : List ℕ) (c e : ℕ) → length s ≤ e → ends_behind s c e ≡ []
ends_behind-last s c e h = let none : length s - e ≡ 0 = omega arith in rw none refl

-- behind the bytes from c to e, of which no beginning is an end, depth brackets are open
pub record IsOpen (s : List ℕ) (c e depth : ℕ) : Type 0 where
  pub small : depth ≤ e
  pub here : depth_at s c e ≡ Some depth
  pub none_yet : ends Bal s c ≡ ends_behind s c e

pub IsOpen-start : (s : List ℕ) (c : ℕ) → IsOpen s c c 0
IsOpen-start s c = record { small = omega arith; here = depth_at-start s c; none_yet = refl }

open_after-small : (byte depth n : ℕ) → Some n ≡ open_after byte depth → n ≤ depth + 1
open_after-small byte zero n h = go (byte == 40) (byte == 41) h
  where
    go : (a b : Bool) → Some n ≡ (if a then Some 1 else (if b then None else Some 0)) → n ≤ 0 + 1
    go true b e = let is : n ≡ 1 = cc in omega arith
    go false true e = cc
    go false false e = let is : n ≡ 0 = cc in omega arith
open_after-small byte (suc depth) n h = go (byte == 40) (byte == 41) h
  where
    go : (a b : Bool) → Some n ≡ (if a then Some (suc (suc depth)) else (if b then Some depth else Some (suc depth))) → n ≤ suc depth + 1
    go true b e = let is : n ≡ suc (suc depth) = cc in omega arith
    go false true e = let is : n ≡ depth = cc in omega arith
    go false false e = let is : n ≡ suc depth = cc in omega arith

pub balanced-unmatched : (s : List ℕ) (c e depth : ℕ) → c ≤ e → e < length s → IsOpen s c e depth → None ≡ open_after (get_or s e 0) depth
    → None ≡ slice_get (ends Bal s c) 0
balanced-unmatched s c e depth h inside o at =
    let none = ends_behind-unmatched s c e h inside (depth_at-more s c e depth h inside o.here ∙ sym at) in
    sym (ap (λ (es : List ℕ). slice_get es 0) (o.none_yet ∙ none))

pub balanced-found : (s : List ℕ) (c e depth : ℕ) → c ≤ e → e < length s → IsOpen s c e depth → Some 0 ≡ open_after (get_or s e 0) depth
    → Some (e + 1) ≡ slice_get (ends Bal s c) 0
balanced-found s c e depth h inside o at =
    let found = ends_behind-found s c e inside (depth_at-more s c e depth h inside o.here ∙ sym at) in
    sym (ap (λ (es : List ℕ). slice_get es 0) (o.none_yet ∙ found))

pub balanced-open : (s : List ℕ) (c e depth deeper : ℕ) → c ≤ e → e < length s → IsOpen s c e depth → Some deeper ≡ open_after (get_or s e 0) depth → deeper ≢ 0
    → IsOpen s c (e + 1) deeper
balanced-open s c e depth deeper h inside o at some =
    let next = depth_at-more s c e depth h inside o.here ∙ sym at in
    record {
      small = omega (arith, open_after-small (get_or s e 0) depth deeper at, o.small);
      here = next;
      none_yet = o.none_yet ∙ ends_behind-passed s c e deeper inside next some;
    }

pub balanced-none : (s : List ℕ) (c e depth : ℕ) → length s ≤ e → IsOpen s c e depth → None ≡ slice_get (ends Bal s c) 0
balanced-none s c e depth h o = sym (ap (λ (es : List ℕ). slice_get es 0) (o.none_yet ∙ ends_behind-last s c e h))

-- a member of a filtered count, and what stands behind it
pub record IsMember (p : ℕ → Bool) (c n k e : ℕ) : Type 0 where
  pub above : c ≤ e
  pub below : e < c + n
  passes : p e ≡ true
  next : slice_get (filter p (count_from c n)) (suc k) ≡ slice_get (filter p (count_from (e + 1) (c + n - (e + 1)))) 0

pub filter-member : (p : ℕ → Bool) (c n k e : ℕ) → slice_get (filter p (count_from c n)) k ≡ Some e → IsMember p c n k e
filter-member p c zero k e h = absurd (cc)
filter-member p c (suc n) k e h = go (p c) refl k h (λ k. filter-member p (c + 1) n k e)
  where
    rest : List ℕ
    rest = filter p (count_from (c + 1) n)

    count : c + suc n - (e + 1) ≡ c + 1 + n - (e + 1)
    count = omega arith

    lift : (k j : ℕ) → IsMember p (c + 1) n k e → slice_get (filter p (count_from c (suc n))) (suc j) ≡ slice_get rest (suc k) → IsMember p c (suc n) j e
    lift k j m same = record {
      above = omega (arith, m.above);
      below = omega (arith, m.below);
      passes = m.passes;
      next = rw count (same ∙ m.next);
    }

    at_head : p c ≡ true → c ≡ e → IsMember p c (suc n) 0 e
    at_head is here = record {
      above = omega arith;
      below = omega arith;
      passes = rw (← here) is;
      next =
          let left : slice_get (filter p (count_from c (suc n))) 1 ≡ slice_get rest 0 = ap (λ t. slice_get (cond t (c ∷ rest) rest) 1) is in
          let few : c + suc n - (e + 1) ≡ n = omega arith in
          rw few (left ∙ ap (λ x. slice_get (filter p (count_from (x + 1) n)) 0) here);
    }

    go : (t : Bool) → p c ≡ t → (k : ℕ) → slice_get (cond t (c ∷ rest) rest) k ≡ Some e →
        ((k : ℕ) → slice_get rest k ≡ Some e → IsMember p (c + 1) n k e) → IsMember p c (suc n) k e
    go true is zero at ih = let here : c ≡ e = cc in at_head is here
    go true is (suc k) at ih = lift k (suc k) (ih k at) (ap (λ t. slice_get (cond t (c ∷ rest) rest) (suc (suc k))) is)
    go false is k at ih = lift k k (ih k at) (ap (λ t. slice_get (cond t (c ∷ rest) rest) (suc k)) is)

filter-agree : (p q : ℕ → Bool) (c n : ℕ) → ((b : ℕ) → c ≤ b → p b ≡ q b) → filter p (count_from c n) ≡ filter q (count_from c n)
filter-agree p q c zero h = refl
filter-agree p q c (suc n) h =
    let rest = filter-agree p q (c + 1) n (λ b above. h b (omega arith)) in
    let here : p c ≡ q c = h c (omega arith) in
    cc

none_open-Some : (o : Option ℕ) → none_open o ≡ true → o ≡ Some 0
none_open-Some None h = cc
none_open-Some (Some n) h = ap Some (eqb-true n 0 h)

-- behind an end the count of open brackets begins anew
is_end-shift : (s : List ℕ) (c e f : ℕ) → c ≤ e → e ≤ f → is_end s c e ≡ true → is_end s c f ≡ is_end s e f
is_end-shift s c e f h k t =
    let closed : depth_at s c e ≡ Some 0 = none_open-Some (depth_at s c e) t in
    ap none_open (depth_at-add s c e f h k ∙ ap (λ o. open_behind o (take (f - e) (drop e s))) closed)

-- the end of BAL behind an end is the first from there
pub balanced_next : (s : List ℕ) (c k e : ℕ) → c ≤ length s → slice_get (ends Bal s c) k ≡ Some e → slice_get (ends Bal s c) (suc k)
    ≡ slice_get (ends Bal s e) 0
balanced_next s c k e h at =
    let m = filter-member (is_end s c) (c + 1) (length s - c) k e at in
    let n : c + 1 + (length s - c) - (e + 1) ≡ length s - e = omega arith in
    (rw n at m.next) ∙ ap (λ (es : List ℕ). slice_get es 0)
    (filter-agree (is_end s c) (is_end s e) (e + 1) (length s - e) (λ f above. is_end-shift s c e f (omega (arith, m.above)) (omega arith) m.passes))

-- nothing is behind the last member
slice_get-none : (es : List ℕ) (k i : ℕ) → k ≤ i → slice_get es k ≡ None → slice_get es i ≡ None
slice_get-none [] k i h e = refl
slice_get-none (x ∷ es) zero i h e = cc
slice_get-none (x ∷ es) (suc k) zero h e = absurd (omega arith)
slice_get-none (x ∷ es) (suc k) (suc i) h e = slice_get-none es k i (omega arith) e

-- e is the end of BAL with the number k
pub record IsNth (s : List ℕ) (c k e : ℕ) : Type 0 where
  pub within : e ≤ length s
  pub member : slice_get (ends Bal s c) k ≡ Some e

IsNth-from : (s : List ℕ) (c k e : ℕ) → c ≤ length s → slice_get (ends Bal s c) k ≡ Some e → IsNth s c k e
IsNth-from s c k e h at = record { within = (Rises-at c (length s) (ends Bal s c) k e at (ends-rise Bal s c h)).1; member = at }

pub IsNth-first : (s : List ℕ) (c e : ℕ) (r : Option ℕ) → c ≤ length s → r ≡ slice_get (ends Bal s c) 0 → r ≡ Some e → IsNth s c 0 e
IsNth-first s c e r h first is = IsNth-from s c 0 e h (sym first ∙ is)

pub IsNth-next : (s : List ℕ) (c k e f : ℕ) (r : Option ℕ) → c ≤ length s → IsNth s c k e → r ≡ slice_get (ends Bal s e) 0 → r ≡ Some f → IsNth s c (k + 1) f
IsNth-next s c k e f r h nth first is =
    let more : k + 1 ≡ suc k = omega arith in
    IsNth-from s c (k + 1) f h (rw more (balanced_next s c k e h nth.member ∙ sym first ∙ is))

pub none-first : (s : List ℕ) (c i : ℕ) (r q : Option ℕ) → r ≡ slice_get (ends Bal s c) 0 → r ≡ None → q ≡ None → q ≡ slice_get (ends Bal s c) i
none-first s c i r q first is none = none ∙ sym (slice_get-none (ends Bal s c) 0 i (omega arith) (sym first ∙ is))

pub none-next : (s : List ℕ) (c k e i : ℕ) (r q : Option ℕ) → c ≤ length s → IsNth s c k e → k < i → r ≡ slice_get (ends Bal s e) 0 → r ≡ None → q ≡ None
    → q ≡ slice_get (ends Bal s c) i
none-next s c k e i r q h nth before first is none =
    none ∙ sym (slice_get-none (ends Bal s c) (suc k) i (omega arith) (balanced_next s c k e h nth.member ∙ sym first ∙ is))
