-- BAL's first end, found by hops over balanced parts.
use Rattle.std.proofs.Common.{◌≡◌, ◌≢◌, ℕ, zero, suc, ◌+◌, ◌-◌, ◌<◌, ◌≤◌, ◌==◌, Bool, true, false, if◌then◌else◌, Option, Some, None, List, [], ◌∷◌, length}
use Rattle.std.proofs.Common.{drop, get_or, slice_get, refl, sym, ◌∙◌, ap, arith}
use Rattle.std.proofs.lemmas.Bool.{ne_eqb}
use Rattle.std.proofs.lemmas.List.{drop_more}
use Rattle.sno_pattern.proofs.BalanceLaws.{filter-member, is_end, IsOpen, IsOpen-start, balanced-unmatched, balanced-found, balanced-open, balanced-none}
use Rattle.sno_pattern.specs.Pattern.{Bal}
use Rattle.sno_pattern.specs.Ends.{open_after, ends}

-- where the open brackets are closed for the first time, c being the place of the bytes
abbrev pub closing : Option ℕ → ℕ → List ℕ → Option ℕ
closing None c bytes = None
closing (Some zero) c bytes = Some c
closing (Some (suc depth)) c [] = None
closing (Some (suc depth)) c (byte ∷ bytes) = closing (open_after byte (suc depth)) (c + 1) bytes

-- where one more bracket is closed behind an end
abbrev pub hop : Option ℕ → List ℕ → Option ℕ
hop None s = None
hop (Some e) s = closing (Some 1) e (drop e s)

-- one bracket more is closed behind where the others are, and nowhere where they stay open
closing-hop : (bytes s : List ℕ) (c depth : ℕ) → drop c s ≡ bytes → closing (Some (suc depth)) c bytes ≡ hop (closing (Some depth) c bytes) s
closing-hop bytes s c zero h = ap (λ (t : List ℕ). closing (Some 1) c t) (sym h)
closing-hop [] s c (suc depth) h = refl
closing-hop (byte ∷ bytes) s c (suc depth) h =
    let n : c + 1 ≡ suc c = omega arith in
    let tail : drop (c + 1) s ≡ bytes = rw n (drop_tail c s h) in
    go (byte == 40) (byte == 41) (λ d. closing-hop bytes s (c + 1) d tail)
  where
    drop_tail : (c : ℕ) (s : List ℕ) → drop c s ≡ byte ∷ bytes → drop (suc c) s ≡ bytes
    drop_tail zero [] e = cc
    drop_tail zero (x ∷ xs) e = cc
    drop_tail (suc c) [] e = cc
    drop_tail (suc c) (x ∷ xs) e = drop_tail c xs e

    go : (a b : Bool) → ((d : ℕ) → closing (Some (suc d)) (c + 1) bytes ≡ hop (closing (Some d) (c + 1) bytes) s) →
        closing (if a then Some (suc (suc (suc depth))) else (if b then Some (suc depth) else Some (suc (suc depth)))) (c + 1) bytes
        ≡ hop (closing (if a then Some (suc (suc depth)) else (if b then Some depth else Some (suc depth))) (c + 1) bytes) s
    go true b ih = ih (suc (suc depth))
    go false true ih = ih depth
    go false false ih = ih (suc depth)

closing-step : (s : List ℕ) (c e depth : ℕ) → c ≤ e → e < length s → IsOpen s c e depth →
    ((m : ℕ) → IsOpen s c (e + 1) (suc m) → slice_get (ends Bal s c) 0 ≡ closing (Some (suc m)) (e + 1) (drop (e + 1) s)) →
    (o : Option ℕ) → o ≡ open_after (get_or s e 0) depth → slice_get (ends Bal s c) 0 ≡ closing o (e + 1) (drop (e + 1) s)
closing-step s c e depth h inside o rest None is = sym (balanced-unmatched s c e depth h inside o is)
closing-step s c e depth h inside o rest (Some zero) is = sym (balanced-found s c e depth h inside o is)
closing-step s c e depth h inside o rest (Some (suc m)) is = rest m (balanced-open s c e depth (suc m) h inside o is (omega arith))

closing-from : (n : ℕ) (s : List ℕ) (c e depth : ℕ) → n + e ≡ length s → c ≤ e → IsOpen s c e (suc depth) →
    slice_get (ends Bal s c) 0 ≡ closing (Some (suc depth)) e (drop e s)
closing-from zero s c e depth all h o =
    let none : drop e s ≡ [] = drop_all s e (omega arith) in
    rw none (sym (balanced-none s c e (suc depth) (omega arith) o))
  where
    drop_all : (s : List ℕ) (e : ℕ) → length s ≤ e → drop e s ≡ []
    drop_all [] zero h = refl
    drop_all [] (suc e) h = refl
    drop_all (x ∷ xs) zero h = absurd (omega arith)
    drop_all (x ∷ xs) (suc e) h = drop_all xs e (omega arith)
closing-from (suc n) s c e depth all h o =
    let inside : e < length s = omega arith in
    let more = drop_more s e 0 inside in
    rw more
    (closing-step s c e (suc depth) h inside o (λ m p. closing-from n s c (e + 1) m (omega arith) (omega arith) p) (open_after (get_or s e 0) (suc depth)) refl)

-- the first end, from the byte at the cursor on
pub first-closing : (s : List ℕ) (c : ℕ) → c < length s → slice_get (ends Bal s c) 0 ≡ closing (open_after (get_or s c 0) 0) (c + 1) (drop (c + 1) s)
first-closing s c inside =
    closing-step s c c 0 (omega arith) inside (IsOpen-start s c)
    (λ m p. closing-from (length s - (c + 1)) s c (c + 1) m (omega arith) (omega arith) p) (open_after (get_or s c 0) 0) refl

-- where a byte that closes none stands, the first end from it is hopped over
pub closing-piece : (s : List ℕ) (c : ℕ) → c < length s → get_or s c 0 ≢ 41 → closing (Some 1) c (drop c s) ≡ hop (slice_get (ends Bal s c) 0) s
closing-piece s c inside no_close =
    let other : (get_or s c 0 == 41) ≡ false = ne_eqb (get_or s c 0) 41 no_close in
    ap (λ (t : List ℕ). closing (Some 1) c t) (drop_more s c 0 inside) ∙ go (get_or s c 0 == 40) (get_or s c 0 == 41) other (first-closing s c inside)
  where
    go : (a b : Bool) → b ≡ false →
        slice_get (ends Bal s c) 0 ≡ closing (if a then Some 1 else (if b then None else Some 0)) (c + 1) (drop (c + 1) s) →
        closing (if a then Some 2 else (if b then Some 0 else Some 1)) (c + 1) (drop (c + 1) s) ≡ hop (slice_get (ends Bal s c) 0) s
    go true b passes first = closing-hop (drop (c + 1) s) s (c + 1) 1 refl ∙ ap (λ o. hop o s) (sym first)
    go false true passes first = cc
    go false false passes first = closing-hop (drop (c + 1) s) s (c + 1) 0 refl ∙ ap (λ o. hop o s) (sym first)

-- each end is behind its cursor and within the subject
pub record IsBehind (s : List ℕ) (c e : ℕ) : Type 0 where
  pub behind : c < e
  pub within : e ≤ length s

pub first-behind : (s : List ℕ) (c e : ℕ) → c ≤ length s → slice_get (ends Bal s c) 0 ≡ Some e → IsBehind s c e
first-behind s c e h at =
    let m = filter-member (is_end s c) (c + 1) (length s - c) 0 e at in
    record { behind = omega (arith, m.above); within = omega (arith, m.below) }
