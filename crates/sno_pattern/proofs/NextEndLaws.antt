-- The end that is tried after another.
use Rattle.std.proofs.Common.{◌≡◌, ℕ, zero, suc, ◌+◌, ◌-◌, ◌<◌, ◌≤◌, nat_lt, true, false, Some, None, List, [], ◌∷◌, length, get_or, slice_get, Contains, refl}
use Rattle.std.proofs.Common.{sym, ◌∙◌, ap, arith}
use Rattle.std.proofs.lemmas.Bool.{lt-ltb, le-ltb}
use Rattle.sno_pattern.specs.Pattern.{Pattern, Arb, Leaf}
use Rattle.sno_pattern.specs.Ends.{count_from, ends}
use Rattle.sno_pattern.specs.Shape.{end_of}
use Rattle.sno_pattern.specs.NextEnd.{ends_of, first_above, next_end}
use Rattle.sno_pattern.proofs.EndsRange.{Within, Rises, Rises-at, ends-rise}
use Rattle.sno_pattern.proofs.ShapeLaws.{slice_get-count_from, slice_get-count_from_none}

pub end_of-ends_of : (pattern : Pattern) (s : List ℕ) (c i : ℕ) → end_of pattern s c i ≡ slice_get (ends_of pattern s c) i
end_of-ends_of (Leaf a) s c i = refl
end_of-ends_of pattern s c i = refl

ends_of-rise : (pattern : Pattern) (s : List ℕ) (c : ℕ) → c ≤ length s → Rises c (length s) (ends_of pattern s c)
ends_of-rise (Leaf a) s c h = ends-rise a s c h
ends_of-rise pattern s c h = tt

-- the first of rising numbers is the first above any that is smaller
first_above-first : (last low z : ℕ) (es : List ℕ) → last < low → Rises low z es → first_above last es ≡ slice_get es 0
first_above-first last low z [] h r = refl
first_above-first last low z (e ∷ es) h r = let above : nat_lt last e ≡ true = lt-ltb last e (omega (arith, r.0.0)) in rw above refl

first_above-next : (low z : ℕ) (es : List ℕ) (k last : ℕ) → Rises low z es → slice_get es k ≡ Some last → first_above last es ≡ slice_get es (suc k)
first_above-next low z [] k last r at = cc
first_above-next low z (e ∷ es) zero last r at =
    let same : e ≡ last = cc in
    let not_above : nat_lt last e ≡ false = le-ltb last e (omega arith) in
    rw not_above (first_above-first last (e + 1) z es (omega arith) r.1)
first_above-next low z (e ∷ es) (suc k) last r at =
    let m = Rises-at (e + 1) z es k last at r.1 in
    let not_above : nat_lt last e ≡ false = le-ltb last e (omega (arith, m.0)) in
    rw not_above (first_above-next (e + 1) z es k last r.1 at)

-- the end with the next number is the next end
pub next_end-at : (pattern : Pattern) (s : List ℕ) (c i last : ℕ) → c ≤ length s → end_of pattern s c i ≡ Some last → next_end pattern s c last
    ≡ end_of pattern s c (i + 1)
next_end-at pattern s c i last h at =
    let more : i + 1 ≡ suc i = omega arith in
    rw (more, end_of-ends_of pattern s c (suc i))
    (first_above-next c (length s) (ends_of pattern s c) i last (ends_of-rise pattern s c h) (sym (end_of-ends_of pattern s c i) ∙ at))

get_or-slice_get : (es : List ℕ) (k last : ℕ) → k < length es → get_or es k last ≡ last → slice_get es k ≡ Some last
get_or-slice_get [] k last h e = absurd (omega arith)
get_or-slice_get (x ∷ es) zero last h e = ap Some e
get_or-slice_get (x ∷ es) (suc k) last h e = get_or-slice_get es k last (omega arith) e

slice_get-get_or : (es : List ℕ) (k last : ℕ) → slice_get es k ≡ Some last → (k < length es) × (get_or es k last ≡ last)
slice_get-get_or [] k last e = cc
slice_get-get_or (x ∷ es) zero last e = (omega arith, (let same : x ≡ last = cc in same))
slice_get-get_or (x ∷ es) (suc k) last e = let m = slice_get-get_or es k last e in (omega (arith, m.0), m.1)

-- an end with a number is one of the ends, and each of the ends has a number
pub Contains-end_of : (pattern : Pattern) (s : List ℕ) (c i last : ℕ) → end_of pattern s c i ≡ Some last → Contains (ends_of pattern s c) last
Contains-end_of pattern s c i last at = let m = slice_get-get_or (ends_of pattern s c) i last (sym (end_of-ends_of pattern s c i) ∙ at) in (i, m.0, m.1)

pub end_of-Contains : (pattern : Pattern) (s : List ℕ) (c last : ℕ) → Contains (ends_of pattern s c) last → (i : ℕ) × (end_of pattern s c i ≡ Some last)
end_of-Contains pattern s c last h = (h.0, end_of-ends_of pattern s c h.0 ∙ get_or-slice_get (ends_of pattern s c) h.0 last h.1 h.2)

-- each of the ends is within the subject
pub ends_of-within : (pattern : Pattern) (s : List ℕ) (c last : ℕ) → c ≤ length s → Contains (ends_of pattern s c) last → Within c (length s) last
ends_of-within pattern s c last h at =
    let m = Rises-at c (length s) (ends_of pattern s c) at.0 last (get_or-slice_get (ends_of pattern s c) at.0 last at.1 at.2) (ends_of-rise pattern s c h) in
    (omega (arith, m.0), m.1)

arb-number : (c n k last : ℕ) → slice_get (count_from c n) k ≡ Some last → (last ≡ c + k) × (k < n)
arb-number c zero k last at = cc
arb-number c (suc n) zero last at = let same : c ≡ last = cc in (omega arith, omega arith)
arb-number c (suc n) (suc k) last at = let m = arb-number (c + 1) n k last at in (omega (arith, m.0), omega (arith, m.1))

pub arb-next : (s : List ℕ) (c k last : ℕ) → c ≤ length s → slice_get (ends Arb s c) k ≡ Some last → last < length s
    → Some (last + 1) ≡ slice_get (ends Arb s c) (k + 1)
arb-next s c k last h at below =
    let m = arb-number c (length s + 1 - c) k last at in
    let n : last + 1 ≡ c + (k + 1) = omega (arith, m.0) in
    rw n (sym (slice_get-count_from c (length s + 1 - c) (k + 1) (omega (arith, m.0, below))))

pub arb-last : (s : List ℕ) (c k last : ℕ) → c ≤ length s → slice_get (ends Arb s c) k ≡ Some last → length s ≤ last → None ≡ slice_get (ends Arb s c) (k + 1)
arb-last s c k last h at above =
    let m = arb-number c (length s + 1 - c) k last at in
    sym (slice_get-count_from_none c (length s + 1 - c) (k + 1) (omega (arith, m.0, above)))
