-- The ends of a primitive rise, from the cursor up to the end of the subject.
use Rattle.std.proofs.Common.{◌≡◌, ℕ, zero, suc, ◌+◌, ◌-◌, ◌<◌, ◌≤◌, ◌==◌, nat_eq, nat_le, ◌&&◌, not, Bool, true, false, if◌then◌else◌, cond, Option, Some}
use Rattle.std.proofs.Common.{None, List, [], ◌∷◌, length, drop, take, filter, slice_get, refl, ap, arith, length-drop}
use Rattle.std.specs.List.{starts_with}
use Rattle.std.specs.Cmp.Lexicographic.{pointwise}
use Rattle.std.proofs.lemmas.Bool.{leb-true}
use Rattle.std.proofs.lemmas.Option.{slice_get_within}
use Rattle.sno_value.specs.declared.kind.PrimitiveKind.TheVariants.{Len, Pos, Rpos, Tab, Rtab, Any, NotAny, Span, Break, BreakX}
use Rattle.sno_pattern.specs.Pattern.{Primitive, Text, Arb, Bal, Rem, Fail, Counted, Among}
use Rattle.sno_pattern.specs.Ends.{is_in, count_from, end_if, end_after, run_length, first_in, all_in, is_balanced, ends}

abbrev pub Within : ℕ → ℕ → ℕ → Type 0
Within c z e = (c ≤ e) × (e ≤ z)

-- numbers from low up to high, each greater than the one before it
abbrev pub Rises : ℕ → ℕ → List ℕ → Type 0
Rises low high [] = Unit {0}
Rises low high (e ∷ es) = Within low high e × Rises (e + 1) high es

end_if-rises : (c z : ℕ) (b : Bool) (e : ℕ) → (b ≡ true → Within c z e) → Rises c z (end_if b e)
end_if-rises c z true e h = (h refl, tt)
end_if-rises c z false e h = tt

end_after-rises : (p : ℕ → Bool) (c z : ℕ) (byte : Option ℕ) → ((x : ℕ) → byte ≡ Some x → c < z) → Rises c z (end_after p byte c)
end_after-rises p c z None h = tt
end_after-rises p c z (Some x) h = let inside : c < z = h x refl in end_if-rises c z (p x) (c + 1) (λ _. (omega arith, omega arith))

pointwise-length : (xs ys : List ℕ) → pointwise nat_eq xs ys ≡ true → length xs ≡ length ys
pointwise-length [] [] h = refl
pointwise-length [] (y ∷ ys) h = cc
pointwise-length (x ∷ xs) [] h = cc
pointwise-length (x ∷ xs) (y ∷ ys) h = ap suc (pointwise-length xs ys (and-second (nat_eq x y) (pointwise nat_eq xs ys) h))
  where
    and-second : (a b : Bool) → (a && b) ≡ true → b ≡ true
    and-second true b e = e
    and-second false b e = cc

length-take-le : (n : ℕ) (xs : List ℕ) → length (take n xs) ≤ length xs
length-take-le zero xs = omega arith
length-take-le (suc n) [] = omega arith
length-take-le (suc n) (x ∷ xs) = omega (arith, length-take-le n xs)

run_length-le : (set bytes : List ℕ) → run_length set bytes ≤ length bytes
run_length-le set [] = omega arith
run_length-le set (byte ∷ bytes) = go (is_in set byte) (run_length-le set bytes)
  where
    go : (b : Bool) → run_length set bytes ≤ length bytes → (if b then suc (run_length set bytes) else 0) ≤ suc (length bytes)
    go true h = omega arith
    go false h = omega arith

first_in-rises : (set : List ℕ) (low c z : ℕ) (bytes : List ℕ) → low ≤ c → c + length bytes ≤ z → Rises low z (first_in set c bytes)
first_in-rises set low c z [] h k = tt
first_in-rises set low c z (byte ∷ bytes) h k = go (is_in set byte) (first_in-rises set low (c + 1) z bytes (omega arith) (omega arith))
  where
    go : (b : Bool) → Rises low z (first_in set (c + 1) bytes) → Rises low z (if b then c ∷ [] else first_in set (c + 1) bytes)
    go true r = ((omega arith, omega arith), tt)
    go false r = r

all_in-rises : (set : List ℕ) (low c z : ℕ) (bytes : List ℕ) → low ≤ c → c + length bytes ≤ z → Rises low z (all_in set c bytes)
all_in-rises set low c z [] h k = tt
all_in-rises set low c z (byte ∷ bytes) h k =
    go (is_in set byte) (all_in-rises set (c + 1) (c + 1) z bytes (omega arith) (omega arith))
    (all_in-rises set low (c + 1) z bytes (omega arith) (omega arith))
  where
    go : (b : Bool) → Rises (c + 1) z (all_in set (c + 1) bytes) → Rises low z (all_in set (c + 1) bytes)
        → Rises low z (if b then c ∷ all_in set (c + 1) bytes else all_in set (c + 1) bytes)
    go true more r = ((omega arith, omega arith), more)
    go false more r = r

count_from-rises : (c n z : ℕ) → c + n ≤ z + 1 → Rises c z (count_from c n)
count_from-rises c zero z h = tt
count_from-rises c (suc n) z h = ((omega arith, omega arith), count_from-rises (c + 1) n z (omega arith))

Rises-lower : (low c z : ℕ) (es : List ℕ) → low ≤ c → Rises c z es → Rises low z es
Rises-lower low c z [] h r = tt
Rises-lower low c z (e ∷ es) h r = ((omega (arith, r.0.0), r.0.1), r.1)

filter-rises : (p : ℕ → Bool) (low z : ℕ) (es : List ℕ) → Rises low z es → Rises low z (filter p es)
filter-rises p low z [] r = tt
filter-rises p low z (e ∷ es) r = go (p e) (filter-rises p (e + 1) z es r.1)
  where
    go : (b : Bool) → Rises (e + 1) z (filter p es) → Rises low z (cond b (e ∷ filter p es) (filter p es))
    go true more = (r.0, more)
    go false more = Rises-lower low (e + 1) z (filter p es) (omega (arith, r.0.0)) more

first-of-and : (a b : Bool) → (a && b) ≡ true → (a ≡ true) × (b ≡ true)
first-of-and true true e = (refl, refl)
first-of-and true false e = cc
first-of-and false b e = cc

text-within : (bytes s : List ℕ) (c : ℕ) → c ≤ length s → starts_with nat_eq (drop c s) bytes ≡ true → Within c (length s) (c + length bytes)
text-within bytes s c h e =
    let same : length bytes ≡ length (take (length bytes) (drop c s)) = pointwise-length bytes (take (length bytes) (drop c s)) e in
    (omega arith, omega (arith, length-take-le (length bytes) (drop c s), length-drop c s))

pub ends-rise : (a : Primitive) (s : List ℕ) (c : ℕ) → c ≤ length s → Rises c (length s) (ends a s c)
ends-rise (Text bytes) s c h = end_if-rises c (length s) (starts_with nat_eq (drop c s) bytes) (c + length bytes) (text-within bytes s c h)
ends-rise (Counted Len n) s c h = end_if-rises c (length s) (nat_le (c + n) (length s)) (c + n) (λ e. (omega arith, leb-true (c + n) (length s) e))
ends-rise (Counted Pos n) s c h = end_if-rises c (length s) (c == n) c (λ e. (omega arith, h))
ends-rise (Counted Rpos n) s c h = end_if-rises c (length s) (c + n == length s) c (λ e. (omega arith, h))
ends-rise (Counted Tab n) s c h = end_if-rises c (length s) (nat_le c n && nat_le n (length s)) n
    (λ e. let both : (nat_le c n ≡ true) × (nat_le n (length s) ≡ true) = first-of-and (nat_le c n) (nat_le n (length s)) e in
    (leb-true c n both.0, leb-true n (length s) both.1))
ends-rise (Counted Rtab n) s c h =
    end_if-rises c (length s) (nat_le (c + n) (length s)) (length s - n) (λ e. let k : c + n ≤ length s = leb-true (c + n) (length s) e in
    (omega arith, omega arith))
ends-rise (Counted kind n) s c h = tt
ends-rise (Among Any set) s c h = end_after-rises (is_in set) c (length s) (slice_get s c) (λ x e. slice_get_within s c x e)
ends-rise (Among NotAny set) s c h = end_after-rises (λ byte. not (is_in set byte)) c (length s) (slice_get s c) (λ x e. slice_get_within s c x e)
ends-rise (Among Span set) s c h = end_if-rises c (length s) (not (run_length set (drop c s) == 0)) (c + run_length set (drop c s))
    (λ e. (omega arith, omega (arith, run_length-le set (drop c s), length-drop c s)))
ends-rise (Among Break set) s c h = first_in-rises set c c (length s) (drop c s) (omega arith) (omega (arith, length-drop c s))
ends-rise (Among BreakX set) s c h = all_in-rises set c c (length s) (drop c s) (omega arith) (omega (arith, length-drop c s))
ends-rise (Among kind set) s c h = tt
ends-rise Arb s c h = count_from-rises c (length s + 1 - c) (length s) (omega arith)
ends-rise Bal s c h =
    filter-rises (λ e. is_balanced (take (e - c) (drop c s))) c (length s) (count_from (c + 1) (length s - c))
    (Rises-lower c (c + 1) (length s) (count_from (c + 1) (length s - c)) (omega arith) (count_from-rises (c + 1) (length s - c) (length s) (omega arith)))
ends-rise Rem s c h = ((h, omega arith), tt)
ends-rise Fail s c h = tt

-- a member is no smaller than its number lets it be
pub Rises-at : (low z : ℕ) (es : List ℕ) (i e : ℕ) → slice_get es i ≡ Some e → Rises low z es → Within (low + i) z e
Rises-at low z [] i e k r = cc
Rises-at low z (x ∷ es) zero e k r = let same : x ≡ e = cc in (omega (arith, r.0.0), omega (arith, r.0.1))
Rises-at low z (x ∷ es) (suc i) e k r = let m = Rises-at (x + 1) z es i e k r.1 in (omega (arith, m.0, r.0.0), m.1)

-- a later member is greater
pub Rises-order : (low z : ℕ) (es : List ℕ) (i j d e : ℕ) → Rises low z es → slice_get es i ≡ Some d → slice_get es j ≡ Some e → i < j → d < e
Rises-order low z [] i j d e r f g h = cc
Rises-order low z (x ∷ es) i zero d e r f g h = absurd (omega arith)
Rises-order low z (x ∷ es) zero (suc j) d e r f g h = let same : x ≡ d = cc in let m = Rises-at (x + 1) z es j e g r.1 in omega (arith, m.0)
Rises-order low z (x ∷ es) (suc i) (suc j) d e r f g h = Rises-order (x + 1) z es i j d e r.1 f g (omega arith)

abbrev pub Each : {X : Type 0} → (X → Type 0) → List X → Type 0
Each P [] = Unit {0}
Each P (x ∷ xs) = P x × Each P xs

pub Each-at : (P : ℕ → Type 0) (es : List ℕ) (i e : ℕ) → slice_get es i ≡ Some e → Each P es → P e
Each-at P [] i e k h = cc
Each-at P (x ∷ es) zero e k h = let same : x ≡ e = cc in rw (← same) h.0
Each-at P (x ∷ es) (suc i) e k h = Each-at P es i e k h.1

Rises-within : (low c z : ℕ) (es : List ℕ) → low ≤ c → Rises c z es → Each (Within low z) es
Rises-within low c z [] h r = tt
Rises-within low c z (e ∷ es) h r = ((omega (arith, r.0.0), r.0.1), Rises-within low (e + 1) z es (omega (arith, r.0.0)) r.1)

pub count_from-within : (low z c n : ℕ) → low ≤ c → c + n ≤ z + 1 → Each (Within low z) (count_from c n)
count_from-within low z c n h k = Rises-within low c z (count_from c n) h (count_from-rises c n z k)

-- each end is at or behind the cursor, within the subject
pub ends-within : (a : Primitive) (s : List ℕ) (c : ℕ) → c ≤ length s → Each (Within c (length s)) (ends a s c)
ends-within a s c h = Rises-within c c (length s) (ends a s c) (omega arith) (ends-rise a s c h)
