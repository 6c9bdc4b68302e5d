-- Parts of a subject in which no byte passes.
use Rattle.std.proofs.Common.{◌≡◌, ℕ, zero, suc, ◌+◌, ◌*◌, ◌-◌, ◌/◌, ◌%◌, ◌<◌, ◌≤◌, ◌==◌, Bool, true, false, not, if◌then◌else◌, Option, Some, None, List, [], ◌∷◌, ◌++◌}
use Rattle.std.proofs.Common.{length, min, max, take, drop, get_or, position, slice_get, slice_index, bit_and, refl, sym, ◌∙◌, ap, subst, arith, length-append, ⊎_elim}
use Rattle.std.specs.Int.{bit_at}
use Rattle.std.specs.Option.{is_some}
use Rattle.std.proofs.lemmas.Bool.{eqb-true, ne_eqb}
use Rattle.std.proofs.lemmas.Iterator.Adapters.{position_from-zero}
use Rattle.std.proofs.lemmas.List.{drop_more, get_or_append_left, get_or-take, get_or-drop, length-drop, length-take}
use Rattle.std.proofs.Math.Seq.{get_or-append_seam}
use Rattle.std.proofs.lemmas.Nat.Bits.{bit_at_and, bit_at-lt, bit_at-zero}
use Rattle.sno_value.specs.declared.kind.PrimitiveKind.TheVariants.{Span, Break, BreakX}
use Rattle.sno_pattern.specs.Pattern.{Among}
use Rattle.sno_pattern.specs.Ends.{is_in, end_if, run_length, first_in, ends}
use Rattle.sno_pattern.specs.Present.{part_of, IsLevel, ArePresent}
use Rattle.sno_pattern.specs.inner.Lanes.{passes}
use Rattle.sno_pattern.specs.Masks.{members}
use Rattle.sno_pattern.specs.inner.Present.{NonePasses, ArePassed, IsAbove}
use Rattle.sno_pattern.proofs.LookLaws.{stop_first}
use Rattle.sno_pattern.proofs.MaskLaws.{past_members}
use Rattle.sno_pattern.proofs.PlaceLaws.{below_or_not, none_from, true_or_false}
use Rattle.sno_pattern.proofs.SetLaws.{is_in-members}

-- ---- what is common to a mask and a set
-- the bits of two masks that are common, as the code computes them
abbrev pub with_common : List ℕ → List ℕ → List ℕ
with_common mask words =
    bit_and (slice_index mask 0) (slice_index words 0) ∷ bit_and (slice_index mask 1) (slice_index words 1) ∷
    bit_and (slice_index mask 2) (slice_index words 2) ∷ bit_and (slice_index mask 3) (slice_index words 3) ∷ []

word-common : (mask words : List ℕ) (i : ℕ) → i < 4 → slice_index (with_common mask words) i ≡ bit_and (slice_index mask i) (slice_index words i)
word-common mask words zero h = refl
word-common mask words (suc zero) h = refl
word-common mask words (suc (suc zero)) h = refl
word-common mask words (suc (suc (suc zero))) h = refl
word-common mask words (suc (suc (suc (suc i)))) h = absurd (omega arith)

-- bit b of four words
abbrev bit_of : List ℕ → ℕ → ℕ
bit_of words b = bit_at (slice_index words (b / 64)) (b % 64)

bit-common : (mask words : List ℕ) (b : ℕ) → b < 256 → bit_of (with_common mask words) b ≡ min (bit_of mask b) (bit_of words b)
bit-common mask words b below =
    ap (λ n. bit_at n (b % 64)) (word-common mask words (b / 64) (omega arith))
    ∙ bit_at_and (slice_index mask (b / 64)) (slice_index words (b / 64)) (b % 64)

-- a byte of a mask is below 256, and its bit is set
bit-present : (mask : List ℕ) (b : ℕ) → is_in (members mask) b ≡ true → (b < 256) × (bit_of mask b ≡ 1)
bit-present mask b present =
    ⊎_elim (λ below. (below, eqb-true (bit_of mask b) 1 (sym (is_in-members mask b below) ∙ present)))
    (λ past. absurd (true_or_false (sym present ∙ past_members mask b past))) (below_or_not b 256)

no-bit : (b : ℕ) → bit_of (0 ∷ 0 ∷ 0 ∷ 0 ∷ []) b ≡ 0
no-bit b = go (b / 64)
  where
    go : (i : ℕ) → bit_at (slice_index (0 ∷ 0 ∷ 0 ∷ 0 ∷ []) i) (b % 64) ≡ 0
    go zero = bit_at-zero (b % 64)
    go (suc zero) = bit_at-zero (b % 64)
    go (suc (suc zero)) = bit_at-zero (b % 64)
    go (suc (suc (suc zero))) = bit_at-zero (b % 64)
    go (suc (suc (suc (suc i)))) = bit_at-zero (b % 64)

-- where a mask and a set have no bit in common, no byte of the mask is in the set
pub none-inside : (mask words : List ℕ) → with_common mask words ≡ 0 ∷ 0 ∷ 0 ∷ 0 ∷ [] → NonePasses true (members words) mask
none-inside mask words none b present =
    let is = bit-present mask b present in
    let common : min (bit_of mask b) (bit_of words b) ≡ 0 = sym (bit-common mask words b is.0) ∙ ap (λ (n : List ℕ). bit_of n b) none ∙ no-bit b in
    let absent : bit_of words b ≡ 0 = omega (arith, common, is.1) in
    is_in-members words b is.0 ∙ ap (λ n. n == 1) absent

-- where what is common is the mask, each byte of the mask is in the set
pub none-outside : (mask words : List ℕ) → with_common mask words ≡ mask → NonePasses false (members words) mask
none-outside mask words all b present =
    let is = bit-present mask b present in
    let common : min (bit_of mask b) (bit_of words b) ≡ bit_of mask b = sym (bit-common mask words b is.0) ∙ ap (λ (n : List ℕ). bit_of n b) all in
    let there : 1 ≤ bit_of words b = omega (arith, common, is.1) in
    let set : bit_of words b ≡ 1 = omega (arith, there, bit_at-lt (slice_index words (b / 64)) (b % 64)) in
    ap not (is_in-members words b is.0 ∙ ap (λ n. n == 1) set)

-- ---- levels
-- a level above that of a subject is the subject's
pub level-above : (s : List ℕ) (level : ℕ) (masks above : List (List ℕ)) → IsLevel s level masks → IsAbove masks above → IsLevel s (suc level) above
level-above s level masks above is over = record {
  within = λ c inside. over.within (part_of level c) (is.within c inside);
  has = λ c inside. over.has (part_of level c) (get_or s c 0) (is.within c inside) (is.has c inside);
}

pub levels-more : (s : List ℕ) (levels more : List (List (List ℕ))) (top : List (List ℕ)) → ArePresent s levels → IsLevel s (length levels) top
    → more ≡ levels ++ (top ∷ []) → ArePresent s more
levels-more s levels more top are is grown = record {
  each = λ level h.
      let long : length more ≡ length levels + 1 = ap length grown ∙ length-append levels (top ∷ []) in
      ⊎_elim
      (λ below. subst (IsLevel s level) (sym (ap (λ (l : List (List (List ℕ))). get_or l level []) grown ∙ get_or_append_left levels (top ∷ []) [] level below)) (are.each level below))
      (λ last.
      let same : level ≡ length levels = omega (arith, long, h, last) in
      rw same (subst (IsLevel s (length levels)) (sym (ap (λ (l : List (List (List ℕ))). get_or l (length levels) []) grown ∙ get_or-append_seam levels top [] [])) is))
      (below_or_not level (length levels));
}

-- ---- parts that are passed
-- parts in whose masks no byte passes are passed
pub parts-passed : (inside : Bool) (set s : List ℕ) (level : ℕ) (masks : List (List ℕ)) (from until : ℕ) → IsLevel s level masks
    → ((part : ℕ) → from ≤ part → part < until → NonePasses inside set (get_or masks part [])) → ArePassed inside set s level from until
parts-passed inside set s level masks from until is none c within low high =
    none (part_of level c) low high (get_or s c 0) (is.has c within)

-- what is passed on the level above is passed on this one
pub above-passed : (inside : Bool) (set s : List ℕ) (level from until : ℕ) → from % 8 ≡ 0 → ArePassed inside set s (suc level) (from / 8) until
    → ArePassed inside set s level from (until * 8)
above-passed inside set s level from until whole passed c within low high = passed c within (omega arith) (omega arith)

pub passed-on : (inside : Bool) (set s : List ℕ) (level from until next behind : ℕ) → next ≤ until → ArePassed inside set s level from until
    → ArePassed inside set s level next behind → ArePassed inside set s level from behind
passed-on inside set s level from until next behind joined passed more c within low high =
    ⊎_elim (λ below. passed c within low below) (λ above. more c within (omega arith) high) (below_or_not (part_of level c) until)

-- ---- cursors that are passed
-- no byte passes from one cursor up to another
abbrev pub NoBytePasses : Bool → List ℕ → List ℕ → ℕ → ℕ → Type 0
NoBytePasses inside set s from until = (c : ℕ) → from ≤ c → c < until → passes inside set (get_or s c 0) ≡ false

-- the bytes of a block in which none is found
pub block-passed : (inside : Bool) (set s : List ℕ) (from until : ℕ) → until ≤ length s → None ≡ position (passes inside set) (take (until - from) (drop from s))
    → NoBytePasses inside set s from until
block-passed inside set s from until within none c low high =
    let part = take (until - from) (drop from s) in
    let long : length part ≡ until - from = omega (arith, length-take (until - from) (drop from s), length-drop from s) in
    let at : from + (c - from) ≡ c = omega arith in
    let byte : get_or part (c - from) 0 ≡ get_or s c 0 = get_or-take (until - from) (drop from s) (c - from) 0 (omega arith) ∙ get_or-drop from s (c - from) 0
    ∙ ap (λ n. get_or s n 0) at in
    ap (passes inside set) (sym byte)
    ∙ none_from (passes inside set) 0 part (sym (none ∙ position_from-zero (passes inside set) part)) (c - from) (omega (arith, long))

pub not-found : (o searched : Option ℕ) → o ≡ searched → is_some o ≡ false → None ≡ searched
not-found None searched is none = is
not-found (Some n) searched is none = absurd (true_or_false none)

-- and those of the blocks behind it
pub blocks-passed : (inside : Bool) (set s : List ℕ) (at end part until : ℕ) → NoBytePasses inside set s at end → ArePassed inside set s 0 (end / 64) part
    → until ≤ length s → until ≤ max (part * 64) end → NoBytePasses inside set s at until
blocks-passed inside set s at end part until near far within most c low high =
    ⊎_elim (λ below. near c low below) (λ above. far c (omega arith) (omega arith) (omega (arith, most, above, high))) (below_or_not c end)

-- ---- the first end behind what is passed
first-behind : (set s : List ℕ) (c n : ℕ) → c + n ≤ length s → NoBytePasses true set s c (c + n)
    → first_in set c (drop c s) ≡ first_in set (c + n) (drop (c + n) s)
first-behind set s c zero within none = let same : c + 0 ≡ c = omega arith in rw same refl
first-behind set s c (suc n) within none =
    let next : c + 1 + n ≡ c + suc n = omega arith in
    let here : is_in set (get_or s c 0) ≡ false = none c (omega arith) (omega arith) in
    let rest = first-behind set s (c + 1) n (omega arith) (λ d low high. none d (omega arith) (omega arith)) in
    ap (first_in set c) (drop_more s c 0 (omega arith))
    ∙ ap (λ b. if b then c ∷ [] else first_in set (c + 1) (drop (c + 1) s)) here
    ∙ rw next at rest

-- BREAK's first end behind bytes that are not in its set
pub break-passed : (set s : List ℕ) (c d : ℕ) → c ≤ d → d ≤ length s → NoBytePasses true set s c d
    → slice_get (ends (Among Break set) s d) 0 ≡ slice_get (ends (Among Break set) s c) 0
break-passed set s c d low within none =
    let at : c + (d - c) ≡ d = omega arith in
    sym (ap (λ (es : List ℕ). slice_get es 0)
    (rw at at (first-behind set s c (d - c) (omega arith) (λ e above below. none e above (omega arith)))))

pub stop-passed : (set s : List ℕ) (c d : ℕ) → c ≤ d → d ≤ length s → NoBytePasses true set s c d
    → slice_get (ends (Among BreakX set) s d) 0 ≡ slice_get (ends (Among BreakX set) s c) 0
stop-passed set s c d low within none = stop_first set s d ∙ break-passed set s c d low within none ∙ sym (stop_first set s c)

in-set : (b : Bool) → not b ≡ false → b ≡ true
in-set true h = refl
in-set false h = absurd (true_or_false h)

run-behind : (set s : List ℕ) (c n : ℕ) → c + n ≤ length s → NoBytePasses false set s c (c + n) → run_length set (drop c s) ≡ n + run_length set (drop (c + n) s)
run-behind set s c zero within none = let same : c + 0 ≡ c = omega arith in rw same (omega arith)
run-behind set s c (suc n) within none =
    let next : c + 1 + n ≡ c + suc n = omega arith in
    let here : is_in set (get_or s c 0) ≡ true = in-set (is_in set (get_or s c 0)) (none c (omega arith) (omega arith)) in
    let rest = run-behind set s (c + 1) n (omega arith) (λ d low high. none d (omega arith) (omega arith)) in
    let more : run_length set (drop c s) ≡ suc (run_length set (drop (c + 1) s)) =
    ap (run_length set) (drop_more s c 0 (omega arith)) ∙ ap (λ b. if b then suc (run_length set (drop (c + 1) s)) else 0) here in
    omega (arith, more, rw next at rest)

-- SPAN's first end from a byte of its set behind others of them
pub span-passed : (set s : List ℕ) (c d : ℕ) → c ≤ d → d < length s → NoBytePasses false set s c (d + 1)
    → slice_get (ends (Among Span set) s d) 0 ≡ slice_get (ends (Among Span set) s c) 0
span-passed set s c d low within none =
    let all = run-behind set s c (d + 1 - c) (omega arith) (λ e above below. none e above (omega arith)) in
    let some = run-behind set s d 1 (omega arith) (λ e above below. none e (omega arith) (omega arith)) in
    let at : c + (d + 1 - c) ≡ d + 1 = omega arith in
    let long : run_length set (drop c s) ≡ d + 1 - c + run_length set (drop (d + 1) s) = rw at at all in
    let same : d + run_length set (drop d s) ≡ c + run_length set (drop c s) = omega (arith, some, long) in
    let first : (run_length set (drop c s) == 0) ≡ false = ne_eqb (run_length set (drop c s)) 0 (λ z. omega (arith, long, z)) in
    let last : (run_length set (drop d s) == 0) ≡ false = ne_eqb (run_length set (drop d s)) 0 (λ z. omega (arith, some, z)) in
    ap (λ b. slice_get (end_if (not b) (d + run_length set (drop d s))) 0) last ∙ ap Some same
    ∙ sym (ap (λ b. slice_get (end_if (not b) (c + run_length set (drop c s))) 0) first)

-- the last of the bytes that SPAN passes, or the cursor itself where it passes none
pub span-near : (set s : List ℕ) (c behind near : ℕ) → behind ≤ length s → near ≡ max (behind - 1) c → NoBytePasses false set s c behind
    → slice_get (ends (Among Span set) s near) 0 ≡ slice_get (ends (Among Span set) s c) 0
span-near set s c behind near within is none =
    ⊎_elim
    (λ some. span-passed set s c near (omega (arith, is)) (omega (arith, is, some)) (λ e low high. none e low (omega (arith, is, some, high))))
    (λ few. let same : near ≡ c = omega (arith, is, few) in ap (λ n. slice_get (ends (Among Span set) s n) 0) same)
    (below_or_not c behind)
