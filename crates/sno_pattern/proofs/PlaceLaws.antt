-- The next place at which a primitive has an end.
use Rattle.std.proofs.Common.{◌≡◌, ℕ, zero, suc, ◌+◌, ◌-◌, ◌<◌, ◌≤◌, ◌==◌, nat_eq, Bool, true, false, not, ◌||◌, cond, if◌then◌else◌, Some, None, List, [], ◌∷◌}
use Rattle.std.proofs.Common.{length, min, take, drop, get_or, Option, position, slice_get, slice_index, refl, sym, ◌∙◌, ap, arith, ◌⊎◌, inl, inr, ⊎_elim, rules}
use Rattle.std.specs.Cmp.Lexicographic.{same_text}
use Rattle.std.specs.Option.{is_some}
use Rattle.std.specs.List.{position_from, starts_with}
use Rattle.std.proofs.lemmas.Bool.{eq-eqb, eqb-true, ne_eqb}
use Rattle.std.proofs.lemmas.Iterator.Adapters.{position_from-zero}
use Rattle.std.proofs.lemmas.List.{get_or-take, get_or-drop, length-drop, length-take, take_rest}
use Rattle.std.proofs.lemmas.List.Quantifiers.{position-Some}
use Rattle.std.proofs.lemmas.Option.{slice_get-get_or, slice_get_past}
use Rattle.sno_value.specs.declared.kind.PrimitiveKind.TheVariants.{Any, Span, Break}
use Rattle.sno_pattern.specs.Pattern.{Text, Among}
use Rattle.sno_pattern.specs.Ends.{is_in, end_if, end_after, run_length, first_in}
use Rattle.sno_pattern.proofs.SetLaws.{here_or_behind}
use Rattle.sno_pattern.proofs.LaneLaws.{turned}
use Rattle.sno_pattern.specs.Places.{IsFirstPlace}
use Rattle.sno_pattern.specs.inner.Places.{leaf_has_end, byte_passes}

pub same_place : (p q : ℕ → Bool) (from until place : ℕ) → ((c : ℕ) → p c ≡ q c) → IsFirstPlace p from until place → IsFirstPlace q from until place
same_place p q from until place same first = record {
  behind = first.behind;
  before = first.before;
  none = λ c low high. sym (same c) ∙ first.none c low high;
  found = λ high. sym (same place) ∙ first.found high;
}

pub true_or_false : true ≡ false → ⊥
true_or_false e = absurd (cc)

pub below_or_not : (c place : ℕ) → (c < place) ⊎ (place ≤ c)
below_or_not zero zero = inr (omega arith)
below_or_not zero (suc place) = inl (omega arith)
below_or_not (suc c) zero = inr (omega arith)
below_or_not (suc c) (suc place) = ⊎_elim (λ h. inl (omega (arith, h))) (λ h. inr (omega (arith, h))) (below_or_not c place)

pub end_if-some : (b : Bool) (e : ℕ) → is_some (slice_get (end_if b e) 0) ≡ b
end_if-some true e = refl
end_if-some false e = refl

-- the byte at a place of a part
part_at : (s : List ℕ) (from until n : ℕ) → from + n < until → get_or (take (until - from) (drop from s)) n 0 ≡ get_or s (from + n) 0
part_at s from until n h = get_or-take (until - from) (drop from s) n 0 (omega (arith, h)) ∙ get_or-drop from s n 0

byte_at : (p : ℕ → Bool) (s : List ℕ) (c : ℕ) → c < length s → byte_passes p s c ≡ p (get_or s c 0)
byte_at p s c h = rw (slice_get-get_or s c 0 h) (end_if-some (p (get_or s c 0)) (c + 1))

none_here : (p : ℕ → Bool) (i : ℕ) (x : ℕ) (xs : List ℕ) → (b : Bool) → p x ≡ b → cond b (Some i) (position_from p (i + 1) xs) ≡ None →
    (position_from p (i + 1) xs ≡ None → (k : ℕ) → k < length xs → p (get_or xs k 0) ≡ false) → (k : ℕ) → k < suc (length xs) → p (get_or (x ∷ xs) k 0) ≡ false
none_here p i x xs true is e behind k h = absurd (cc)
none_here p i x xs false is e behind zero h = is
none_here p i x xs false is e behind (suc k) h = behind e k (omega (arith, h))

pub none_from : (p : ℕ → Bool) (i : ℕ) (xs : List ℕ) → position_from p i xs ≡ None → (k : ℕ) → k < length xs → p (get_or xs k 0) ≡ false
none_from p i [] e k h = absurd (omega arith)
none_from p i (x ∷ xs) e k h = none_here p i x xs (p x) refl e (none_from p (i + 1) xs) k h

byte_past : (p : ℕ → Bool) (s : List ℕ) (c : ℕ) → length s ≤ c → byte_passes p s c ≡ false
byte_past p s c h = rw (slice_get_past s c h) refl

-- a place with a byte that passes is inside
pub byte_inside : (p : ℕ → Bool) (s : List ℕ) (c : ℕ) → byte_passes p s c ≡ true → c < length s
byte_inside p s c h = ⊎_elim (λ below. below) (λ past. absurd (true_or_false (sym h ∙ byte_past p s c past))) (below_or_not c (length s))

module _ (p : ℕ → Bool) (s : List ℕ) (from until : ℕ) where
  -- the bytes between the places
  abbrev part : List ℕ
  part = take (until - from) (drop from s)

  long : length part ≡ min (until - from) (length s - from)
  long = length-take (until - from) (drop from s) ∙ ap (min (until - from)) (length-drop from s)

  passes : (c : ℕ) → from ≤ c → c < until → c < length s → byte_passes p s c ≡ p (get_or part (c - from) 0)
  passes c low high inside =
      let same : from + (c - from) ≡ c = omega arith in
      byte_at p s c inside ∙ ap (λ n. p (get_or s n 0)) (sym same) ∙ ap p (sym (part_at s from until (c - from) (omega arith)))

  -- the place of the first byte that passes
  pub place_some : (n : ℕ) → Some n ≡ position p part → IsFirstPlace (byte_passes p s) from until (from + n)
  place_some n e =
      let is = position-Some p part n 0 (sym e) in
      let room : n < until - from = omega (arith, is.0, long) in
      let inside : from + n < length s = omega (arith, is.0, long) in
      let back : from + n - from ≡ n = omega arith in
      record {
        behind = omega arith;
        before = omega (arith, room);
        none = λ c low high. passes c low (omega (arith, room)) (omega (arith, inside)) ∙ is.2 (c - from) (omega arith);
        found = λ high. passes (from + n) (omega arith) high inside ∙ ap (λ m. p (get_or part m 0)) back ∙ is.1;
      }

  -- no byte passes
  pub place_none : from ≤ until → None ≡ position p part → IsFirstPlace (byte_passes p s) from until until
  place_none range e = record {
    behind = range;
    before = omega arith;
    none = λ c low high. ⊎_elim
        (λ inside. passes c low high inside ∙ none_from p 0 part (sym (e ∙ position_from-zero p part)) (c - from) (omega (arith, long, inside)))
        (byte_past p s c) (below_or_not c (length s));
    found = λ high. absurd (omega arith);
  }

-- where a text stands, there stands its first byte
module _ (byte : ℕ) (rest : List ℕ) where
  starts : (s : List ℕ) (c k : ℕ) → is_some (slice_get (end_after (λ b. b == byte) (slice_get s c) k) 0) ≡ false
      → starts_with nat_eq (drop c s) (byte ∷ rest) ≡ false
  starts [] zero k h = refl
  starts [] (suc c) k h = refl
  starts (x ∷ s) zero k h =
      let apart : (x == byte) ≡ false = sym (end_if-some (x == byte) (k + 1)) ∙ h in
      let turned : nat_eq byte x ≡ false = ne_eqb byte x (λ e. true_or_false (sym (eq-eqb x byte (sym e)) ∙ apart)) in
      rw turned refl
  starts (x ∷ s) (suc c) k h = starts s c k h

  text_begins : (s : List ℕ) (c : ℕ) → byte_passes (λ b. b == byte) s c ≡ false → leaf_has_end (Text (byte ∷ rest)) s c ≡ false
  text_begins s c h = end_if-some (starts_with nat_eq (drop c s) (byte ∷ rest)) (c + length (byte ∷ rest)) ∙ starts s c c h

pub first_byte : (text s : List ℕ) (c : ℕ) → (length text == 0) ≡ false → byte_passes (λ b. b == slice_index text 0) s c ≡ false
    → leaf_has_end (Text text) s c ≡ false
first_byte [] s c some h = absurd (true_or_false (sym (eq-eqb 0 0 refl) ∙ some))
first_byte (byte ∷ rest) s c some h = text_begins byte rest s c h

-- a text has an end only where its first byte stands
pub only_at_first : (text s : List ℕ) (c first : ℕ) → slice_get text 0 ≡ Some first → leaf_has_end (Text text) s c ≡ true → slice_get s c ≡ Some first
only_at_first [] s c first is has = absurd (cc is)
only_at_first (byte ∷ rest) s c first is has = at (slice_get s c) (text_begins byte rest s c) ∙ is
  where
    no_other : (there : ℕ) (q : Bool) → (there == byte) ≡ q → (is_some (slice_get (end_after (λ b. b == byte) (Some there) c) 0) ≡ false → ⊥) → there ≡ byte
    no_other there true same stands = eqb-true there byte same
    no_other there false apart stands = absurd (stands (end_if-some (there == byte) (c + 1) ∙ apart))

    at : (there : Option ℕ) → (is_some (slice_get (end_after (λ b. b == byte) there c) 0) ≡ false → leaf_has_end (Text (byte ∷ rest)) s c ≡ false)
        → there ≡ Some byte
    at None none = absurd (true_or_false (sym has ∙ none refl))
    at (Some there) none = ap Some (no_other there (there == byte) refl (λ apart. true_or_false (sym has ∙ none apart)))

-- a text of one byte stands where that byte does
module _ (byte : ℕ) where
  one_stands : (s : List ℕ) (c k : ℕ) → is_some (slice_get (end_after (λ b. b == byte) (slice_get s c) k) 0) ≡ starts_with nat_eq (drop c s) (byte ∷ [])
  one_stands [] zero k = refl
  one_stands [] (suc c) k = refl
  one_stands (x ∷ s) zero k = end_if-some (x == byte) (k + 1) ∙ go (x == byte) refl
    where
      go : (t : Bool) → (x == byte) ≡ t → t ≡ starts_with nat_eq (x ∷ s) (byte ∷ [])
      go true is = let same : nat_eq byte x ≡ true = turned byte x ∙ is in rw same refl
      go false is =
          let apart : nat_eq byte x ≡ false = ne_eqb byte x (λ e. true_or_false (sym (eq-eqb x byte (sym e)) ∙ is)) in
          rw apart refl
  one_stands (x ∷ s) (suc c) k = one_stands s c k

pub one_byte : (text s : List ℕ) (c : ℕ) → length text ≡ 1 → byte_passes (λ b. b == slice_index text 0) s c ≡ leaf_has_end (Text text) s c
one_byte [] s c one = absurd (omega arith)
one_byte (byte ∷ []) s c one = one_stands byte s c c ∙ sym (end_if-some (starts_with nat_eq (drop c s) (byte ∷ [])) (c + 1))
one_byte (byte ∷ next ∷ rest) s c one = absurd (omega arith)

module _ (text s : List ℕ) (some : (length text == 0) ≡ false) (until : ℕ) where
  -- before the first place of its first byte there stands no text
  pub text_first : (from next : ℕ) → IsFirstPlace (byte_passes (λ b. b == slice_index text 0) s) from until next → (c : ℕ) → from ≤ c → c < next
      → leaf_has_end (Text text) s c ≡ false
  text_first from next first c low high = first_byte text s c some (first.none c low high)

  -- nor is there one before the next place of that byte
  pub text_next : (from place next : ℕ) → ((c : ℕ) → from ≤ c → c < place → leaf_has_end (Text text) s c ≡ false) → leaf_has_end (Text text) s place ≡ false →
      IsFirstPlace (byte_passes (λ b. b == slice_index text 0) s) (place + 1) until next → (c : ℕ) → from ≤ c → c < next → leaf_has_end (Text text) s c ≡ false
  text_next from place next none here first c low high =
      ⊎_elim (λ below. none c low below)
      (λ above. ⊎_elim (λ same. rw (← same) here) (λ behind. text_first (place + 1) next first c (omega (arith, behind)) high) (here_or_behind place c above))
      (below_or_not c place)

-- where a text does not stand
pub not_there : (text s : List ℕ) (c : ℕ) → starts_with nat_eq (take (length s - c) (drop c s)) text ≡ false → leaf_has_end (Text text) s c ≡ false
not_there text s c h = end_if-some (starts_with nat_eq (drop c s) text) (c + length text) ∙ (rw (take_rest s c) at h)

-- a run of bytes of a set begins where one of them stands
pub span_begins : (set s : List ℕ) (c : ℕ) (low high : ℕ) → is_some (slice_get (end_after (is_in set) (slice_get s c) low) 0)
    ≡ is_some (slice_get (end_if (not (run_length set (drop c s) == 0)) high) 0)
span_begins set [] zero low high = refl
span_begins set [] (suc c) low high = refl
span_begins set (x ∷ s) zero low high = go (is_in set x)
  where
    some : (suc (run_length set s) == 0) ≡ false
    some = ne_eqb (suc (run_length set s)) 0 (λ e. omega arith)

    go : (b : Bool) → is_some (slice_get (end_if b (low + 1)) 0) ≡ is_some (slice_get (end_if (not ((if b then suc (run_length set s) else 0) == 0)) high) 0)
    go true = rw some refl
    go false = refl
span_begins set (x ∷ s) (suc c) low high = span_begins set s c low high

pub span_place : (set s : List ℕ) (from until place : ℕ) → IsFirstPlace (leaf_has_end (Among Any set) s) from until place
    → IsFirstPlace (leaf_has_end (Among Span set) s) from until place
span_place set s from until place first =
    same_place (leaf_has_end (Among Any set) s) (leaf_has_end (Among Span set) s) from until place
    (λ c. span_begins set s c c (c + run_length set (drop c s))) first

-- no byte of a set is ahead, from wherever places are counted
none_at_all : (set : List ℕ) (k n : ℕ) (s : List ℕ) → None ≡ slice_get (first_in set k s) 0 → is_some (slice_get (first_in set n s) 0) ≡ false
none_at_all set k n [] e = refl
none_at_all set k n (x ∷ s) e = go (is_in set x) e (none_at_all set (k + 1) (n + 1) s)
  where
    go : (b : Bool) → None ≡ slice_get (if b then k ∷ [] else first_in set (k + 1) s) 0
        → (None ≡ slice_get (first_in set (k + 1) s) 0 → is_some (slice_get (first_in set (n + 1) s) 0) ≡ false) →
        is_some (slice_get (if b then n ∷ [] else first_in set (n + 1) s) 0) ≡ false
    go true none behind = absurd (cc)
    go false none behind = behind none

none_behind : (set : List ℕ) (k x : ℕ) (s : List ℕ) → None ≡ slice_get (first_in set k (x ∷ s)) 0 → None ≡ slice_get (first_in set (k + 1) s) 0
none_behind set k x s e = go (is_in set x) e
  where
    go : (b : Bool) → None ≡ slice_get (if b then k ∷ [] else first_in set (k + 1) s) 0 → None ≡ slice_get (first_in set (k + 1) s) 0
    go true none = absurd (cc)
    go false none = none

-- where a byte of a set is ahead of no place, it is ahead of no later one
none_later : (set : List ℕ) (c d k n : ℕ) (s : List ℕ) → c ≤ d → None ≡ slice_get (first_in set k (drop c s)) 0
    → is_some (slice_get (first_in set n (drop d s)) 0) ≡ false
none_later set zero zero k n s h e = none_at_all set k n s e
none_later set zero (suc d) k n [] h e = refl
none_later set zero (suc d) k n (x ∷ s) h e = none_later set zero d (k + 1) n s (omega arith) (none_behind set k x s e)
none_later set (suc c) zero k n s h e = absurd (omega arith)
none_later set (suc c) (suc d) k n [] h e = refl
none_later set (suc c) (suc d) k n (x ∷ s) h e = none_later set c d k n s (omega arith) e

pub break_place_here : (set s : List ℕ) (from until end : ℕ) → from ≤ until → Some end ≡ slice_get (first_in set from (drop from s)) 0
    → IsFirstPlace (leaf_has_end (Among Break set) s) from until from
break_place_here set s from until end range e = record {
  behind = omega arith;
  before = range;
  none = λ c low high. absurd (omega arith);
  found = λ high. ap is_some (sym e);
}

pub break_place_none : (set s : List ℕ) (from until : ℕ) → from ≤ until → None ≡ slice_get (first_in set from (drop from s)) 0
    → IsFirstPlace (leaf_has_end (Among Break set) s) from until until
break_place_none set s from until range e = record {
  behind = range;
  before = omega arith;
  none = λ c low high. none_later set from c from c s low e;
  found = λ high. absurd (omega arith);
}

-- eight times the same byte
pub same_eight : (byte : ℕ) (bytes : List ℕ) → position (is_in (byte ∷ byte ∷ byte ∷ byte ∷ byte ∷ byte ∷ byte ∷ byte ∷ [])) bytes
    ≡ position (λ b. b == byte) bytes
same_eight byte bytes = ap (λ (p : ℕ → Bool). position p bytes) (λ i b. same b i)
  where
    once : (t : Bool) → (t || (t || (t || (t || (t || (t || (t || (t || false)))))))) ≡ t
    once true = refl
    once false = refl

    same : (b : ℕ) → is_in (byte ∷ byte ∷ byte ∷ byte ∷ byte ∷ byte ∷ byte ∷ byte ∷ []) b ≡ (b == byte)
    same b = once (byte == b) ∙ turned byte b

-- where one byte of a text differs the text does not stand
pub one_differs : (text bytes : List ℕ) (i : ℕ) → i < length text → (get_or bytes i 0 ≡ get_or text i 0 → ⊥) → starts_with nat_eq bytes text ≡ false
one_differs text bytes i below apart = go (starts_with nat_eq bytes text) refl
  where
    go : (b : Bool) → starts_with nat_eq bytes text ≡ b → starts_with nat_eq bytes text ≡ false
    go false e = e
    go true e =
        let same : text ≡ take (length text) bytes = same_text text (take (length text) bytes) (sym e) in
        absurd (apart (sym (ap (λ (xs : List ℕ). get_or xs i 0) same ∙ get_or-take (length text) bytes i 0 below)))

-- so many bytes are left behind one place alone
pub before_end : (c n end place : ℕ) → place + n ≡ end → (c + n == end) ≡ (c == place)
before_end c n end place e = search rules
