-- How far lists of bytes agree.
use Rattle.std.proofs.Common.{◌≡◌, ℕ, ◌+◌, ◌-◌, ◌<◌, ◌≤◌, Bool, true, false, List, Option, Some, None, length, drop, take, get_or, slice_get, slice_set, refl, sym, ◌∙◌, ap, subst, arith, ⊎_elim}
use Rattle.std.specs.Prelude.{nat_eq}
use Rattle.std.specs.List.{starts_with}
use Rattle.std.specs.Option.{is_some}
use Rattle.std.specs.Cmp.Lexicographic.{bytes_decides, same_text}
use Rattle.std.proofs.lemmas.List.{ext_get_or, get_or-drop, get_or-set_other, get_or-set_same, get_or-take, length-drop, length-set, length-take, length-take-le, take-take, take_rest}
use Rattle.sno_value.specs.declared.ids.PatId.{PatId}
use Rattle.sno_pattern.specs.declared.comparisons.Comparison.{Comparison}
use Rattle.sno_pattern.specs.declared.comparisons.Period.{Period}
use Rattle.sno_pattern.specs.declared.kind.Entry.{Entry}
use Rattle.sno_pattern.specs.declared.kind.Kind.TheVariants as K
use Rattle.sno_pattern.specs.Agreement.{AreSame, Agree}
use Rattle.sno_pattern.specs.Compared.{AreComparisons, ArePeriods, IsTrueComparison, IsTruePeriod}
use Rattle.sno_pattern.specs.Pattern.{Pattern, Leaf, Text}
use Rattle.sno_pattern.specs.Ends.{ends}
use Rattle.sno_pattern.specs.Places.{has_end}
use Rattle.sno_pattern.specs.inner.Places.{leaf_has_end}
use Rattle.sno_pattern.specs.Shape.{end_of}
use Rattle.sno_pattern.specs.Table.{Node, LeafNode, tree}
use Rattle.sno_pattern.specs.inner.Kinds.{node_of, nodes_of, IsTable}
use Rattle.sno_pattern.proofs.LookLaws.{same_or_not}
use Rattle.sno_pattern.proofs.PlaceLaws.{below_or_not, end_if-some, not_there, one_differs, true_or_false}
use Rattle.sno_pattern.proofs.SameLaws.{stands_for}

-- bytes that are the same, and then some more
pub joined : (a b : List ℕ) (count more : ℕ) → AreSame a b count → count + more ≤ length a → count + more ≤ length b
    → take more (drop count a) ≡ take more (drop count b) → AreSame a b (count + more)
joined a b count more are left right same = record {
  left = left;
  right = right;
  same = λ k h.
      ⊎_elim (λ below. are.same k below)
      (λ above.
      let back : count + (k - count) ≡ k = omega (arith, above) in
      let inside : k - count < more = omega (arith, above, h) in
      ap (λ n. get_or a n 0) (sym back) ∙ sym (get_or-drop count a (k - count) 0) ∙ sym (get_or-take more (drop count a) (k - count) 0 inside)
      ∙ ap (λ (l : List ℕ). get_or l (k - count) 0) same
      ∙ get_or-take more (drop count b) (k - count) 0 inside
      ∙ get_or-drop count b (k - count) 0 ∙ ap (λ n. get_or b n 0) back)
      (below_or_not k count);
}

-- and one more
pub one_more : (a b : List ℕ) (count : ℕ) → AreSame a b count → count < length a → count < length b → get_or a count 0 ≡ get_or b count 0
    → AreSame a b (count + 1)
one_more a b count are left right same = record {
  left = omega arith;
  right = omega arith;
  same = λ k h.
      ⊎_elim (λ below. are.same k below)
      (λ above. let last : k ≡ count = omega (arith, above, h) in rw last same)
      (below_or_not k count);
}

-- the same turned round
pub turned : (a b : List ℕ) (count : ℕ) → AreSame a b count → AreSame b a count
turned a b count are = record { left = are.right; right = are.left; same = λ k h. sym (are.same k h) }

pub agree_turned : (a b : List ℕ) (count : ℕ) → Agree a b count → Agree b a count
agree_turned a b count is = record { begin = turned a b count is.begin; apart = λ left right e. is.apart right left (sym e) }

-- what agrees with one list agrees with another as far as both lists are the same, or as far as it did
pub shorter : (t a b : List ℕ) (count repeated : ℕ) → Agree t a count → Agree a b repeated → repeated < count → Agree t b repeated
shorter t a b count repeated is same less = record {
  begin = record {
    left = omega (arith, less, is.begin.left);
    right = same.begin.right;
    same = λ k h. is.begin.same k (omega (arith, h, less)) ∙ same.begin.same k h;
  };
  apart = λ left right e. same.apart (omega (arith, less, is.begin.right)) right (sym (is.begin.same repeated less) ∙ e);
}

pub further : (t a b : List ℕ) (count repeated : ℕ) → Agree t a count → AreSame a b repeated → count < repeated → Agree t b count
further t a b count repeated is same more = record {
  begin = record {
    left = is.begin.left;
    right = omega (arith, more, same.right);
    same = λ k h. is.begin.same k h ∙ same.same k (omega (arith, h, more));
  };
  apart = λ left right e. is.apart left (omega (arith, more, same.left)) (e ∙ sym (same.same count more));
}

-- as far as both, where these are as many
pub as_far : (t a b : List ℕ) (count : ℕ) → Agree t a count → AreSame a b count → AreSame t b count
as_far t a b count is same = record {
  left = is.begin.left;
  right = same.right;
  same = λ k h. is.begin.same k h ∙ same.same k h;
}

-- the bytes from two cursors, by a period that has the first
pub period_tells : (s : List ℕ) (period : Period) (from : ℕ) → IsTruePeriod s period → period.from ≤ from → from < period.until
    → AreSame (drop from s) (drop (from + period.distance) s) (period.until - from)
period_tells s period from is low high = record {
  left = omega (arith, length-drop from s, is.within (omega (arith, low, high)), high);
  right = omega (arith, length-drop (from + period.distance) s, is.within (omega (arith, low, high)), high);
  same = λ k h.
      let turned : from + k + period.distance ≡ from + period.distance + k = omega arith in
      get_or-drop from s k 0 ∙ is.same (from + k) (omega (arith, low)) (omega (arith, h, high)) ∙ ap (λ n. get_or s n 0) turned
      ∙ sym (get_or-drop (from + period.distance) s k 0);
}

-- and a period of bytes from two cursors
pub period_of : (s : List ℕ) (from distance count : ℕ) → AreSame (drop from s) (drop (from + distance) s) count → 0 < count
    → IsTruePeriod s (record { distance = distance; from = from; until = from + count })
period_of s from distance count are some = record {
  within = λ _. omega (arith, length-drop (from + distance) s, are.right, some);
  same = λ c low high.
      let here : from + (c - from) ≡ c = omega (arith, low) in
      let there : from + distance + (c - from) ≡ c + distance = omega (arith, low) in
      ap (λ n. get_or s n 0) (sym here) ∙ sym (get_or-drop from s (c - from) 0) ∙ are.same (c - from) (omega (arith, low, high))
      ∙ get_or-drop (from + distance) s (c - from) 0 ∙ ap (λ n. get_or s n 0) there;
}

-- ---- where a text stands
stands : (text bytes : List ℕ) → text ≡ take (length text) bytes → starts_with nat_eq bytes text ≡ true
stands text bytes is = (bytes_decides text (take (length text) bytes)).1 is

begins : (text bytes : List ℕ) → starts_with nat_eq bytes text ≡ true → text ≡ take (length text) bytes
begins text bytes told = same_text text (take (length text) bytes) (sym told)

-- a text that stands begins with its beginning
beginning_stands : (text bytes : List ℕ) (count : ℕ) → count ≤ length text → starts_with nat_eq bytes text ≡ true → starts_with nat_eq bytes (take count text) ≡ true
beginning_stands text bytes count h told =
    let long : length (take count text) ≡ count = length-take-le count text h in
    let same : take count text ≡ take count bytes = ap (take count) (begins text bytes told) ∙ take-take count (length text) bytes h in
    stands (take count text) bytes (same ∙ ap (λ n. take n bytes) (sym long))

-- where its beginning doesn't stand a text doesn't
pub none_begins : (text bytes : List ℕ) (count : ℕ) → count ≤ length text → starts_with nat_eq bytes (take count text) ≡ false
    → starts_with nat_eq bytes text ≡ false
none_begins text bytes count h none = go (starts_with nat_eq bytes text) refl
  where
    go : (b : Bool) → starts_with nat_eq bytes text ≡ b → starts_with nat_eq bytes text ≡ false
    go false told = told
    go true told = absurd (true_or_false (sym (beginning_stands text bytes count h told) ∙ none))

-- nor does it where one of its bytes differs
pub none_differs : (text s : List ℕ) (c i : ℕ) → i < length text → (get_or s (c + i) 0 ≡ get_or text i 0 → ⊥) → leaf_has_end (Text text) s c ≡ false
none_differs text s c i below apart =
    end_if-some (starts_with nat_eq (drop c s) text) (c + length text)
    ∙ one_differs text (drop c s) i below (λ e. apart (sym (get_or-drop c s i 0) ∙ e))

-- nor where the subject ends before
pub none_fits : (text s : List ℕ) (c : ℕ) → length s - c < length text → leaf_has_end (Text text) s c ≡ false
none_fits text s c less =
    end_if-some (starts_with nat_eq (drop c s) text) (c + length text) ∙ go (starts_with nat_eq (drop c s) text) refl
  where
    go : (b : Bool) → starts_with nat_eq (drop c s) text ≡ b → starts_with nat_eq (drop c s) text ≡ false
    go false told = told
    go true told =
        absurd (omega (arith, less, ap length (begins text (drop c s) told), length-take (length text) (drop c s), length-drop c s))

-- a text that agrees as a whole stands
agrees_stands : (text bytes : List ℕ) → AreSame text bytes (length text) → starts_with nat_eq bytes text ≡ true
agrees_stands text bytes are =
    let long : length (take (length text) bytes) ≡ length text = length-take-le (length text) bytes are.right in
    stands text bytes
    (ext_get_or 0 text (take (length text) bytes) (sym long) (λ i h. are.same i h ∙ sym (get_or-take (length text) bytes i 0 h)))

none_is : (o : Option ℕ) → is_some o ≡ false → None ≡ o
none_is None h = refl
none_is (Some e) h = absurd (true_or_false h)

-- the first end of a text by whether what is left of the subject begins with it
pub no_first_end : (text s : List ℕ) (c : ℕ) → starts_with nat_eq (take (length s - c) (drop c s)) text ≡ false → slice_get (ends (Text text) s c) 0 ≡ None
no_first_end text s c none = sym (none_is (slice_get (ends (Text text) s c) 0) (not_there text s c none))

pub first_end_there : (text s : List ℕ) (c : ℕ) → starts_with nat_eq (take (length s - c) (drop c s)) text ≡ true
    → slice_get (ends (Text text) s c) 0 ≡ Some (c + length text)
first_end_there text s c there =
    let all : starts_with nat_eq (drop c s) text ≡ true = ap (λ (l : List ℕ). starts_with nat_eq l text) (sym (take_rest s c)) ∙ there in
    rw all refl

-- what a text that agrees so far has for its first end
pub no_end : (pattern : Pattern) (text s : List ℕ) (c : ℕ) → pattern ≡ Leaf (Text text) → leaf_has_end (Text text) s c ≡ false → None ≡ end_of pattern s c 0
no_end pattern text s c is none = none_is (end_of (Leaf (Text text)) s c 0) none ∙ sym (ap (λ (p : Pattern). end_of p s c 0) is)

pub end_behind : (pattern : Pattern) (text s : List ℕ) (c count : ℕ) → pattern ≡ Leaf (Text text) → Agree text (drop c s) count → count ≡ length text
    → Some (c + count) ≡ end_of pattern s c 0
end_behind pattern text s c count is agree whole =
    let all : starts_with nat_eq (drop c s) text ≡ true = agrees_stands text (drop c s) (subst (AreSame text (drop c s)) whole agree.begin) in
    ap (λ n. Some (c + n)) whole ∙ sym (ap (λ (p : Pattern). end_of p s c 0) is ∙ rw all refl)

pub not_whole : (text s : List ℕ) (c count : ℕ) → Agree text (drop c s) count → count < length text → leaf_has_end (Text text) s c ≡ false
not_whole text s c count agree less =
    ⊎_elim
    (λ inside. none_differs text s c count less (λ e. agree.apart less (omega (arith, inside)) (sym e ∙ sym (get_or-drop c s count 0))))
    (λ past. none_fits text s c (omega (arith, past, less, agree.begin.right, length-drop c s)))
    (below_or_not count (length (drop c s)))

-- where the text of a number has no end, its number has none
pub no_place_of : (pattern : Pattern) (text s : List ℕ) (c : ℕ) → pattern ≡ Leaf (Text text) → leaf_has_end (Text text) s c ≡ false → has_end pattern s c ≡ false
no_place_of pattern text s c is none = ap (λ (p : Pattern). has_end p s c) is ∙ none

-- the entry of a text stands for it
pub text_tree : (entries : List Entry) (nodes : List Node) (id : PatId) (entry : Entry) (held bytes : List ℕ) → nodes_of entries ≡ nodes → IsTable entries
    → id.0 < length nodes → get_or entries id.0 entry ≡ entry → entry.kind ≡ K.Text held → bytes ≡ held → tree nodes id.0 ≡ Leaf (Text bytes)
text_tree entries nodes id entry held bytes view table known at is same =
    (stands_for entries nodes id entry (Text bytes) view table known at (ap node_of is ∙ ap (λ b. LeafNode (Text b)) (sym same))).1

-- a true comparison in the place of one
pub texts_put : (nodes : List Node) (s : List ℕ) (texts : List Comparison) (place : ℕ) (told : Comparison) → AreComparisons nodes s texts
    → IsTrueComparison nodes s told → AreComparisons nodes s (slice_set texts place told)
texts_put nodes s texts place told are is = record {
  each = λ at other h. let long = length-set texts place told in
      ⊎_elim
      (λ same. rw (← same) (subst (IsTrueComparison nodes s) (sym (get_or-set_same texts place told other (omega (arith, h, long, same)))) is))
      (λ apart. subst (IsTrueComparison nodes s) (sym (get_or-set_other texts place at told other (λ e. apart (sym e))))
      (are.each at other (omega (arith, h, long))))
      (same_or_not place at);
}

-- and a true period
pub periods_put : (s : List ℕ) (periods : List Period) (place : ℕ) (told : Period) → ArePeriods s periods → IsTruePeriod s told
    → ArePeriods s (slice_set periods place told)
periods_put s periods place told are is = record {
  each = λ at other h. let long = length-set periods place told in
      ⊎_elim
      (λ same. rw (← same) (subst (IsTruePeriod s) (sym (get_or-set_same periods place told other (omega (arith, h, long, same)))) is))
      (λ apart. subst (IsTruePeriod s) (sym (get_or-set_other periods place at told other (λ e. apart (sym e))))
      (are.each at other (omega (arith, h, long))))
      (same_or_not place at);
}
