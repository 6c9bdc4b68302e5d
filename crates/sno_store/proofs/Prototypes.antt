-- How many elements a prototype says, counted from text to text with a cap.
use Rattle.std.proofs.Common.{◌≡◌, ℕ, ◌+◌, ◌*◌, ◌-◌, ◌^◌, ◌<◌, ◌≤◌, min, Bool, true, false, List, [], ◌∷◌, ◌++◌, filter_map, length, option_map, ltb, drop}
use Rattle.std.proofs.Common.{get_or, Option, None, Some, refl, sym, ap, subst, ◌∙◌, arith}
use Rattle.std.proofs.Math.Nat.{min-eq_left, min-eq_right, min-le_right, mul-pos, mul-one, one-mul, mul_assoc, mul_comm, le-mul_of_pos_right}
use Rattle.std.proofs.lemmas.Bool.{ltb-true, ltb-false}
use Rattle.std.specs.List.{cons_option}
use Rattle.std.proofs.lemmas.List.{at_drop_more, at_drop_all, append-nil, append_assoc}
use Rattle.sno_store.specs.declared.dimension.Dimension.{Dimension}
use Rattle.std.proofs.lemmas.Int.{ints}
use Rattle.sno_store.specs.Tables.{up_to}
use Rattle.sno_store.specs.Arrays.{dimension_of, dimensions_from, before, size, element_count}

-- the count with one more dimension, as it is kept
abbrev pub counted_with : ℕ → Dimension → ℕ
counted_with count dimension = min (min (count * min (size dimension) (2 ^ 64 - 1)) (2 ^ 64 - 1)) 1_000_001

abbrev pub counted_on : Option Dimension → (ℕ → Option ℕ) → ℕ → Option ℕ
counted_on (Some dimension) next count = next (counted_with count dimension)
counted_on None next count = None

-- the count behind the texts that are left, if each is a dimension
abbrev pub counted : List (List ℕ) → ℕ → Option ℕ
counted [] count = Some count
counted (text ∷ texts) count = counted_on (dimension_of text) (counted texts) count

-- the cap
abbrev most : ℕ
most = 1_000_001

pub size_some : (dimension : Dimension) → 0 < size dimension
size_some dimension = omega arith

pub count_some : (dimensions : List Dimension) → 0 < element_count dimensions
count_some [] = omega arith
count_some (dimension ∷ dimensions) = mul-pos (size_some dimension) (count_some dimensions)

-- equal numbers stay equal where both are multiplied, above the cap too
by_cap : (x y n : ℕ) → 0 < n → min x most ≡ min y most → min (x * n) most ≡ min (y * n) most
by_cap x y n some same = by (ltb x most) refl
  where
    by : (b : Bool) → ltb x most ≡ b → min (x * n) most ≡ min (y * n) most
    by true e = let below = ltb-true x most e in let alike : x ≡ y = omega arith in ap (λ z. min (z * n) most) alike
    by false e =
        let above : most ≤ x = ltb-false x most e in
        let more : most ≤ y = omega arith in
        min-eq_right (omega (arith, le-mul_of_pos_right x some)) ∙ sym (min-eq_right (omega (arith, le-mul_of_pos_right y some)))

pub times : (m n : ℕ) → 0 < m → n ≤ m * n
times m n some = subst (λ z. n ≤ z) (mul_comm n m) (le-mul_of_pos_right n some)

-- what is kept of a count is the count, up to the cap
kept : (count s : ℕ) → 0 < count → min (min (min (count * min s (2 ^ 64 - 1)) (2 ^ 64 - 1)) most) most ≡ min (count * s) most
kept count s some = by (ltb s (2 ^ 64 - 1)) refl
  where
    by : (b : Bool) → ltb s (2 ^ 64 - 1) ≡ b → min (min (min (count * min s (2 ^ 64 - 1)) (2 ^ 64 - 1)) most) most ≡ min (count * s) most
    by true e =
        let small = ltb-true s (2 ^ 64 - 1) e in
        let same : min s (2 ^ 64 - 1) ≡ s = omega arith in
        ap (λ z. min (min (min (count * z) (2 ^ 64 - 1)) most) most) same ∙ capped (count * s)
      where
        capped : (p : ℕ) → min (min (min p (2 ^ 64 - 1)) most) most ≡ min p most
        capped p = omega arith
    by false e =
        let large = ltb-false s (2 ^ 64 - 1) e in
        let same : min s (2 ^ 64 - 1) ≡ 2 ^ 64 - 1 = omega arith in
        ap (λ z. min (min (min (count * z) (2 ^ 64 - 1)) most) most) same
        ∙ omega (arith, times count (2 ^ 64 - 1) some, times count s some)

pub kept_some : (count : ℕ) (dimension : Dimension) → 0 < count → 0 < counted_with count dimension
kept_some count dimension some = omega (arith, times count (min (size dimension) (2 ^ 64 - 1)) some, size_some dimension)

-- the count behind all texts
pub counts : (texts : List (List ℕ)) (count : ℕ) → 0 < count → count ≤ most
    → counted texts count ≡ option_map (λ dimensions. min (count * element_count dimensions) most) (dimensions_from texts)
counts [] count some few = ap Some (sym (ap (λ z. min z most) (mul-one count) ∙ min-eq_left few))
counts (text ∷ texts) count some few = by (dimension_of text) (counts texts)
  where
    with_rest : (dimension : Dimension) (dimensions : Option (List Dimension))
        → option_map (λ ds. min (counted_with count dimension * element_count ds) most) dimensions
        ≡ option_map (λ ds. min (count * element_count ds) most) (before (Some dimension) dimensions)
    with_rest dimension (Some ds) =
        ap Some (by_cap (counted_with count dimension) (count * size dimension) (element_count ds) (count_some ds) (kept count (size dimension) some)
        ∙ ap (λ z. min z most) (mul_assoc count (size dimension) (element_count ds)))
    with_rest dimension None = refl

    by : (o : Option Dimension)
        → ((count : ℕ) → 0 < count → count ≤ most → counted texts count ≡ option_map (λ ds. min (count * element_count ds) most) (dimensions_from texts))
        → counted_on o (counted texts) count ≡ option_map (λ ds. min (count * element_count ds) most) (before o (dimensions_from texts))
    by (Some dimension) rest = rest (counted_with count dimension) (kept_some count dimension some) (min-le_right _ _)
        ∙ with_rest dimension (dimensions_from texts)
    by None rest = refl

-- what is told of the texts
abbrev told : List (List ℕ) → Option ℕ
told texts = option_map (λ dimensions. min (element_count dimensions) most) (dimensions_from texts)

from_one : (texts : List (List ℕ)) → counted texts 1 ≡ told texts
from_one texts = counts texts 1 (omega arith) (omega arith) ∙ by (dimensions_from texts)
  where
    by : (o : Option (List Dimension)) → option_map (λ ds. min (1 * element_count ds) most) o ≡ option_map (λ ds. min (element_count ds) most) o
    by (Some ds) = ap (λ z. Some (min z most)) (one-mul (element_count ds))
    by None = refl

step : (texts : List (List ℕ)) (i count : ℕ) (text : List ℕ) → i < length texts → text ≡ get_or texts i text
    → counted (drop i texts) count ≡ counted_on (dimension_of text) (counted (drop (i + 1) texts)) count
step texts i count text within is =
    at_drop_more (λ ts. counted ts count) texts i text within ∙ ap (λ t. counted_on (dimension_of t) (counted (drop (i + 1) texts)) count) (sym is)

-- a text that is no dimension ends the count
pub refused_at : (texts : List (List ℕ)) (i count : ℕ) (text : List ℕ) → (i < length texts) × (text ≡ get_or texts i text) → None ≡ dimension_of text
    → counted (drop i texts) count ≡ counted texts 1 → None ≡ told texts
refused_at texts i count text t none so_far =
    ap (λ o. counted_on o (counted (drop (i + 1) texts)) count) none ∙ sym (step texts i count text t.0 t.1) ∙ so_far ∙ from_one texts

-- and one that is a dimension goes on with it
pub counted_at : (texts : List (List ℕ)) (i count : ℕ) (text : List ℕ) (dimension : Dimension) → (i < length texts) × (text ≡ get_or texts i text)
    → Some dimension ≡ dimension_of text
    → counted (drop i texts) count ≡ counted texts 1 → counted (drop (i + 1) texts) (counted_with count dimension) ≡ counted texts 1
counted_at texts i count text dimension t some so_far =
    ap (λ o. counted_on o (counted (drop (i + 1) texts)) count) some ∙ sym (step texts i count text t.0 t.1) ∙ so_far

-- behind the last text the count is the whole
pub counted_all : (texts : List (List ℕ)) (i count : ℕ) → length texts ≤ i → counted (drop i texts) count ≡ counted texts 1 → Some count ≡ told texts
counted_all texts i count all so_far = sym (at_drop_all (λ ts. counted ts count) texts i all) ∙ so_far ∙ from_one texts

-- the dimensions, where each text is one
pub all_read : (texts : List (List ℕ)) (dimensions : List Dimension) → dimensions_from texts ≡ Some dimensions → filter_map dimension_of texts ≡ dimensions
all_read [] dimensions e = cc
all_read (text ∷ texts) dimensions e = by (dimension_of text) (dimensions_from texts) (all_read texts) e
  where
    by : (first : Option Dimension) (rest : Option (List Dimension)) → ((ds : List Dimension) → rest ≡ Some ds → filter_map dimension_of texts ≡ ds)
        → before first rest ≡ Some dimensions → cons_option first (filter_map dimension_of texts) ≡ dimensions
    by (Some d) (Some ds) more h = let same : d ∷ ds ≡ dimensions = cc in ap (λ xs. d ∷ xs) (more ds refl) ∙ same
    by (Some d) None more h = absurd (cc)
    by None rest more h = absurd (cc)

-- the dimensions so far, and those of the texts that are left
read_at : (texts : List (List ℕ)) (i n : ℕ) (text : List ℕ) (so_far : List Dimension) (o : Option Dimension) → (i < length texts) × (text ≡ get_or texts i text)
    → o ≡ dimension_of text → n ≡ i + 1
    → so_far ++ filter_map dimension_of (drop i texts) ≡ filter_map dimension_of texts
    → so_far ++ cons_option o (filter_map dimension_of (drop n texts)) ≡ filter_map dimension_of texts
read_at texts i n text so_far o t is next all =
    (λ k. so_far ++ cons_option ((is ∙ ap dimension_of t.1) k) (filter_map dimension_of (drop (next k) texts)))
    ∙ sym (ap (λ ds. so_far ++ ds) (at_drop_more (filter_map dimension_of) texts i text t.0)) ∙ all

pub read_more : (texts : List (List ℕ)) (i n : ℕ) (text : List ℕ) (so_far now : List Dimension) (dimension : Dimension) → (i < length texts)
    × (text ≡ get_or texts i text) → Some dimension ≡ dimension_of text → n ≡ i + 1
    → now ≡ so_far ++ dimension ∷ [] → so_far ++ filter_map dimension_of (drop i texts) ≡ filter_map dimension_of texts
    → now ++ filter_map dimension_of (drop n texts) ≡ filter_map dimension_of texts
read_more texts i n text so_far now dimension t is next pushed all =
    ap (λ ds. ds ++ filter_map dimension_of (drop n texts)) pushed ∙ append_assoc so_far (dimension ∷ []) (filter_map dimension_of (drop n texts))
    ∙ read_at texts i n text so_far (Some dimension) t is next all

pub read_none : (texts : List (List ℕ)) (i n : ℕ) (text : List ℕ) (so_far : List Dimension) → (i < length texts) × (text ≡ get_or texts i text)
    → None ≡ dimension_of text → n ≡ i + 1
    → so_far ++ filter_map dimension_of (drop i texts) ≡ filter_map dimension_of texts
    → so_far ++ filter_map dimension_of (drop n texts) ≡ filter_map dimension_of texts
read_none texts i n text so_far t is next all = read_at texts i n text so_far None t is next all

pub read_all : (texts : List (List ℕ)) (i : ℕ) (so_far : List Dimension) → length texts ≤ i → so_far ++ filter_map dimension_of (drop i texts)
    ≡ filter_map dimension_of texts
    → so_far ≡ filter_map dimension_of texts
read_all texts i so_far end all = sym (append-nil so_far) ∙ sym (ap (λ ds. so_far ++ ds) (at_drop_all (filter_map dimension_of) texts i end)) ∙ all

-- the dimensions that are read, of a prototype with so many elements
pub read_whole : (texts : List (List ℕ)) (dimensions : List Dimension) (count : ℕ) → dimensions ≡ filter_map dimension_of texts
    → option_map element_count (dimensions_from texts) ≡ Some count
    → (dimensions_from texts ≡ Some dimensions) × (element_count dimensions ≡ count)
read_whole texts dimensions count read e = by (dimensions_from texts) refl e
  where
    by : (o : Option (List Dimension)) → dimensions_from texts ≡ o → option_map element_count o ≡ Some count → (dimensions_from texts ≡ Some dimensions)
        × (element_count dimensions ≡ count)
    by (Some ds) is h =
        let all : dimensions ≡ ds = read ∙ all_read texts ds is in
        let same : element_count ds ≡ count = cc in
        (is ∙ ap Some (sym all), ap element_count all ∙ same)
    by None is h = absurd (cc)

-- an array of n rows of two has 2 n elements
pub rows_count : (n : ℕ) → 0 < n → element_count (up_to n ∷ up_to 2 ∷ []) ≡ 2 * n
rows_count n some = by (size (up_to n)) (omega (arith, ints))
  where
    by : (s : ℕ) → s ≡ n → s * (2 * 1) ≡ 2 * n
    by s e = omega arith
