-- What each part begins with, and which operator follows an operand.
use Rattle.std.proofs.Common.{◌≡◌, ℕ, ◌+◌, ◌⊎◌, inl, inr, true, false, List, arith, add_assoc, refl, ◌∙◌, Some, None}
use Rattle.std.proofs.lemmas.Bool.{cases_lt, cases_Bool}
use Rattle.std.proofs.lemmas.Bool.Decides.{nat_tests}
use Rattle.sno_text.specs.declared.bytes.Class.TheVariants.{UnarySign}
use Rattle.sno_text.specs.declared.node.Operator.TheVariants.{Power}
use Rattle.sno_text.specs.Bytes.{byte, is_blank, is_letter, is_digit, is_unary, is_first, can_start}
use Rattle.sno_text.specs.Trees.{Tree}
use Rattle.sno_text.specs.Grammar.{Nonterminal, Level, Rest, Element, Primary, Reads, chain, operand, done, left, right, signed, plain, variable, integer}
use Rattle.sno_text.specs.Grammar.{literal}
use Rattle.sno_text.specs.Grammar.{keyword, group, apply, arguments, last, next, empty, given, Arguments, More, Argument}
use Rattle.sno_text.specs.inner.Links.{Starts, single, sign_of, sign_at}
use Rattle.sno_text.proofs.Runs.{run_none}

pub letter_is_first : (b : ℕ) → is_letter b ≡ true → is_first b ≡ true
unfolding is_first
letter_is_first b h = rw h refl

pub digit_is_first : (b : ℕ) → is_digit b ≡ true → is_first b ≡ true
unfolding is_first
digit_is_first b h = elim (cases_Bool (is_letter b)) [ inl l ↦ rw l refl | inr l ↦ rw (l, h) refl ]

pub first_not_unary : (b : ℕ) → is_first b ≡ true → is_unary b ≡ true → ⊥
unfolding is_first is_unary is_letter is_digit
first_not_unary b h u = grind (arith, nat_tests)

pub first_not_blank : (b : ℕ) → is_first b ≡ true → is_blank b ≡ true → ⊥
unfolding is_first is_blank is_letter is_digit
first_not_blank b h u = grind (arith, nat_tests)

pub unary_not_blank : (b : ℕ) → is_unary b ≡ true → is_blank b ≡ true → ⊥
unfolding is_unary is_blank
unary_not_blank b h u = grind (arith, nat_tests)

pub letter_not_digit : (b : ℕ) → is_letter b ≡ true → is_digit b ≡ true → ⊥
unfolding is_letter is_digit
letter_not_digit b h u = grind (arith, nat_tests)

abbrev pub Begins : Nonterminal → List ℕ → ℕ → Type 0
Begins (Level l) s i = Starts s i
Begins (Rest l u) s i = Unit {0}
Begins Element s i = Starts s i
Begins Primary s i = Starts s i
Begins Arguments s i = Unit {0}
Begins (More u) s i = Unit {0}
Begins Argument s i = Unit {0}

starts_first : (s : List ℕ) (i : ℕ) → is_first (byte s i) ≡ true → Starts s i
starts_first s i h = record { at = i; signs = run_none UnarySign s i; first = h }

quote_is_first : (b : ℕ) → (b ≡ 39) ⊎ (b ≡ 34) → is_first b ≡ true
unfolding is_first is_letter is_digit
quote_is_first b (inl e) = rw e refl
quote_is_first b (inr e) = rw e refl

ampersand_is_first : (b : ℕ) → b ≡ 38 → is_first b ≡ true
unfolding is_first is_letter is_digit
ampersand_is_first b e = rw e refl

bracket_is_first : (b : ℕ) → b ≡ 40 → is_first b ≡ true
unfolding is_first is_letter is_digit
bracket_is_first b e = rw e refl

sign_before : (s : List ℕ) (i : ℕ) → is_unary (byte s i) ≡ true → Starts s (i + 1) → Starts s i
sign_before s i h r = record {
  at = r.at;
  signs = record {
    order = let o = r.signs.order in omega arith;
    each = λ k low high. elim (cases_lt i k) [
      | inl lt ↦ r.signs.each k (omega arith) high
      | inr ge ↦ let e : i ≡ k = omega arith in rw e at h
    ];
  };
  first = r.first;
}

pub reads_start : {s : List ℕ} {p : Nonterminal} {i j : ℕ} {t : Tree} → Reads s p i j t → Begins p s i
reads_start (chain h a b) = reads_start a
reads_start (operand h a) = reads_start a
reads_start (done e f) = tt
reads_start (left a b c d e) = tt
reads_start (right a b c d) = tt
reads_start {s} {i} (signed h a e) = sign_before s i h (reads_start a)
reads_start (plain a) = reads_start a
reads_start {s} {i} (variable n e) = starts_first s i (letter_is_first _ n.letter)
reads_start {s} {i} (integer n e) = starts_first s i (digit_is_first _ (n.digits.run.each i (omega arith) n.some))
reads_start {s} {i} (literal n e) = starts_first s i (quote_is_first _ n.quote)
reads_start {s} {i} (keyword h n e) = starts_first s i (ampersand_is_first _ h)
reads_start {s} {i} (group h a b c d e) = starts_first s i (bracket_is_first _ h)
reads_start {s} {i} (apply n a b c d) = starts_first s i (letter_is_first _ n.letter)
reads_start (arguments a b) = tt
reads_start (last a b) = tt
reads_start (next a b c) = tt
reads_start (empty a b) = tt
reads_start (given a b c) = tt

pub primary_is_first : {s : List ℕ} {i j : ℕ} {t : Tree} → Reads s Primary i j t → is_first (byte s i) ≡ true
primary_is_first (variable n e) = letter_is_first _ n.letter
primary_is_first {s} {i} (integer n e) = digit_is_first _ (n.digits.run.each i (omega arith) n.some)
primary_is_first (literal n e) = quote_is_first _ n.quote
primary_is_first (keyword h n e) = ampersand_is_first _ h
primary_is_first (group h a b c d e) = bracket_is_first _ h
primary_is_first (apply n a b c d) = letter_is_first _ n.letter

-- an element begins with no blank
pub start_not_blank : (s : List ℕ) (i : ℕ) → Starts s i → is_blank (byte s i) ≡ true → ⊥
start_not_blank s i r h =
    elim (cases_lt i r.at) [
      | inl lt ↦ unary_not_blank _ (r.signs.each i (omega arith) lt) h
      | inr ge ↦
          let o = r.signs.order in
          let e : r.at ≡ i = omega arith in
          first_not_blank _ (rw e at r.first) h
    ]

-- what follows a sign is a start too, so no blank
pub start_after_sign : (s : List ℕ) (i : ℕ) → Starts s i → is_unary (byte s i) ≡ true → Starts s (i + 1)
start_after_sign s i r h =
    elim (cases_lt i r.at) [
      | inl lt ↦ record { at = r.at; signs = record { order = omega arith; each = λ k low high. r.signs.each k (omega arith) high }; first = r.first }
      | inr ge ↦
          let o = r.signs.order in
          let e : r.at ≡ i = omega arith in
          absurd (first_not_unary _ (rw e at r.first) h)
    ]

pub start_can_start : (s : List ℕ) (i : ℕ) → Starts s i → can_start (byte s i) ≡ true
unfolding can_start
start_can_start s i r =
    elim (cases_lt i r.at) [
      | inl lt ↦ rw (r.signs.each i (omega arith) lt) refl
      | inr ge ↦
          let o = r.signs.order in
          let e : r.at ≡ i = omega arith in
          elim (cases_Bool (is_unary (byte s i))) [ inl u ↦ rw u refl | inr u ↦ rw (u, (rw e at r.first)) refl ]
    ]

-- a byte is the first of a primary, or unary, where an element starts
pub start_cases : (s : List ℕ) (i : ℕ) → Starts s i → (is_first (byte s i) ≡ true) ⊎ (is_unary (byte s i) ≡ true)
start_cases s i r =
    elim (cases_lt i r.at) [
      | inl lt ↦ inr (r.signs.each i (omega arith) lt)
      | inr ge ↦ let o = r.signs.order in let e : r.at ≡ i = omega arith in inl (rw e at r.first)
    ]

-- a byte that a primary begins with is no sign between blanks
pub first_no_sign : (b : ℕ) → is_first b ≡ true → single b ≡ None
unfolding single is_first is_letter is_digit
first_no_sign b h = grind (arith, nat_tests)

star_not_first : (b : ℕ) → b ≡ 42 → is_first b ≡ true → ⊥
unfolding is_first is_letter is_digit
star_not_first b e h = let f : is_first 42 ≡ true = rw e at h in cc

star_is_unary : (b : ℕ) → b ≡ 42 → is_unary b ≡ true
unfolding is_unary
star_is_unary b e = rw e refl

pub sign_of-blank : (a b c : ℕ) → is_blank b ≡ true → sign_of a b c ≡ single a
unfolding sign_of
sign_of-blank a b c h = rw h refl

pub sign_of-power : (a b c : ℕ) → a ≡ 42 → b ≡ 42 → is_blank c ≡ true → sign_of a b c ≡ Some Power
unfolding sign_of is_blank
sign_of-power a b c d e h = rw (d, e, h) refl

-- not blank, and not the sign of a power: no sign
pub sign_of-none : (a b c : ℕ) → is_blank b ≡ false → (a ≡ 42 → b ≡ 42 → is_blank c ≡ true → ⊥) → sign_of a b c ≡ None
unfolding sign_of
sign_of-none a b c h never = rw h (grind (arith, nat_tests, never))

-- where an element starts, no operator's sign stands
pub start_no_sign : (s : List ℕ) (i : ℕ) → Starts s i → sign_at s i ≡ None
start_no_sign s i r =
    elim (cases_Bool (is_blank (byte s (i + 1)))) [
      | inl h ↦ sign_of-blank (byte s i) (byte s (i + 1)) (byte s (i + 2)) h ∙ elim (start_cases s i r) [
        | inl f ↦ first_no_sign _ f
        | inr u ↦ absurd (start_not_blank s (i + 1) (start_after_sign s i r u) h)
      ]
      | inr h ↦ sign_of-none (byte s i) (byte s (i + 1)) (byte s (i + 2)) h (λ d e b.
          let one = start_after_sign s i r (star_is_unary _ d) in
          let two = start_after_sign s (i + 1) one (star_is_unary _ e) in
          let two' : Starts s (i + 2) = rw add_assoc at two in
          start_not_blank s (i + 2) two' b)
    ]
