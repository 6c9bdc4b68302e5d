-- Which operator follows an operand: the grammar's Joins and the reader's Links are one, where an element starts.
use Rattle.std.proofs.Common.{◌≡◌, ◌≢◌, ℕ, ◌+◌, ◌<◌, inl, inr, true, false, List, length, arith, refl, sym, ◌∙◌, subst, Some, None, Option}
use Rattle.std.proofs.lemmas.Bool.{cases_lt, cases_Bool, false_from_ne_true}
use Rattle.std.proofs.lemmas.Bool.Decides.{nat_tests}
use Rattle.sno_text.specs.declared.bytes.Class.TheVariants.{Blank}
use Rattle.sno_text.specs.declared.node.Operator.{Operator}
use Rattle.sno_text.specs.declared.node.Operator.TheVariants.{Alternate, Concatenate, Add, Subtract, Divide, Multiply, Power, Conditional, Immediate}
use Rattle.sno_text.specs.Bytes.{byte, is_blank, can_start, IsRun, IsWholeRun}
use Rattle.sno_text.specs.Grammar.{IsBlanks, IsSign, Joins}
use Rattle.sno_text.specs.inner.Links.{Starts, single, sign_of, sign_at, width, Lands, Links, NoLink}
use Rattle.sno_text.proofs.Runs.{run_end_unique, in_text}
use Rattle.sno_text.proofs.Starts.{start_not_blank, start_can_start, start_no_sign, sign_of-blank, sign_of-power}

-- blanks that end where an element starts are taken as long as they go
whole : (s : List ℕ) (i j : ℕ) → IsRun Blank s i j → Starts s j → IsWholeRun Blank s i j
whole s i j r h = record { run = r; stop = false_from_ne_true _ (start_not_blank s j h) }

-- blanks before a byte that is none
sign_not_blank : (b : ℕ) (o : Operator) → single b ≡ Some o → is_blank b ≡ false
unfolding single is_blank
sign_not_blank b o e = grind (arith, nat_tests)

-- one byte of sign between blanks
one_byte : (s : List ℕ) (o : Operator) (i j k l : ℕ) → single (byte s k) ≡ Some o → width o ≡ 1 →
    IsBlanks s i k → l ≡ k + 1 → IsBlanks s l j → Starts s j → Links s o i j
one_byte s o i j k l e w before at after start =
    let blank : is_blank (byte s (k + 1)) ≡ true = rw at at (after.run.each l (omega arith) after.some) in
    let sign : sign_at s k ≡ Some o = sign_of-blank (byte s k) (byte s (k + 1)) (byte s (k + 2)) blank ∙ e in
    let run : IsRun Blank s (k + width o) j = rw (w, ← at) after.run in
    record {
      at = k;
      some = before.some;
      blanks = record { run = before.run; stop = sign_not_blank _ o e };
      lands = rw sign (refl, whole s _ j run start);
    }

star_not_blank : (b : ℕ) → b ≡ 42 → is_blank b ≡ false
unfolding is_blank
star_not_blank b e = rw e refl

two_bytes : (s : List ℕ) (i j k l : ℕ) → byte s k ≡ 42 → byte s (k + 1) ≡ 42 → IsBlanks s i k → l ≡ k + 2 → IsBlanks s l j → Starts s j → Links s Power i j
two_bytes s i j k l d e before at after start =
    let blank : is_blank (byte s (k + 2)) ≡ true = rw at at (after.run.each l (omega arith) after.some) in
    let sign : sign_at s k ≡ Some Power = sign_of-power (byte s k) (byte s (k + 1)) (byte s (k + 2)) d e blank in
    let run : IsRun Blank s (k + 2) j = rw (← at) after.run in
    record {
      at = k;
      some = before.some;
      blanks = record { run = before.run; stop = star_not_blank _ d };
      lands = rw sign (refl, whole s _ j run start);
    }

single_of : (b n : ℕ) (o : Operator) → b ≡ n → single n ≡ Some o → single b ≡ Some o
single_of b n o e h = rw e h

pub joins_link : (s : List ℕ) (o : Operator) (i j : ℕ) → Joins s o i j → Starts s j → Links s o i j
unfolding single
joins_link s Alternate i j (k, l, a, b, c) start = one_byte s Alternate i j k l (single_of _ 124 Alternate b.0 refl) refl a b.1 c start
joins_link s Concatenate i j a start = record {
  at = j;
  some = a.some;
  blanks = whole s i j a.run start;
  lands = rw (start_no_sign s j start) (refl, refl, start_can_start s j start);
}
joins_link s Add i j (k, l, a, b, c) start = one_byte s Add i j k l (single_of _ 43 Add b.0 refl) refl a b.1 c start
joins_link s Subtract i j (k, l, a, b, c) start = one_byte s Subtract i j k l (single_of _ 45 Subtract b.0 refl) refl a b.1 c start
joins_link s Divide i j (k, l, a, b, c) start = one_byte s Divide i j k l (single_of _ 47 Divide b.0 refl) refl a b.1 c start
joins_link s Multiply i j (k, l, a, b, c) start = one_byte s Multiply i j k l (single_of _ 42 Multiply b.0 refl) refl a b.1 c start
joins_link s Power i j (k, l, a, b, c) start = two_bytes s i j k l b.0 b.1 a b.2 c start
joins_link s Conditional i j (k, l, a, b, c) start = one_byte s Conditional i j k l (single_of _ 46 Conditional b.0 refl) refl a b.1 c start
joins_link s Immediate i j (k, l, a, b, c) start = one_byte s Immediate i j k l (single_of _ 36 Immediate b.0 refl) refl a b.1 c start

lands_unique : (s : List ℕ) (k : ℕ) (sign : Option Operator) (o p : Operator) (l m : ℕ) → Lands s k sign o l → Lands s k sign p m → (o ≡ p) × (l ≡ m)
lands_unique s k (Some q) o p l m a b = (a.0 ∙ sym b.0, run_end_unique Blank s (k + width q) l m a.1 b.1)
lands_unique s k None o p l m a b = (a.0 ∙ sym b.0, a.1 ∙ sym b.1)

-- one operator follows, and one operand behind it
pub link_unique : (s : List ℕ) (o p : Operator) (i l m : ℕ) → Links s o i l → Links s p i m → (o ≡ p) × (l ≡ m)
link_unique s o p i l m a b =
    let e : b.at ≡ a.at = run_end_unique Blank s i b.at a.at b.blanks a.blanks in
    lands_unique s a.at (sign_at s a.at) o p l m a.lands (subst (λ k. Lands s k (sign_at s k) p m) e b.lands)

-- what the byte a is where it is a sign
single_is : (s : List ℕ) (o : Operator) (k : ℕ) → single (byte s k) ≡ Some o → (o ≢ Concatenate) × (o ≢ Power) × IsSign s o k (k + 1)
unfolding single
single_is s Alternate k e = grind (arith, nat_tests)
single_is s Concatenate k e = grind (arith, nat_tests)
single_is s Add k e = grind (arith, nat_tests)
single_is s Subtract k e = grind (arith, nat_tests)
single_is s Divide k e = grind (arith, nat_tests)
single_is s Multiply k e = grind (arith, nat_tests)
single_is s Power k e = grind (arith, nat_tests)
single_is s Conditional k e = grind (arith, nat_tests)
single_is s Immediate k e = grind (arith, nat_tests)

pub record IsSignBetween (s : List ℕ) (o : Operator) (k : ℕ) : Type 0 where
  pub no_concatenation : o ≢ Concatenate
  pub sign : IsSign s o k (k + width o)
  pub blank : is_blank (byte s (k + width o)) ≡ true
  pub not_blank : is_blank (byte s k) ≡ false

width_one : (o : Operator) → o ≢ Power → width o ≡ 1
width_one Alternate h = refl
width_one Concatenate h = refl
width_one Add h = refl
width_one Subtract h = refl
width_one Divide h = refl
width_one Multiply h = refl
width_one Power h = absurd (h refl)
width_one Conditional h = refl
width_one Immediate h = refl

power_is : (a b c : ℕ) (o : Operator) → is_blank b ≡ false → sign_of a b c ≡ Some o → (a ≡ 42) × (b ≡ 42) × (is_blank c ≡ true) × (o ≡ Power)
unfolding sign_of
power_is a b c o h e = grind (arith, nat_tests)

power_no_concatenation : Power ≢ Concatenate
power_no_concatenation e = cc

pub sign_between : (s : List ℕ) (o : Operator) (k : ℕ) → sign_at s k ≡ Some o → IsSignBetween s o k
sign_between s o k e =
    elim (cases_Bool (is_blank (byte s (k + 1)))) [
      | inl h ↦
          let one : single (byte s k) ≡ Some o = sym (sign_of-blank (byte s k) (byte s (k + 1)) (byte s (k + 2)) h) ∙ e in
          let facts = single_is s o k one in
          let w : width o ≡ 1 = width_one o facts.1 in
          record { no_concatenation = facts.0; sign = rw w facts.2; blank = rw w h; not_blank = sign_not_blank _ o one }
      | inr h ↦
          let facts = power_is (byte s k) (byte s (k + 1)) (byte s (k + 2)) o h e in
          rw facts.3 (record {
            no_concatenation = power_no_concatenation;
            sign = (facts.0, facts.1, refl);
            blank = facts.2;
            not_blank = star_not_blank _ facts.0;
          })
    ]

blanks_up_to : (s : List ℕ) (i j : ℕ) → IsRun Blank s i j → is_blank (byte s i) ≡ true → is_blank (byte s j) ≡ false → IsBlanks s i j
blanks_up_to s i j r h f =
    elim (cases_lt i j) [
      | inl lt ↦ record { some = lt; run = r }
      | inr ge ↦ let o = r.order in let e : i ≡ j = omega arith in let g : is_blank (byte s j) ≡ true = rw e at h in absurd (cc)
    ]

joins_signed : (s : List ℕ) (o : Operator) (i k l j : ℕ) → o ≢ Concatenate → IsBlanks s i k → IsSign s o k l → IsBlanks s l j → Joins s o i j
joins_signed s Alternate i k l j h a b c = (k, l, a, b, c)
joins_signed s Concatenate i k l j h a b c = absurd (h refl)
joins_signed s Add i k l j h a b c = (k, l, a, b, c)
joins_signed s Subtract i k l j h a b c = (k, l, a, b, c)
joins_signed s Divide i k l j h a b c = (k, l, a, b, c)
joins_signed s Multiply i k l j h a b c = (k, l, a, b, c)
joins_signed s Power i k l j h a b c = (k, l, a, b, c)
joins_signed s Conditional i k l j h a b c = (k, l, a, b, c)
joins_signed s Immediate i k l j h a b c = (k, l, a, b, c)

concatenates : (s : List ℕ) (o : Operator) (i j : ℕ) → o ≡ Concatenate → IsBlanks s i j → Joins s o i j
concatenates s o i j e a = rw e a

lands_joins : (s : List ℕ) (sign : Option Operator) (o : Operator) (i k l : ℕ) → sign_at s k ≡ sign → i < k → IsWholeRun Blank s i k
    → Lands s k sign o l → Joins s o i l
lands_joins s None o i k l e h r a = concatenates s o i l a.0 (rw a.1 (record { some = h; run = r.run }))
lands_joins s (Some p) o i k l e h r a =
    let facts = sign_between s p k e in
    rw a.0 (joins_signed s p i k (k + width p) l facts.no_concatenation (record { some = h; run = r.run }) facts.sign
    (blanks_up_to s (k + width p) l a.1.run facts.blank a.1.stop))

pub link_joins : (s : List ℕ) (o : Operator) (i l : ℕ) → Links s o i l → Joins s o i l
link_joins s o i l a = lands_joins s (sign_at s a.at) o i a.at l refl a.some a.blanks a.lands

pub no_link_unmoved : (s : List ℕ) (i j : ℕ) → IsWholeRun Blank s i j → j ≡ i → NoLink s i
no_link_unmoved s i j r e = record {
  none = λ o l a. let f : a.at ≡ j = run_end_unique Blank s i a.at j a.blanks r in let g = a.some in absurd (omega arith);
}

pub sign_within : (s : List ℕ) (o : Operator) (k : ℕ) → sign_at s k ≡ Some o → k + width o < length s
sign_within s o k e = in_text Blank s (k + width o) (sign_between s o k e).blank

pub link_sign : (s : List ℕ) (o : Operator) (i k l : ℕ) → IsWholeRun Blank s i k → k ≢ i → sign_at s k ≡ Some o
    → IsWholeRun Blank s (k + width o) l → Links s o i l
link_sign s o i k l r h e t = let order = r.run.order in record { at = k; some = omega arith; blanks = r; lands = rw e (refl, t) }

pub link_start : (s : List ℕ) (i k : ℕ) → IsWholeRun Blank s i k → k ≢ i → sign_at s k ≡ None → can_start (byte s k) ≡ true → Links s Concatenate i k
link_start s i k r h e t = let order = r.run.order in record { at = k; some = omega arith; blanks = r; lands = rw e (refl, refl, t) }

lands_nowhere : (s : List ℕ) (k : ℕ) (sign : Option Operator) (o : Operator) (l : ℕ) → sign ≡ None → can_start (byte s k) ≡ false → Lands s k sign o l → ⊥
lands_nowhere s k None o l e h a = let f = a.2 in cc
lands_nowhere s k (Some p) o l e h a = cc

pub no_link_here : (s : List ℕ) (i k : ℕ) → IsWholeRun Blank s i k → sign_at s k ≡ None → can_start (byte s k) ≡ false → NoLink s i
no_link_here s i k r e h = record {
  none = λ o l a.
      let f : a.at ≡ k = run_end_unique Blank s i a.at k a.blanks r in
      lands_nowhere s k (sign_at s k) o l e h (subst (λ x. Lands s x (sign_at s x) o l) f a.lands);
}

pub width_some : (o : Operator) → 0 < width o
width_some Alternate = omega arith
width_some Concatenate = omega arith
width_some Add = omega arith
width_some Subtract = omega arith
width_some Divide = omega arith
width_some Multiply = omega arith
width_some Power = omega arith
width_some Conditional = omega arith
width_some Immediate = omega arith

pub ruleset link_facts = (no_link_unmoved, sign_within, link_sign, link_start, no_link_here, width_some)
