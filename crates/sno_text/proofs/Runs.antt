-- Runs of bytes of a class.
use Rattle.std.proofs.Common.{◌≡◌, ℕ, ◌+◌, ◌<◌, inl, inr, true, false, List, length, get_or, arith, refl}
use Rattle.std.proofs.lemmas.Bool.{cases_lt, cases_order}
use Rattle.std.proofs.lemmas.List.{get_or_past}
use Rattle.sno_text.specs.declared.bytes.Class.{Class}
use Rattle.sno_text.specs.declared.bytes.Class.TheVariants.{Blank, NameByte, Digit, Letter, UnarySign, Opening, Start, Closing}
use Rattle.sno_text.specs.Bytes.{byte, in_class, is_blank, is_letter, is_digit, is_name_byte, is_unary, is_first, is_opening, is_closing, can_start, IsRun}
use Rattle.sno_text.specs.Bytes.{IsWholeRun}

-- 0 is of no class
pub zero_in_no_class : (c : Class) → in_class c 0 ≡ false
unfolding is_blank is_letter is_digit is_name_byte is_unary is_first is_opening is_closing can_start
zero_in_no_class Blank = refl
zero_in_no_class NameByte = refl
zero_in_no_class Digit = refl
zero_in_no_class Letter = refl
zero_in_no_class UnarySign = refl
zero_in_no_class Opening = refl
zero_in_no_class Start = refl
zero_in_no_class Closing = refl

-- a byte of a class stands in the text
pub in_text : (c : Class) (s : List ℕ) (k : ℕ) → in_class c (byte s k) ≡ true → k < length s
in_text c s k h =
    elim (cases_lt k (length s)) [
      | inl lt ↦ lt
      | inr past ↦
          let zero : get_or s k 0 ≡ 0 = get_or_past s k 0 past in
          let no = zero_in_no_class c in
          let yes : in_class c 0 ≡ true = rw zero at h in
          absurd (cc)
    ]

-- one more byte of a run
pub run_more : (c : Class) (s : List ℕ) (i j : ℕ) → IsRun c s i j → in_class c (byte s j) ≡ true → IsRun c s i (j + 1)
run_more c s i j r h = record {
  order = let o = r.order in omega arith;
  each = λ k low high. elim (cases_lt k j) [
    | inl lt ↦ r.each k low lt
    | inr ge ↦ let e : j ≡ k = omega arith in rw e at h
  ];
}

pub run_none : (c : Class) (s : List ℕ) (i : ℕ) → IsRun c s i i
run_none c s i = record { order = omega arith; each = λ k low high. absurd (omega arith) }

-- a run that is taken as long as it goes has one end
pub run_end_unique : (c : Class) (s : List ℕ) (i j k : ℕ) → IsWholeRun c s i j → IsWholeRun c s i k → j ≡ k
run_end_unique c s i j k a b =
    elim (cases_order j k) [
      | inl e ↦ e
      | inr (inl lt) ↦ let yes = b.run.each j a.run.order lt in let no = a.stop in absurd (cc)
      | inr (inr gt) ↦ let yes = a.run.each k b.run.order gt in let no = b.stop in absurd (cc)
    ]

pub ruleset run_facts = (in_text, run_more, run_none)
