-- What `clap`'s matches hold, by the rows that it finds in the words.
use Rattle.std.proofs.Common.{◌≡◌, ℕ, ◌<◌, ◌≤◌, ◌^◌, true, false, List, Option, None, Some, is_some, refl, sym, ◌∙◌, ap, arith}
use Rattle.std.specs.Prelude.{option_map, option_and_then, slice_get}
use Rattle.std.specs.Str.Parse.{IsNumeral, digits_value, without_leading_plus}
use Rattle.clap.specs.declared.parser.matches.Found.{Found}
use Rattle.clap.specs.declared.parser.matches.MatchedArg.{MatchedArg}
use Rattle.clap.specs.Words.{Row, Text, first_of, first_value, matched_of, one_of, one_text, read_as, rows_of}
use Rattle.clap.proofs.WalkLemmas.{one_text-rows, first_value-rows}
use Rattle.sno_io.specs.Commands.{IsNumber}

-- the text that was read is the first of its row
pub text_found : {B : Type 0} (now : B → Text) (f : Found) (id : Text) (o : Option B) (b : B) → option_map now o ≡ first_value f id → o ≡ Some b
    → first_of id (rows_of f) ≡ Some (now b)
text_found now f id o b e g = sym (first_value-rows f id) ∙ sym e ∙ ap (λ x. option_map now x) g

-- and where none was read there is no row
pub text_missing : {B : Type 0} (now : B → Text) (f : Found) (id : Text) (o : Option B) → option_map now o ≡ first_value f id → o ≡ None
    → first_of id (rows_of f) ≡ None
text_missing now f id o e g = sym (first_value-rows f id) ∙ sym e ∙ ap (λ x. option_map now x) g

-- what is said of the text in a match is said of that in the rows
pub row_text_found : (f : Found) (id : Text) (o : Option Text) (A : Type 0) → (one_text f id ≡ o → A) → one_of id (rows_of f) ≡ o → A
row_text_found f id o A h e = h (one_text-rows f id ∙ e)

-- the two texts of a match are there together
mapped_alike : {A B C : Type 0} (g : A → B) (h : A → C) (o : Option A) → is_some (option_map g o) ≡ is_some (option_map h o)
mapped_alike g h None = refl
mapped_alike g h (Some a) = refl

then_alike : {A B C : Type 0} (g : A → Option B) (h : A → Option C) (o : Option A) → ((a : A) → is_some (g a) ≡ is_some (h a)) → is_some (option_and_then g o)
    ≡ is_some (option_and_then h o)
then_alike g h None e = refl
then_alike g h (Some a) e = e a

texts_alike : (f : Found) (id : Text) → is_some (first_value f id) ≡ is_some (one_text f id)
texts_alike f id =
    then_alike (λ (a : MatchedArg). option_map (λ s. s.now) (slice_get a.vals.items 0))
    (λ (a : MatchedArg). option_map (λ s. read_as a.reading s.now) (slice_get a.vals.items 0)) (matched_of f id)
    (λ (a : MatchedArg). mapped_alike (λ s. s.now) (λ s. read_as a.reading s.now) (slice_get a.vals.items 0))

is_some_mapped : {B C : Type 0} (g : B → C) (o : Option B) → is_some (option_map g o) ≡ is_some o
is_some_mapped g None = refl
is_some_mapped g (Some b) = refl

none_of : {A : Type 0} (o : Option A) → is_some o ≡ false → o ≡ None
none_of None e = refl
none_of (Some a) e = absurd (cc)

some_of : {A : Type 0} (o : Option A) → is_some o ≡ true → (a : A) × (o ≡ Some a)
some_of None e = absurd (cc)
some_of (Some a) e = (a, refl)

module _ {B : Type 0} (now : B → Text) (f : Found) (id : Text) (o : Option B) (read : option_map now o ≡ first_value f id) where
  alike : is_some (one_of id (rows_of f)) ≡ is_some o
  alike = ap is_some (sym (one_text-rows f id)) ∙ sym (texts_alike f id) ∙ ap is_some (sym read) ∙ is_some_mapped now o

  pub is_absent : is_some o ≡ false → one_of id (rows_of f) ≡ None
  is_absent e = none_of (one_of id (rows_of f)) (alike ∙ e)

  pub is_there : is_some o ≡ true → (text : Text) × (one_of id (rows_of f) ≡ Some text) × (one_text f id ≡ Some text)
  is_there e = let s = some_of (one_of id (rows_of f)) (alike ∙ e) in (s.0, s.1, one_text-rows f id ∙ s.1)

module _ (least most default : ℕ) (id : Text) (rows : List Row) where
  pub default_number : one_of id rows ≡ None → least ≤ default → default ≤ most → IsNumber least most default id rows default
  default_number e low high = record { absent = λ _. refl; given = λ text g. absurd (cc); least_holds = low; most_holds = high }

  module _ (text : Text) (there : one_of id rows ≡ Some text) where
    pub read_number : (n : ℕ) → IsNumeral 10 (without_leading_plus text) → n ≡ digits_value 10 (without_leading_plus text) → least ≤ n → n ≤ most
        → IsNumber least most default id rows n
    read_number n digits is low high = record {
      absent = λ e. absurd (cc);
      given = λ other e. let same : text ≡ other = cc in rw (← same) (digits, is);
      least_holds = low;
      most_holds = high;
    }

    pub no_numeral : (IsNumeral 10 (without_leading_plus text) × (digits_value 10 (without_leading_plus text) < 2 ^ 64) → ⊥) → most < 2 ^ 64 → (n : ℕ)
        → IsNumber least most default id rows n → ⊥
    no_numeral refuted small n h = let g = h.given text there in let is = g.1 in let high = h.most_holds in refuted (g.0, omega (arith, is, high))

    pub too_large : (v : ℕ) → v ≡ digits_value 10 (without_leading_plus text) → most < v → (n : ℕ) → IsNumber least most default id rows n → ⊥
    too_large v is large n h = let same = (h.given text there).1 in let high = h.most_holds in absurd (omega (arith, same, high))

    pub too_small : (v : ℕ) → v ≡ digits_value 10 (without_leading_plus text) → v < least → (n : ℕ) → IsNumber least most default id rows n → ⊥
    too_small v is small n h = let same = (h.given text there).1 in let low = h.least_holds in absurd (omega (arith, same, low))
