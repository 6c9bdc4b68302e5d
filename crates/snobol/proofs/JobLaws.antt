-- The report of a job whose program is refused, and a line that is written in parts.
use Rattle.std.proofs.Common.{◌≡◌, ◌≢◌, ◌⊎◌, ℕ, ◌+◌, ◌^◌, ◌/◌, ◌%◌, ◌<◌, ◌≤◌, List, [], ◌∷◌, Option, Result, Err, ◌++◌, ap, append_assoc, decimal, inl, inr}
use Rattle.std.proofs.Common.{refl, subst, sym, ◌∙◌}
use Rattle.std.proofs.lemmas.Fmt.{decimal_digit, decimal_step}
use Rattle.std.specs.Io.KnownBytes.{Appends}
use Rattle.sno_io.specs.Devices.{Begins, TakesBytes}
use Rattle.sno_io.proofs.Bytes.{appends_then}
use Rattle.sno_text.specs.declared.error.ReadError.{ReadError}
use Rattle.sno_text.specs.declared.error.ReadError.TheVariants as why
use Rattle.sno_text.specs.Programs.{IsRefusedProgram, LacksMemory}
use Rattle.snobol.specs.Jobs.{Report, IsChecked, no_memory_is, refused, refused_is, well}

-- no refusal is told as if all were well
some_status : (error : ReadError) → refused error ≢ well
some_status (why.Syntax line code) e = let same = ap (λ (r : Report). r.status) e in absurd (cc)
some_status (why.DuplicateLabel line) e = let same = ap (λ (r : Report). r.status) e in absurd (cc)
some_status why.NoEnd e = let same = ap (λ (r : Report). r.status) e in absurd (cc)
some_status (why.TooLarge line) e = let same = ap (λ (r : Report). r.status) e in absurd (cc)
some_status why.NoMemory e = let same = ap (λ (r : Report). r.status) e in absurd (cc)

-- a text that is no program
pub refusal_checked : (text : List ℕ) (error : ReadError) → LacksMemory text error ⊎ IsRefusedProgram text error
    → IsChecked text (refused error) × (refused error ≢ well)
refusal_checked text error (inl is) = (no_memory_is (ap refused is.0) is.1, some_status error)
refusal_checked text error (inr r) = (refused_is error refl r, some_status error)

-- a beginning of the bytes was taken
abbrev pub Cut : Option (List ℕ) → Option (List ℕ) → List ℕ → Type 0
Cut old new bytes = (part : List ℕ) × Begins part bytes × Appends old new part

-- cut off in the first part
pub cut_first : (a b : Option (List ℕ)) (xs ys : List ℕ) → Cut a b xs → Cut a b (xs ++ ys)
cut_first a b xs ys h = (h.0, (h.1.0 ++ ys, sym (append_assoc h.0 h.1.0 ys) ∙ ap (λ zs. zs ++ ys) h.1.1), h.2)

-- cut off behind it
pub cut_then : (a b c : Option (List ℕ)) (xs ys : List ℕ) → Appends a b xs → Cut b c ys → Cut a c (xs ++ ys)
cut_then a b c xs ys h k = (xs ++ k.0, (k.1.0, append_assoc xs k.0 k.1.0 ∙ ap (λ zs. xs ++ zs) k.1.1), appends_then a b c xs k.0 h k.2)

-- what a call that was cut off says of the bytes
pub cut_taken : {E : Type 0} (a b : Option (List ℕ)) (r : Result Unit E) (e : E) (bytes : List ℕ) → r ≡ Err e → Cut a b bytes → TakesBytes a b r bytes
cut_taken a b r e bytes is h = rw is h

-- the digits of a number, of which the last stands behind those of a tenth of it
pub cut_in_tenth : (a b : Option (List ℕ)) (n : ℕ) → 10 ≤ n → n < 2 ^ 64 → Cut a b (decimal (n / 10)) → Cut a b (decimal n)
cut_in_tenth a b n large fits h = subst (λ zs. Cut a b zs) (sym (decimal_step n large fits)) (cut_first a b (decimal (n / 10)) ((48 + n % 10) ∷ []) h)

pub cut_in_digit : (a b c : Option (List ℕ)) (n : ℕ) → 10 ≤ n → n < 2 ^ 64 → Appends a b (decimal (n / 10)) → Cut b c ((48 + n % 10) ∷ []) → Cut a c (decimal n)
cut_in_digit a b c n large fits h k = subst (λ zs. Cut a c zs) (sym (decimal_step n large fits)) (cut_then a b c (decimal (n / 10)) ((48 + n % 10) ∷ []) h k)

pub all_digits : (a b c : Option (List ℕ)) (n : ℕ) → 10 ≤ n → n < 2 ^ 64 → Appends a b (decimal (n / 10)) → Appends b c ((48 + n % 10) ∷ [])
    → Appends a c (decimal n)
all_digits a b c n large fits h k =
    subst (λ zs. Appends a c zs) (sym (decimal_step n large fits)) (appends_then a b c (decimal (n / 10)) ((48 + n % 10) ∷ []) h k)

pub cut_alone : (a b : Option (List ℕ)) (n : ℕ) → n < 10 → Cut a b ((48 + n) ∷ []) → Cut a b (decimal n)
cut_alone a b n small h = subst (λ zs. Cut a b zs) (sym (decimal_digit n small)) h

pub alone : (a b : Option (List ℕ)) (n : ℕ) → n < 10 → Appends a b ((48 + n) ∷ []) → Appends a b (decimal n)
alone a b n small h = subst (λ zs. Appends a b zs) (sym (decimal_digit n small)) h
