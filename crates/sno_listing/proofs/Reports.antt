-- What is told of a text.
use Rattle.std.proofs.Common.{◌≡◌, ◌⊎◌, inl, inr, true, false, ℕ, List, Option, Some, None, refl, sym, ◌∙◌, ap}
use Rattle.std.specs.Option.{is_some}
use Rattle.sno_text.specs.Program.{Program}
use Rattle.sno_text.specs.Programs.{IsRefusedProgram, LacksMemory}
use Rattle.sno_text.specs.declared.error.ReadError.{ReadError}
use Rattle.sno_text.specs.declared.error.ReadError.TheVariants.{NoMemory}
use Rattle.sno_listing.specs.Report.{IsAccepted, IsReported, statement_with, single_is, missing_is}
use Rattle.sno_listing.specs.declared.report.Report.{Report}

-- a refusal that isn't want of memory is one of the text
pub refusal_of : (text : List ℕ) (error : ReadError) → LacksMemory text error ⊎ IsRefusedProgram text error
    → (error ≡ NoMemory → ⊥) → IsRefusedProgram text error
refusal_of text error (inl lacks) other = absurd (other lacks.0)
refusal_of text error (inr is) other = is

some_of : {A : Type 0} (found : Option A) → is_some found ≡ true → (x : A) × (found ≡ Some x)
some_of (Some x) e = (x, refl)
some_of None e = absurd (cc)

none_of : {A : Type 0} (found : Option A) → is_some found ≡ false → found ≡ None
none_of (Some x) e = absurd (cc)
none_of None e = refl

-- A statement that is there was listed.
pub single_told : {B : Type 0} (text : List ℕ) (number : Option ℕ) (asked : ℕ) (program : Program) (found : Option B) (listed : B) (told : Report)
    → IsAccepted text program → number ≡ Some asked → is_some found ≡ is_some (statement_with asked program.statements) → found ≡ Some listed
    → told.status ≡ 0 → IsReported text number (Some told)
single_told text number asked program found listed told accepted e same f status =
    let there = some_of (statement_with asked program.statements) (sym same ∙ ap is_some f) in
    single_is program accepted asked e there.0 there.1 told refl status

-- There is no such statement.
pub missing_told : {B : Type 0} (text : List ℕ) (number : Option ℕ) (asked : ℕ) (program : Program) (found : Option B)
    → IsAccepted text program → number ≡ Some asked → is_some found ≡ is_some (statement_with asked program.statements) → found ≡ None
    → IsReported text number None
missing_told text number asked program found accepted e same f =
    missing_is program accepted asked e (none_of (statement_with asked program.statements) (sym same ∙ ap is_some f)) refl
