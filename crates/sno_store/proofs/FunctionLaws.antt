-- Prototypes of functions and their definitions, beside what the code does.
use Rattle.std.proofs.Common.{◌≡◌, ℕ, zero, suc, ◌+◌, ◌-◌, ◌<◌, ◌≤◌, ◌&&◌, List, [], ◌∷◌, ◌++◌, length, drop, get_or, replicate, set, refl, ap, ◌∙◌, arith}
use Rattle.std.specs.List.{list_all, slice_split}
use Rattle.std.proofs.lemmas.List.{append-nil}
use Rattle.sno_store.specs.declared.functions.Function.{Function}
use Rattle.sno_store.specs.declared.functions.Function.TheVariants.{Undefined}
use Rattle.sno_store.specs.Arrays.{is_comma}
use Rattle.sno_store.specs.Definitions.{is_letter, is_name, is_name_byte, listed}
use Rattle.sno_store.specs.Functions.{with_function}

-- a text that isn't empty lists what stands between its commas
pub listed_some : (list : List ℕ) → 0 < length list → listed list ≡ slice_split is_comma list
listed_some [] h = absurd (omega arith)
listed_some (byte ∷ bytes) h = refl

-- a name by its first byte and the others
pub name_parts : (name : List ℕ) → 1 ≤ length name → is_name name ≡ (is_letter (get_or name 0 0) && list_all is_name_byte (drop 1 name))
name_parts [] h = absurd (omega arith)
name_parts (byte ∷ bytes) h = refl

-- a function that is set where the list has been grown to its place
pub set_function : (n : ℕ) (f : Function) (fs : List Function) (missing : ℕ) → missing ≡ (n + 1) - length fs
    → set (fs ++ replicate missing Undefined) n f ≡ with_function n f fs
set_function zero f [] missing e = ap (λ m. set (replicate m Undefined) zero f) e
set_function zero f (old ∷ fs) missing e =
    let none : missing ≡ 0 = omega arith in ap (λ m. f ∷ (fs ++ replicate m Undefined)) none ∙ ap (λ xs. f ∷ xs) (append-nil fs)
set_function (suc n) f [] missing e =
    let one : missing ≡ suc (n + 1) = omega arith in
    ap (λ m. set (replicate m Undefined) (suc n) f) one ∙ ap (λ xs. Undefined ∷ xs) (set_function n f [] (n + 1) (omega arith))
set_function (suc n) f (old ∷ fs) missing e = ap (λ xs. old ∷ xs) (set_function n f fs missing (omega arith))
