-- What the functions of numbers, texts and types give.
use Rattle.std.proofs.Common.{◌≡◌, ℕ, zero, suc, ◌+◌, ◌*◌, ◌≤◌, ℤ, pos, negsuc, Bool, true, false, nat_lt, ◌==◌, subst, List, [], ◌∷◌, length, map, refl, sym}
use Rattle.std.proofs.Common.{ap, ◌∙◌, arith, Option, None, Some, Result, Ok, Err, if◌then◌else◌}
use Rattle.std.specs.List.{list_all}
use Rattle.std.proofs.Math.Nat.{suc-mul}
use Rattle.std.proofs.lemmas.Bool.Decides.{nat_tests}
use Rattle.std.proofs.lemmas.List.{length-append, length-map}
use Rattle.sno_value.specs.Strings.{trimmed, copies, duplicate, can_replace, replacement, replaced}
use Rattle.sno_value.specs.declared.strings.TextError.TheVariants.{TooLong}
use Rattle.sno_value.specs.declared.arithmetic.Arith.{Arith}
use Rattle.sno_runtime.specs.Action.{Action, either}
use Rattle.sno_runtime.specs.Values.{Value}
use Rattle.sno_runtime.specs.Numbers.{on_numbers}
use Rattle.sno_runtime.specs.Variables.{wrong_type}

pub absent : {A : Type 0} (x : Option A) (some : A → Action Value) → x ≡ None → either wrong_type some x ≡ wrong_type
absent x some h = rw h refl

pub first_absent : (f : ℤ → ℤ → Result ℤ Arith) (x y : Option ℤ) → x ≡ None → on_numbers f x y ≡ wrong_type
first_absent f x y h = rw h refl

pub second_absent : (f : ℤ → ℤ → Result ℤ Arith) (n : ℤ) (y : Option ℤ) → y ≡ None → on_numbers f (Some n) y ≡ wrong_type
second_absent f n y h = rw h refl

-- the texts have at most as many bytes as a string may

length_where : (b : Bool) (xs : List ℕ) (n : ℕ) → length xs ≤ n → length (if b then [] else xs) ≤ n
length_where true xs n h = omega arith
length_where false xs n h = h

pub length-trimmed : (text : List ℕ) → length (trimmed text) ≤ length text
unfolding trimmed
length-trimmed [] = omega arith
length-trimmed (byte ∷ rest) =
    let h = length-trimmed rest in
    length_where (list_all (λ b. b == 32) (byte ∷ rest)) (byte ∷ trimmed rest) (length (byte ∷ rest)) (omega (arith, h))

pub length-copies : (n : ℕ) (text : List ℕ) → length (copies n text) ≡ n * length text
unfolding copies
length-copies zero text = omega arith
length-copies (suc n) text = length-append text (copies n text) ∙ (ap (λ k. length text + k) (length-copies n text) ∙ omega (arith, suc-mul n (length text)))

short_copies : (long : Bool) (n : ℕ) (text bytes : List ℕ) → nat_lt 1_000_000 (n * length text) ≡ long
    → (if long then Err TooLong else Ok (Some (copies n text))) ≡ Ok (Some bytes) → length bytes ≤ 1_000_000
short_copies true n text bytes h is = absurd (cc)
short_copies false n text bytes h is =
    let e : copies n text ≡ bytes = cc in
    let k = length-copies n text in
    subst (λ (xs : List ℕ). length xs ≤ 1_000_000) e (grind (arith, nat_tests, k, h))

pub length-duplicate : (text : List ℕ) (z : ℤ) (bytes : List ℕ) → duplicate text z ≡ Ok (Some bytes) → length bytes ≤ 1_000_000
unfolding duplicate
length-duplicate text (pos n) bytes is = short_copies (nat_lt 1_000_000 (n * length text)) n text bytes refl is
length-duplicate text (negsuc n) bytes is = absurd (cc)

replaced_where : (can : Bool) (f : ℕ → ℕ) (text bytes : List ℕ) → (if can then Some (map f text) else None) ≡ Some bytes → length bytes ≡ length text
replaced_where true f text bytes is =
    let e : map f text ≡ bytes = cc in
    ap length (sym e) ∙ length-map text f
replaced_where false f text bytes is = absurd (cc)

pub length-replaced : (text froms tos bytes : List ℕ) → replaced text froms tos ≡ Some bytes → length bytes ≡ length text
unfolding replaced
length-replaced text froms tos bytes is = replaced_where (can_replace froms tos) (replacement froms tos) text bytes is
