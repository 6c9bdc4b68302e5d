-- The numbers of the lines, from the last statement to the first.
use Rattle.std.proofs.Common.{◌≡◌, ℕ, ◌+◌, ◌-◌, ◌<◌, ◌≤◌, ◌==◌, List, [], ◌∷◌, length, drop, replicate, slice_index, slice_get, Some, None}
use Rattle.std.proofs.Common.{if◌then◌else◌, arith, refl, ◌∙◌, ap, sym, get_or, Option, inl, inr, drop-cons, add-one}
use Rattle.std.proofs.lemmas.Grind.{common_steps}
use Rattle.std.proofs.Math.ListN.{drop_of_length-le}
use Rattle.std.proofs.lemmas.List.{get_or-replicate, length-replicate}
use Rattle.std.proofs.lemmas.Option.{slice_get_within, get_or_from_slice_get, slice_get_cases}
use Rattle.sno_text.specs.declared.statement.Statement.{Statement}
use Rattle.sno_listing.specs.inner.Listing.{AreNumbers}

-- Behind the last statement none begins.
pub numbers_none : (lines n : ℕ) (sts : List Statement) (numbers : List ℕ) → numbers ≡ replicate lines 0 → n ≡ length sts
    → AreNumbers lines (n + 1) (drop n sts) numbers
numbers_none lines n sts numbers e f =
    let none : drop n sts ≡ [] = drop_of_length-le sts (omega arith) in
    rw (e, none) (record { count = length-replicate lines 0; each = λ k h. get_or-replicate lines k 0 0 h })

dropped : (sts : List Statement) (n : ℕ) (st : Statement) → n < length sts → drop n sts ≡ get_or sts n st ∷ drop (n + 1) sts
dropped sts n st h = rw (add-one, drop-cons sts n st) refl

from_get : (sts : List Statement) (n : ℕ) (st : Statement) → slice_get sts n ≡ Some st → drop n sts ≡ st ∷ drop (n + 1) sts
from_get sts n st e = dropped sts n st (slice_get_within sts n st e) ∙ ap (λ x. x ∷ drop (n + 1) sts) (get_or_from_slice_get sts n st st e)

pub when_some : {A : Type 0} (n : ℕ) (a b : Option A) → 0 < n → a ≡ (if n == 0 then None else b) → a ≡ b
when_some n a b h e = grind (arith, common_steps)

pub not_none : (sts : List Statement) (n : ℕ) → 0 < n → n ≤ length sts → slice_get sts (n - 1) ≡ None → ⊥
not_none sts n h w e = elim (slice_get_cases sts (n - 1)).1 [
  | inl s ↦ let f = sym e ∙ s.2 in cc
  | inr s ↦ absurd (let p = s.0 in omega arith)
]

-- One statement more, before those that were marked.
pub numbers_more : (lines number : ℕ) (sts : List Statement) (st : Statement) (old new : List ℕ) → 0 < number → slice_get sts (number - 1) ≡ Some st
    → length new ≡ length old →
    ((k : ℕ) → k < length old → slice_index new k ≡ (if st.line == k + 1 then number else slice_index old k)) →
    AreNumbers lines (number + 1) (drop number sts) old → AreNumbers lines number (drop (number - 1) sts) new
numbers_more lines number sts st old new h e len marked before =
    let one : number - 1 + 1 ≡ number = omega arith in
    let first : drop (number - 1) sts ≡ st ∷ drop number sts = from_get sts (number - 1) st e ∙ ap (λ n. st ∷ drop n sts) one in
    rw first (record {
      count = len ∙ before.count;
      each = λ k w. marked k (let c = before.count in omega arith) ∙ ap (λ x. if st.line == k + 1 then number else x) (before.each k w);
    })

pub ruleset number_facts = (numbers_none)
