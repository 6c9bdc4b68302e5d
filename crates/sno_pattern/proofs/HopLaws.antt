-- BAL's first ends, each found by those of later cursors.
use Rattle.std.proofs.Common.{◌≡◌, ◌≢◌, ℕ, zero, suc, ◌+◌, ◌-◌, ◌<◌, ◌≤◌, ◌==◌, Bool, true, false, if◌then◌else◌, Option, Some, None, List, length, drop}
use Rattle.std.proofs.Common.{get_or, slice_get, slice_set, refl, sym, ◌∙◌, ap, subst, arith, ◌⊎◌, inl, inr, ⊎_elim}
use Rattle.std.proofs.lemmas.Bool.{ne_eqb}
use Rattle.std.proofs.lemmas.List.{drop_more, drop_all, get_or-set_same, get_or-set_other, length-set}
use Rattle.sno_pattern.specs.Pattern.{Bal}
use Rattle.sno_pattern.specs.Ends.{open_after, ends}
use Rattle.sno_pattern.specs.BalanceTable.{end_code, IsBalanceFrom, IsBalanceTable}
use Rattle.sno_pattern.proofs.ClosingLaws.{closing, hop, first-closing, closing-piece, first-behind}

-- the bracket at a cursor is closed where one bracket is closed from a later place on
pub record IsHop (s : List ℕ) (at place : ℕ) : Type 0 where
  pub behind : at < place
  pub within : place ≤ length s
  pub same : slice_get (ends Bal s at) 0 ≡ closing (Some 1) place (drop place s)

first-byte : (s : List ℕ) (at byte : ℕ) → at < length s → get_or s at 0 ≡ byte → slice_get (ends Bal s at) 0
    ≡ closing (open_after byte 0) (at + 1) (drop (at + 1) s)
first-byte s at byte inside is = first-closing s at inside ∙ ap (λ b. closing (open_after b 0) (at + 1) (drop (at + 1) s)) is

pub IsHop-first : (s : List ℕ) (at : ℕ) → at < length s → get_or s at 0 ≡ 40 → IsHop s at (at + 1)
IsHop-first s at inside is = record { behind = omega arith; within = omega arith; same = first-byte s at 40 inside is }

-- behind a balanced part the walk goes on
pub IsHop-next : (s table : List ℕ) (at place end : ℕ) → IsHop s at place → place < length s → get_or s place 0 ≢ 41 → IsBalanceFrom (at + 1) s table
    → get_or table place 0 ≡ end → end ≢ 0 →
    IsHop s at end × (place < end)
IsHop-next s table at place end h inside other known is some =
    go (slice_get (ends Bal s place) 0) refl (sym (known.says place (omega (arith, h.behind)) inside) ∙ is)
  where
    go : (o : Option ℕ) → slice_get (ends Bal s place) 0 ≡ o → end_code o ≡ end → IsHop s at end × (place < end)
    go None found code = absurd (some (sym code))
    go (Some e) found code =
        let b = first-behind s place e (omega arith) found in
        subst (λ n. IsHop s at n × (place < n)) code (
          record {
            behind = omega (arith, h.behind, b.behind);
            within = b.within;
            same = h.same ∙ closing-piece s place inside other
                ∙ ap (λ o. hop o s) found;
          },
          b.behind,
        )

-- where a part has no end a bracket stays open
pub IsHop-open : (s table : List ℕ) (at place : ℕ) → IsHop s at place → place < length s → get_or s place 0 ≢ 41 → IsBalanceFrom (at + 1) s table
    → get_or table place 0 ≡ 0 →
    0 ≡ end_code (slice_get (ends Bal s at) 0)
IsHop-open s table at place h inside other known is =
    go (slice_get (ends Bal s place) 0) refl (sym (known.says place (omega (arith, h.behind)) inside) ∙ is)
  where
    go : (o : Option ℕ) → slice_get (ends Bal s place) 0 ≡ o → end_code o ≡ 0 → 0 ≡ end_code (slice_get (ends Bal s at) 0)
    go None found code = sym (ap end_code (h.same ∙ closing-piece s place inside other ∙ ap (λ o. hop o s) found))
    go (Some e) found code = let b = first-behind s place e (omega arith) found in absurd (omega (arith, b.behind, code))

pub IsHop-closed : (s : List ℕ) (at place : ℕ) → IsHop s at place → place < length s → get_or s place 0 ≡ 41
    → place + 1 ≡ end_code (slice_get (ends Bal s at) 0)
IsHop-closed s at place h inside is =
    sym (ap end_code (h.same ∙ ap (λ (t : List ℕ). closing (Some 1) place t) (drop_more s place 0 inside)
    ∙ ap (λ b. closing (open_after b 1) (place + 1) (drop (place + 1) s)) is))

pub IsHop-none : (s : List ℕ) (at place : ℕ) → IsHop s at place → length s ≤ place → 0 ≡ end_code (slice_get (ends Bal s at) 0)
IsHop-none s at place h over = sym (ap end_code (h.same ∙ ap (λ (t : List ℕ). closing (Some 1) place t) (drop_all place s over)))

pub end-closed : (s : List ℕ) (at : ℕ) → at < length s → get_or s at 0 ≡ 41 → 0 ≡ end_code (slice_get (ends Bal s at) 0)
end-closed s at inside is = sym (ap end_code (first-byte s at 41 inside is))

pub end-other : (s : List ℕ) (at : ℕ) → at < length s → get_or s at 0 ≢ 40 → get_or s at 0 ≢ 41 → at + 1 ≡ end_code (slice_get (ends Bal s at) 0)
end-other s at inside not_open not_close =
    sym (ap end_code (first-closing s at inside ∙ go (get_or s at 0 == 40) (get_or s at 0 == 41) (ne_eqb (get_or s at 0) 40 not_open)
    (ne_eqb (get_or s at 0) 41 not_close)))
  where
    go : (a b : Bool) → a ≡ false → b ≡ false → closing (if a then Some 1 else (if b then None else Some 0)) (at + 1) (drop (at + 1) s) ≡ Some (at + 1)
    go true b x y = cc
    go false true x y = cc
    go false false x y = refl

-- of a subject's end and behind it nothing need be known
pub table-start : (s table : List ℕ) → length table ≡ length s → IsBalanceFrom (length s) s table
table-start s table long = record { whole = long; says = λ c low high. absurd (omega arith) }

same_or_not : (i j : ℕ) → (i ≡ j) ⊎ (i ≢ j)
same_or_not zero zero = inl refl
same_or_not zero (suc j) = inr (λ e. omega arith)
same_or_not (suc i) zero = inr (λ e. omega arith)
same_or_not (suc i) (suc j) = ⊎_elim (λ e. inl (ap suc e)) (λ n. inr (λ e. n (omega arith))) (same_or_not i j)

-- one end more
pub table-put : (s table : List ℕ) (at end : ℕ) → at < length s → IsBalanceFrom (at + 1) s table → end ≡ end_code (slice_get (ends Bal s at) 0)
    → IsBalanceFrom at s (slice_set table at end)
table-put s table at end inside known is = record {
  whole = length-set table at end ∙ known.whole;
  says = λ c low high.
      ⊎_elim
      (λ same. rw (← same) (get_or-set_same table at end 0 (omega (arith, known.whole, inside)) ∙ is))
      (λ apart. get_or-set_other table at c end 0 (λ e. apart (sym e)) ∙ known.says c (omega (arith, apart, low)) high)
      (same_or_not at c);
}

-- what the table says
pub table-none : (s table : List ℕ) (at : ℕ) → IsBalanceTable s table → at < length table → get_or table at 0 ≡ 0 → None ≡ slice_get (ends Bal s at) 0
table-none s table at t inside is = go (slice_get (ends Bal s at) 0) refl (sym (t.says at (omega arith) (omega (arith, t.whole, inside))) ∙ is)
  where
    go : (o : Option ℕ) → slice_get (ends Bal s at) 0 ≡ o → end_code o ≡ 0 → None ≡ slice_get (ends Bal s at) 0
    go None found code = sym found
    go (Some e) found code = let b = first-behind s at e (omega (arith, t.whole, inside)) found in absurd (omega (arith, b.behind, code))

pub table-some : (s table : List ℕ) (at end : ℕ) → IsBalanceTable s table → at < length table → get_or table at 0 ≡ end → end ≢ 0
    → Some end ≡ slice_get (ends Bal s at) 0
table-some s table at end t inside is some = go (slice_get (ends Bal s at) 0) refl (sym (t.says at (omega arith) (omega (arith, t.whole, inside))) ∙ is)
  where
    go : (o : Option ℕ) → slice_get (ends Bal s at) 0 ≡ o → end_code o ≡ end → Some end ≡ slice_get (ends Bal s at) 0
    go None found code = absurd (some (sym code))
    go (Some e) found code = ap Some (sym code) ∙ sym found

pub table-behind : (s table : List ℕ) (at : ℕ) → IsBalanceTable s table → length table ≤ at → None ≡ slice_get (ends Bal s at) 0
table-behind s table at t over =
    let none : length s - at ≡ 0 = omega (arith, t.whole) in
    rw none refl
