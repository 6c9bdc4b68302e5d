-- Sides of a choice in a list.
use Rattle.std.proofs.Common.{◌≡◌, ℕ, ◌+◌, true, false, Bool, List, [], ◌∷◌, ◌++◌, Some, refl, sym, ◌∙◌, ap, subst, slice_get}
use Rattle.std.specs.List.{AllByRecursion}
use Rattle.std.proofs.lemmas.List.{append_assoc}
use Rattle.sno_pattern.specs.Pattern.{Alt, Pattern}
use Rattle.sno_pattern.specs.Places.{BeginsWithByte, has_end}
use Rattle.sno_pattern.specs.Shape.{IsPrimitive}
use Rattle.sno_pattern.specs.Table.{Node, tree}
use Rattle.sno_match.specs.declared.side_list.Side.{Side}
use Rattle.sno_match.specs.inner.Sides.{Lists, MissedAt}
use Rattle.sno_match.specs.inner.Starts.{FailsWith}
use Rattle.sno_match.proofs.StartLaws.{choice_vain, primitive_vain}

true_or_false : true ≡ false → ⊥
true_or_false e = absurd (cc)

-- what holds of each element

all_before : {X : Type 0} (P : X → Type 0) (xs ys : List X) → AllByRecursion P (xs ++ ys) → AllByRecursion P xs
all_before P [] ys all = tt
all_before P (x ∷ xs) ys all = (all.0, all_before P xs ys all.1)

all_behind : {X : Type 0} (P : X → Type 0) (xs ys : List X) → AllByRecursion P (xs ++ ys) → AllByRecursion P ys
all_behind P [] ys all = all
all_behind P (x ∷ xs) ys all = all_behind P xs ys all.1

-- a pattern has no end where the byte doesn't stand with which it begins
pub missed_elsewhere : (p : Pattern) (s : List ℕ) (c byte : ℕ) (stands : Bool) → BeginsWithByte p byte → (slice_get s c ≡ Some byte → stands ≡ true)
    → stands ≡ false → has_end p s c ≡ false
missed_elsewhere p s c byte stands begins told apart = by_value (has_end p s c) refl
  where
    by_value : (b : Bool) → has_end p s c ≡ b → b ≡ false
    by_value true ends = absurd (true_or_false (sym (told (begins s c ends)) ∙ apart))
    by_value false ends = refl

-- the sides of a pattern

module _ (nodes : List Node) where
  pub lists_one : (p : Pattern) (side : Side) (before after : List Side) → p ≡ tree nodes side.id.0 → IsPrimitive p → after ≡ before ++ side ∷ []
      → Lists nodes p 1 before after
  lists_one p side before after is leaf joined = (
    side ∷ [],
    joined,
    record { fails = λ s c all. primitive_vain p s c leaf (subst (λ q. has_end q s c ≡ false) (sym is) all.0) },
  )

  pub lists_above : (whole p : Pattern) (steps : ℕ) (before after : List Side) → FailsWith whole p 1 → Lists nodes p steps before after
      → Lists nodes whole (steps + 1) before after
  lists_above whole p steps before after above lists =
      (lists.0, lists.1, record { fails = λ s c all. above.vain s steps c (lists.2.fails s c all) })

  pub lists_both : (whole p q : Pattern) (first second : ℕ) (before mid after : List Side) → whole ≡ Alt p q → Lists nodes p first before mid
      → Lists nodes q second mid after → Lists nodes whole (first + second + 2) before after
  lists_both whole p q first second before mid after is one other = (
    one.0 ++ other.0,
    other.1 ∙ ap (λ sides. sides ++ other.0) one.1 ∙ append_assoc before one.0 other.0,
    record {
      fails = λ s c all.
          choice_vain whole p q s first second c is (one.2.fails s c (all_before (MissedAt nodes s c) one.0 other.0 all))
          (other.2.fails s c (all_behind (MissedAt nodes s c) one.0 other.0 all));
    },
  )
