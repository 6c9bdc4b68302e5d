-- Byte order, as the comparison of slices tells it.
use Rattle.std.proofs.Common.{◌≡◌, ℕ, List, [], ◌∷◌, Bool, Ordering, refl, arith, nat_lt, ◌==◌, if◌then◌else◌, nat_cmp, is_gt}
use Rattle.std.specs.Ordering.{ordering_then}
use Rattle.std.specs.Cmp.Lexicographic.{slice_cmp}
use Rattle.std.proofs.lemmas.Bool.Decides.{nat_tests}
use Rattle.sno_value.specs.Strings.{is_after}

first_pair : (x y : ℕ) (o : Ordering) (b : Bool) → is_gt o ≡ b
    → is_gt (ordering_then (nat_cmp x y) o) ≡ (if x == y then b else nat_lt y x)
first_pair x y o b h = grind (arith, nat_tests, h)

pub greater_is_after : (xs ys : List ℕ) → is_gt (slice_cmp nat_cmp xs ys) ≡ is_after xs ys
unfolding is_after
greater_is_after [] [] = refl
greater_is_after [] (y ∷ ys) = refl
greater_is_after (x ∷ xs) [] = refl
greater_is_after (x ∷ xs) (y ∷ ys) = first_pair x y _ _ (greater_is_after xs ys)
