-- The place of an element, found from the last subscript on.
use Rattle.std.proofs.Common.{◌≡◌, ℕ, zero, suc, ◌+◌, ◌*◌, ◌<◌, ◌≤◌, ℤ, int_le, unsigned_abs, ◌-ℤ◌, ◌&&◌, Bool, true, false, cond, List, [], ◌∷◌, length, drop}
use Rattle.std.proofs.Common.{get_or, Option, None, Some, refl, sym, ap, subst, ◌∙◌, arith}
use Rattle.std.proofs.Math.Nat.{mul_comm, mul-le-mul_right}
use Rattle.std.proofs.lemmas.Int.{ints}
use Rattle.std.proofs.lemmas.List.{drop_more}
use Rattle.sno_store.specs.declared.dimension.Dimension.{Dimension}
use Rattle.sno_store.specs.Arrays.{size, element_count, offset, behind, element_place}
use Rattle.sno_store.proofs.Prototypes.{size_some, times}

-- the dimensions behind are no more elements than all
count_behind : (dimensions : List Dimension) (i : ℕ) → element_count (drop i dimensions) ≤ element_count dimensions
count_behind dimensions zero = omega arith
count_behind [] (suc i) = omega arith
count_behind (dimension ∷ dimensions) (suc i) =
    omega (arith, count_behind dimensions i, times (size dimension) (element_count dimensions) (size_some dimension))

behind-none : (block : ℕ) (o : Option ℕ) → behind block o None ≡ None
behind-none block (Some n) = refl
behind-none block None = refl

-- where a subscript is out of range, so is the element
none_behind : (dimensions : List Dimension) (is : List ℤ) (i : ℕ) → element_place (drop i dimensions) (drop i is) ≡ None → element_place dimensions is ≡ None
none_behind dimensions is zero e = e
none_behind [] [] (suc i) e = e
none_behind [] (j ∷ is) (suc i) e = refl
none_behind (dimension ∷ dimensions) [] (suc i) e = refl
none_behind (dimension ∷ dimensions) (j ∷ is) (suc i) e =
    ap (behind (element_count dimensions) (offset dimension j)) (none_behind dimensions is i e) ∙ behind-none (element_count dimensions) (offset dimension j)

-- a subscript in range stands less than the size behind the lowest
offset_small : (dimension : Dimension) (j : ℤ) (n : ℕ) → offset dimension j ≡ Some n → n < size dimension
offset_small dimension j n e = by (int_le dimension.low j) refl (int_le j dimension.high) refl e
  where
    by : (above : Bool) → int_le dimension.low j ≡ above → (below : Bool) → int_le j dimension.high ≡ below
        → cond (above && below) (Some (unsigned_abs (j -ℤ dimension.low))) None ≡ Some n → n < size dimension
    by true a true b h = let same : unsigned_abs (j -ℤ dimension.low) ≡ n = cc in subst (λ m. m < size dimension) same (grind (arith, ints))
    by true a false b h = absurd (cc)
    by false a below b h = absurd (cc)

-- the place with one more dimension lies in its block
place_small : (place block o s : ℕ) → place < block → o < s → place + o * block < s * block
place_small place block o s inside small =
    omega (arith, mul-le-mul_right {m = suc o} {n = s} block (omega arith))

module _ (dimensions : List Dimension) (is : List ℤ) (k i place block : ℕ) (d : Dimension) (j : ℤ) (rank : length is ≡ length dimensions) (next : i ≡ k + 1)
    (within : k < length dimensions)
    (behind_it : block ≡ element_count (drop i dimensions)) (so_far : Some place ≡ element_place (drop i dimensions) (drop i is)) where
  -- the elements from one dimension on
  pub block_before : size (get_or dimensions k d) * block ≡ element_count (drop k dimensions)
  block_before =
      ap (λ n. size (get_or dimensions k d) * n) (behind_it ∙ ap (λ n. element_count (drop n dimensions)) next)
      ∙ sym (ap element_count (drop_more dimensions k d within))

  pub place_before : element_place (drop k dimensions) (drop k is) ≡ behind block (offset (get_or dimensions k d) (get_or is k j)) (Some place)
  place_before =
      (λ n. element_place (drop_more dimensions k d within n) (drop_more is k j (omega arith) n))
      ∙ (λ n. behind (element_count (drop (sym next n) dimensions)) (offset (get_or dimensions k d) (get_or is k j))
      (element_place (drop (sym next n) dimensions) (drop (sym next n) is)))
      ∙ (λ n. behind (sym behind_it n) (offset (get_or dimensions k d) (get_or is k j)) (sym so_far n))

  -- a subscript out of range
  pub out_of_range : None ≡ offset (get_or dimensions k d) (get_or is k j) → None ≡ element_place dimensions is
  out_of_range none = sym (none_behind dimensions is k (place_before ∙ ap (λ o. behind block o (Some place)) (sym none)))

  module _ (few : element_count dimensions ≤ 1_000_000) (inside : place < block) where
    -- the block before is no more than all elements
    pub block_few : size (get_or dimensions k d) * block ≤ 1_000_000
    block_few = omega (arith, block_before, count_behind dimensions k)

    pub size_few : size (get_or dimensions k d) ≤ 1_000_000
    size_few = omega (arith, block_few, mul_comm (size (get_or dimensions k d)) block, times block (size (get_or dimensions k d)) (omega arith))

    module _ (o : ℕ) (is_one : Some o ≡ offset (get_or dimensions k d) (get_or is k j)) where
      pub place_inside : place + o * block < size (get_or dimensions k d) * block
      place_inside = place_small place block o (size (get_or dimensions k d)) inside (offset_small (get_or dimensions k d) (get_or is k j) o (sym is_one))

      pub place_is : Some (place + o * block) ≡ element_place (drop k dimensions) (drop k is)
      place_is = ap Some (omega arith) ∙ ap (λ r. behind block r (Some place)) is_one ∙ sym place_before
