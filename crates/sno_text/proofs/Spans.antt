-- What of a text lies in a span, which may go past the text.
use Rattle.std.proofs.Common.{◌≡◌, ℕ, ◌-◌, ◌<◌, ◌≤◌, ◌⊎◌, inl, inr, List, [], length, take, drop, min, slice_range, ap, sym, ◌∙◌, arith}
use Rattle.std.proofs.lemmas.Bool.{cases_lt}
use Rattle.std.proofs.lemmas.List.{drop_min, length-drop, take_all}
use Rattle.std.proofs.Math.Nat.{min-eq_left, min-eq_right}

-- a span that ends before it begins has nothing
none_between : (text : List ℕ) (start end : ℕ) → end ≤ start → slice_range text start end ≡ []
none_between text start end h =
    let none : end - start ≡ 0 = omega arith in ap (λ n. take n (drop start text)) none

-- one that goes past the text has the rest of it
rest_between : (text : List ℕ) (start end : ℕ) → length text ≤ end → slice_range text start end ≡ drop start text
rest_between text start end h =
    let size = length-drop start text in take_all (end - start) (drop start text) (omega arith)

ordered_between : (text : List ℕ) (start end : ℕ) → slice_range text (min start end) end ≡ slice_range text start end
ordered_between text start end = go (cases_lt end start) where
  go : (end < start) ⊎ (start ≤ end) → slice_range text (min start end) end ≡ slice_range text start end
  go (inl past) = ap (λ at. slice_range text at end) (min-eq_right {n = end} {m = start} (omega arith)) ∙ none_between text end end (omega arith)
      ∙ sym (none_between text start end (omega arith))
  go (inr order) = ap (λ at. slice_range text at end) (min-eq_left order)

-- it is the same as the part of it within the text
pub clamped_range : (text : List ℕ) (start end : ℕ)
    → slice_range text (min start (min end (length text))) (min end (length text)) ≡ slice_range text start end
clamped_range text start end = go (cases_lt (length text) end) where
  go : (length text < end) ⊎ (end ≤ length text)
      → slice_range text (min start (min end (length text))) (min end (length text)) ≡ slice_range text start end
  go (inl past) = ap (λ at. slice_range text (min start at) at) (min-eq_right {n = length text} {m = end} (omega arith))
      ∙ rest_between text (min start (length text)) (length text) (omega arith) ∙ drop_min start text
      ∙ sym (rest_between text start end (omega arith))
  go (inr within) = ap (λ at. slice_range text (min start at) at) (min-eq_left within) ∙ ordered_between text start end
