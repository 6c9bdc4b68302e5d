-- Lists of bytes that lie in a text.
use Rattle.std.proofs.Common.{◌≡◌, ℕ, ◌+◌, ◌-◌, ◌≤◌, List, ◌++◌, length, take, drop, slice_range, min, refl, ap, sym, ◌∙◌, arith}
use Rattle.std.proofs.Math.Seq.{take-append_seam, take-append-add, take-take, drop-drop}
use Rattle.std.proofs.Math.Nat.{min-eq_left}
use Rattle.std.proofs.lemmas.List.{drop-take, length-take, length-drop}

-- two parts that were written one behind the other are the first ones of the whole
pub written_both : (first second behind more : List ℕ)
    → take (length first + length second) (take (length first) (first ++ behind) ++ (second ++ more)) ≡ first ++ second
written_both first second behind more =
    ap (λ xs. take (length first + length second) (xs ++ (second ++ more))) (take-append_seam first behind)
    ∙ (take-append-add first (second ++ more) (length second) ∙ ap (λ xs. first ++ xs) (take-append_seam second more))

-- a part of a part is a part of the whole
pub part_of_part : (bytes : List ℕ) (from until start end : ℕ) → start ≤ end → end ≤ until - from
    → slice_range bytes (from + start) (from + end) ≡ slice_range (slice_range bytes from until) start end
part_of_part bytes from until start end order within =
    let rest : List ℕ = drop from bytes in
    let left : ℕ = (until - from) - start in
    let whole : until - from ≡ start + left = omega arith in
    let wide : (from + end) - (from + start) ≡ end - start = omega arith in
    let few : end - start ≤ left = omega arith in
    sym (ap (λ n. take (end - start) (drop start (take n rest))) whole
    ∙ (ap (take (end - start)) (drop-take start left rest)
    ∙ (take-take (end - start) left (drop start rest) few
    ∙ (ap (take (end - start)) (drop-drop start from bytes) ∙ ap (λ n. take n (drop (from + start) bytes)) (sym wide)))))

pub length_of_part : (bytes : List ℕ) (from until : ℕ) → from ≤ until → until ≤ length bytes → length (slice_range bytes from until) ≡ until - from
length_of_part bytes from until order within =
    let few : until - from ≤ length bytes - from = omega arith in
    length-take (until - from) (drop from bytes) ∙ (ap (min (until - from)) (length-drop from bytes) ∙ min-eq_left few)
