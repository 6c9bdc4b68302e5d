-- The line of a way, piece by piece.
use Rattle.std.proofs.Common.{◌≡◌, ℕ, zero, suc, ◌+◌, ◌<◌, arith, List, [], ◌∷◌, ◌++◌, take, length, get_or, ap, sym, ◌∙◌, append_assoc}
use Rattle.std.proofs.lemmas.List.{append-nil}
use Rattle.sno_match.specs.declared.event.Pending.{Pending}
use Rattle.sno_runtime.specs.Lines.{pending_part, pending_parts}

parts_next : (symbols : List (List ℕ)) (ps : List Pending) (k : ℕ) (d : Pending) → k < length ps → pending_parts symbols (take (suc k) ps)
    ≡ pending_parts symbols (take k ps) ++ pending_part symbols (get_or ps k d)
parts_next symbols [] k d h = absurd (omega arith)
parts_next symbols (p ∷ ps) zero d h = append-nil (pending_part symbols p)
parts_next symbols (p ∷ ps) (suc k) d h =
    ap (λ bytes. pending_part symbols p ++ bytes) (parts_next symbols ps k d (omega arith))
    ∙ sym (append_assoc (pending_part symbols p) (pending_parts symbols (take k ps)) (pending_part symbols (get_or ps k d)))

-- one more of the assignments that wait stands behind the line
pub one_more_part : (symbols : List (List ℕ)) (front : List ℕ) (ps : List Pending) (k : ℕ) (d : Pending) (old new : List ℕ) → k < length ps
    → old ≡ front ++ pending_parts symbols (take k ps)
    → new ≡ old ++ pending_part symbols (get_or ps k d) → new ≡ front ++ pending_parts symbols (take (k + 1) ps)
one_more_part symbols front ps k d old new h is more =
    let next : k + 1 ≡ suc k = omega arith in
    more ∙ (ap (λ bytes. bytes ++ pending_part symbols (get_or ps k d)) is
    ∙ (append_assoc front (pending_parts symbols (take k ps)) (pending_part symbols (get_or ps k d))
    ∙ (ap (λ bytes. front ++ bytes) (sym (parts_next symbols ps k d h)) ∙ ap (λ n. front ++ pending_parts symbols (take n ps)) (sym next))))
