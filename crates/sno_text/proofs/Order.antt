-- The statements of a text follow one another in it.
use Rattle.std.proofs.Common.{◌≡◌, ℕ, zero, suc, ◌+◌, ◌-◌, ◌≤◌, ◌==◌, ◌&&◌, inl, inr, Bool, true, false, cond, List, [], ◌∷◌, ◌++◌, length, map, drop, take}
use Rattle.std.proofs.Common.{arith, refl, sym, ◌∙◌, ap, subst}
use Rattle.std.proofs.lemmas.Bool.{cases_Bool}
use Rattle.std.proofs.lemmas.List.{length-drop}
use Rattle.std.specs.List.{concat, filter}
use Rattle.bstr.specs.Text.{lines_of, without_terminator, no_cr}
use Rattle.bstr.proofs.lemmas.RestLemmas.{concat-lines_of}
use Rattle.sno_text.specs.declared.node.Span.{Span}
use Rattle.sno_text.specs.Refusals.{quote_step}
use Rattle.sno_text.specs.Lines.{is_skipped, is_continuation, line_feeds, end_feeds, own, continued, prepend, cards_from, cards, joined, cut, statements_of}
use Rattle.sno_text.specs.Lines.{moved, extents_from, extents}
use Rattle.sno_text.specs.inner.Layouts.{InOrder}
use Rattle.sno_text.proofs.Layouts.{concat_prepend, length_added, continuation_some}

order_within : (at n : ℕ) (es : List Span) → InOrder at n es → at ≤ n
order_within at n [] h = h
order_within at n (e ∷ es) (a, b, c) = let d = order_within e.end n es c in omega arith

order_earlier : (early at n : ℕ) (es : List Span) → early ≤ at → InOrder at n es → InOrder early n es
order_earlier early at n [] l h = omega arith
order_earlier early at n (e ∷ es) l (a, b, c) = (omega arith, b, c)

order_append : (at m n : ℕ) (xs ys : List Span) → InOrder at m xs → InOrder m n ys → InOrder at n (xs ++ ys)
order_append at m n [] ys h g = order_earlier at m n ys h g
order_append at m n (x ∷ xs) ys (a, b, c) g = (a, b, order_append x.end m n xs ys c g)

order_moved : (k at n : ℕ) (es : List Span) → InOrder at n es → InOrder (k + at) (k + n) (map (moved k) es)
order_moved k at n [] h = omega arith
order_moved k at n (e ∷ es) (a, b, c) = (omega arith, omega arith, order_moved k e.end n es c)

order_filter : (p : Span → Bool) (at n : ℕ) (es : List Span) → InOrder at n es → InOrder at n (filter p es)
order_filter p at n [] h = h
order_filter p at n (e ∷ es) (a, b, c) = elim (cases_Bool (p e)) [
  | inl t ↦ rw t (a, b, order_filter p e.end n es c)
  | inr f ↦ rw f (order_earlier at e.end n (filter p es) (omega arith) (order_filter p e.end n es c))
]

order_cut : (quote start at n : ℕ) (bs : List ℕ) → start ≤ at → n ≡ at + length bs → InOrder start n (cut quote start at bs)
order_cut quote start at n [] h e = (omega arith, h, omega arith)
order_cut quote start at n (b ∷ bs) h e = elim (cases_Bool ((b == 59) && (quote == 0))) [
  | inl t ↦ rw t (omega arith, h, order_earlier at (at + 1) n _ (omega arith) (order_cut 0 (at + 1) (at + 1) n bs (omega arith) (omega arith)))
  | inr f ↦ rw f (order_cut (quote_step quote b) start (at + 1) n bs (omega arith) (omega arith))
]

order_card : (at : ℕ) (card : List ℕ) → InOrder at (at + length card) (map (moved at) (statements_of card))
order_card at card =
    let e : at + 0 ≡ at = omega arith in
    subst (λ x. InOrder x (at + length card) (map (moved at) (statements_of card))) e
    (order_moved at 0 (length card) (statements_of card)
    (order_filter _ 0 (length card) (cut 0 0 0 card) (order_cut 0 0 0 (length card) card (omega arith) (omega arith))))

order_cards : (at : ℕ) (cs : List (List ℕ)) → InOrder at (at + length (concat cs)) (extents_from at cs)
order_cards at [] = omega arith
order_cards at (c ∷ cs) =
    let e : at + length c + length (concat cs) ≡ at + length (c ++ concat cs) = omega (arith, length_added c (concat cs)) in
    subst (λ x. InOrder at x (extents_from at (c ∷ cs))) e
    (order_append at (at + length c) (at + length c + length (concat cs)) (map (moved at) (statements_of c)) (extents_from (at + length c) cs)
    (order_card at c) (order_cards (at + length c) cs))

length_feeds : (n : ℕ) → length (line_feeds n) ≡ n
length_feeds zero = refl
length_feeds (suc n) = ap suc (length_feeds n)

length_taken : (n : ℕ) (xs : List ℕ) → length (take n xs) ≤ length xs
length_taken zero xs = omega arith
length_taken (suc n) [] = omega arith
length_taken (suc n) (x ∷ xs) = let h = length_taken n xs in omega arith

length_cond : (b : Bool) (xs ys : List ℕ) (n : ℕ) → length xs ≤ n → length ys ≤ n → length (cond b xs ys) ≤ n
length_cond true xs ys n x y = x
length_cond false xs ys n x y = y

length_no_cr : (bs : List ℕ) (n : ℕ) → length bs ≤ n → length (no_cr bs) ≤ n
length_no_cr bs n h = length_cond _ (take (length bs - 1) bs) bs n (let f = length_taken (length bs - 1) bs in omega arith) h

length_content : (line : List ℕ) → length (without_terminator line) ≤ length line
length_content line = length_cond _ (no_cr (take (length line - 1) line)) line (length line)
    (length_no_cr (take (length line - 1) line) (length line) (length_taken (length line - 1) line)) (omega arith)

length_own : (line : List ℕ) → length (own line) ≡ length line
length_own line =
    let a = length_content line in
    let b = length_feeds (length line - length (without_terminator line)) in
    let c = length_added (without_terminator line) (end_feeds line) in omega arith

length_continued : (line : List ℕ) → is_continuation (without_terminator line) ≡ true → length (continued line) ≡ length line
length_continued line h =
    let a = length_content line in
    let b = length_feeds (length line - length (without_terminator line)) in
    let c = length_added (drop 1 (without_terminator line)) (end_feeds line) in
    let d = length-drop 1 (without_terminator line) in
    let e = continuation_some (without_terminator line) h in omega arith

length_prepended : (x line : List ℕ) (cs : List (List ℕ)) (n : ℕ) → length x ≡ length line → length (concat cs) ≡ n
    → length (concat (prepend x cs)) ≡ length line + n
length_prepended x line cs n e f = ap length (concat_prepend x cs) ∙ length_added x (concat cs) ∙ ap (λ y. y + length (concat cs)) e
    ∙ ap (λ y. length line + y) f

both_true : (a b : Bool) → (a && b) ≡ true → b ≡ true
both_true true b h = h
both_true false b h = absurd (cc)

length_cards : (begun : Bool) (lines : List (List ℕ)) → length (concat (cards_from begun lines)) ≡ length (concat lines)
length_cards begun [] = refl
length_cards begun (line ∷ lines) = elim (cases_Bool (is_skipped (without_terminator line))) [
  | inl a ↦ rw a (length_prepended (line_feeds (length line)) line (cards_from begun lines) _ (length_feeds (length line)) (length_cards begun lines)
      ∙ sym (length_added line (concat lines)))
  | inr a ↦ elim (cases_Bool (begun && is_continuation (without_terminator line))) [
    | inl b ↦ rw (a, b) (length_prepended (continued line) line (cards_from true lines) _ (length_continued line (both_true begun _ b))
        (length_cards true lines) ∙ sym (length_added line (concat lines)))
    | inr b ↦ rw (a, b) (length_prepended (own line) line (cards_from true lines) _ (length_own line) (length_cards true lines)
        ∙ sym (length_added line (concat lines)))
  ]
]

pub length_joined : (s : List ℕ) → length (joined s) ≡ length s
length_joined s = length_cards false (lines_of s) ∙ ap length (concat-lines_of s)

pub extents_in_order : (s : List ℕ) → InOrder 0 (length s) (extents s)
extents_in_order s =
    let e : 0 + length (concat (cards s)) ≡ length s = omega (arith, length_joined s) in
    subst (λ x. InOrder 0 x (extents s)) e (order_cards 0 (cards s))
