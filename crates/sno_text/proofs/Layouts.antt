-- The lines joined, and cut.
use Rattle.std.proofs.Common.{◌≡◌, ◌≢◌, ℕ, zero, suc, ◌+◌, ◌-◌, ◌<◌, ◌≤◌, ◌==◌, inl, inr, Bool, true, false, ◌&&◌, List, [], ◌∷◌, ◌++◌, length, map, drop, take}
use Rattle.std.proofs.Common.{get_or, slice_range, arith, refl, sym, ◌∙◌, ap, append_assoc, append-nil, length-append, drop-cons, add-one}
use Rattle.std.proofs.lemmas.Bool.{cases_Bool}
use Rattle.std.proofs.lemmas.Grind.{common_steps}
use Rattle.std.proofs.lemmas.List.{take_all, length-drop}
use Rattle.std.specs.List.{list_all, concat}
use Rattle.bstr.specs.Text.{lines_of, without_terminator}
use Rattle.sno_text.specs.declared.node.Span.{Span}
use Rattle.sno_text.specs.declared.layout.LineKind.{LineKind}
use Rattle.sno_text.specs.declared.layout.LineKind.TheVariants.{Skipped, Continuation, Card}
use Rattle.sno_text.specs.Bytes.{is_blank}
use Rattle.sno_text.specs.Refusals.{quote_step}
use Rattle.sno_text.specs.Lines.{is_skipped, is_continuation, line_feeds, own, continued, prepend, cards_from, joined, cut, statements_of, moved, extents_from}
use Rattle.sno_text.specs.Lines.{extents}
use Rattle.sno_text.specs.inner.Layouts.{kind_of, read_line, part_from, kept}

dropped : (i : ℕ) (s : List ℕ) → i < length s → drop i s ≡ get_or s i 0 ∷ drop (i + 1) s
dropped i s h = rw (add-one, drop-cons s i 0) refl

pub blank_more : (i : ℕ) (s : List ℕ) → i < length s → list_all is_blank (drop i s) ≡ (is_blank (get_or s i 0) && list_all is_blank (drop (i + 1) s))
blank_more i s h = ap (list_all is_blank) (dropped i s h)

feeds_snoc : (n : ℕ) → line_feeds n ++ 10 ∷ [] ≡ line_feeds (suc n)
feeds_snoc zero = refl
feeds_snoc (suc n) = ap (λ x. 10 ∷ x) (feeds_snoc n)

simp_one : (n : ℕ) → suc n ≡ n + 1
simp_one n = omega arith

pub feeds_more : (new old start : List ℕ) (n : ℕ) → old ≡ start ++ line_feeds n → new ≡ old ++ 10 ∷ [] → new ≡ start ++ line_feeds (n + 1)
feeds_more new old start n e f = f ∙ ap (λ x. x ++ 10 ∷ []) e ∙ append_assoc start (line_feeds n) (10 ∷ [])
    ∙ ap (λ x. start ++ x) (feeds_snoc n ∙ ap line_feeds (simp_one n))

-- one more part of a card
part_kept : (at : ℕ) (card : List ℕ) (start end : ℕ) (rest : List Span) →
    part_from at card start end ++ map (moved at) (kept card rest) ≡ map (moved at) (kept card (record { start = start; end = end } ∷ rest))
part_kept at card start end rest = elim (cases_Bool (list_all is_blank (slice_range card start end))) [
  | inl b ↦ rw b refl
  | inr b ↦ rw b refl
]

pub part_added : (at : ℕ) (card : List ℕ) (start end : ℕ) (old new : List Span) (rest : List Span) → new ≡ old ++ part_from at card start end →
    new ++ map (moved at) (kept card rest) ≡ old ++ map (moved at) (kept card (record { start = start; end = end } ∷ rest))
part_added at card start end old new rest e =
    ap (λ x. x ++ map (moved at) (kept card rest)) e ∙ append_assoc old (part_from at card start end) (map (moved at) (kept card rest))
    ∙ ap (λ x. old ++ x) (part_kept at card start end rest)

pub cut_here : (quote start i : ℕ) (card : List ℕ) → i < length card → get_or card i 0 ≡ 59 → quote ≡ 0 →
    cut quote start i (drop i card) ≡ record { start = start; end = i } ∷ cut 0 (i + 1) (i + 1) (drop (i + 1) card)
cut_here quote start i card h e f = rw (dropped i card h, e, f) refl

pub cut_on : (quote start i : ℕ) (card : List ℕ) → i < length card → ((get_or card i 0 == 59) && (quote == 0)) ≡ false →
    cut quote start i (drop i card) ≡ cut (quote_step quote (get_or card i 0)) start (i + 1) (drop (i + 1) card)
cut_on quote start i card h e = rw (dropped i card h, e) refl

pub continuation_some : (line : List ℕ) → is_continuation line ≡ true → 0 < length line
continuation_some [] h = absurd (cc)
continuation_some (b ∷ bs) h = omega arith

pub kind_continuation : (begun : Bool) (line : List ℕ) (kind : LineKind) → kind ≡ kind_of begun line → kind ≡ Continuation → is_continuation line ≡ true
kind_continuation begun line kind e f = let g = sym e ∙ f in elim (cases_Bool (is_skipped line)) [
  | inl a ↦ absurd (let h = rw a at g in cc)
  | inr a ↦ elim (cases_Bool (begun && is_continuation line)) [
    | inl b ↦ grind (arith, common_steps)
    | inr b ↦ absurd (let h = rw (a, b) at g in cc)
  ]
]

prepend_prepend : (x y : List ℕ) (cs : List (List ℕ)) → prepend x (prepend y cs) ≡ prepend (x ++ y) cs
prepend_prepend x y [] = refl
prepend_prepend x y (c ∷ cs) = ap (λ z. z ∷ cs) (sym (append_assoc x y c))

prepend_nil : (y : List ℕ) (cs : List (List ℕ)) → prepend [] (prepend y cs) ≡ prepend y cs
prepend_nil y cs = prepend_prepend [] y cs

pub concat_prepend : (x : List ℕ) (cs : List (List ℕ)) → concat (prepend x cs) ≡ x ++ concat cs
concat_prepend x [] = refl
concat_prepend x (c ∷ cs) = append_assoc x c (concat cs)

-- a line that begins no card, and one that does
cards_joined : (begun : Bool) (line : List ℕ) (lines : List (List ℕ)) (kind : LineKind) → kind ≡ kind_of begun (without_terminator line) → kind ≢ Card →
    cards_from begun (line ∷ lines) ≡ prepend (read_line kind line) (cards_from begun lines)
cards_joined begun line lines kind e h = elim (cases_Bool (is_skipped (without_terminator line))) [
  | inl a ↦ let f : kind ≡ Skipped = rw a at e in rw (f, a) refl
  | inr a ↦ elim (cases_Bool begun) [
    | inl b ↦ elim (cases_Bool (is_continuation (without_terminator line))) [
      | inl d ↦ let f : kind ≡ Continuation = rw (a, b, d) at e in rw (f, a, b, d) refl
      | inr d ↦ absurd (h (rw (a, b, d) at e))
    ]
    | inr b ↦ absurd (h (rw (a, b) at e))
  ]
]

cards_begun : (begun : Bool) (line : List ℕ) (lines : List (List ℕ)) (kind : LineKind) → kind ≡ kind_of begun (without_terminator line) → kind ≡ Card →
    cards_from begun (line ∷ lines) ≡ [] ∷ prepend (own line) (cards_from true lines)
cards_begun begun line lines kind e h = elim (cases_Bool (is_skipped (without_terminator line))) [
  | inl a ↦ let f : kind ≡ Skipped = rw a at e in absurd (cc)
  | inr a ↦ elim (cases_Bool (begun && is_continuation (without_terminator line))) [
    | inl b ↦ let f : kind ≡ Continuation = rw (a, b) at e in absurd (cc)
    | inr b ↦ rw (a, b) refl
  ]
]

cards_nil : (begun : Bool) (lines : List (List ℕ)) → prepend [] (cards_from begun lines) ≡ cards_from begun lines
cards_nil begun [] = refl
cards_nil begun (line ∷ lines) = elim (cases_Bool (is_skipped (without_terminator line))) [
  | inl a ↦ rw a (prepend_nil (line_feeds (length line)) (cards_from begun lines))
  | inr a ↦ elim (cases_Bool (begun && is_continuation (without_terminator line))) [
    | inl b ↦ rw (a, b) (prepend_nil (continued line) (cards_from true lines))
    | inr b ↦ rw (a, b) refl
  ]
]

drop_append : (n : ℕ) (xs ys : List ℕ) → n ≤ length xs → drop n (xs ++ ys) ≡ drop n xs ++ ys
drop_append zero xs ys h = refl
drop_append (suc n) [] ys h = absurd (omega arith)
drop_append (suc n) (x ∷ xs) ys h = drop_append n xs ys (omega arith)

drop_length : (xs ys : List ℕ) → drop (length xs) (xs ++ ys) ≡ ys
drop_length [] ys = refl
drop_length (x ∷ xs) ys = drop_length xs ys

length_dropped : (n : ℕ) (xs : List ℕ) → n ≤ length xs → n + length (drop n xs) ≡ length xs
length_dropped zero xs h = omega arith
length_dropped (suc n) [] h = absurd (omega arith)
length_dropped (suc n) (x ∷ xs) h = omega (arith, length_dropped n xs (omega arith))

pub length_added : (xs ys : List ℕ) → length (xs ++ ys) ≡ length xs + length ys
length_added xs ys = simp length-append

-- What the loop over the lines keeps: what was joined and cut, and what is to come.
pub record Laid (s : List ℕ) (begun : Bool) (start : ℕ) (text : List ℕ) (spans : List Span) (rest : List (List ℕ)) : Type 0 where
  pub joined : text ++ concat (cards_from begun rest) ≡ joined s
  pub extents : spans ++ extents_from start (prepend (drop start text) (cards_from begun rest)) ≡ extents s
  pub order : start ≤ length text

pub laid_first : (s : List ℕ) → Laid s false 0 [] [] (lines_of s)
laid_first s = record { joined = refl; extents = ap (extents_from 0) (cards_nil false (lines_of s)); order = omega arith }

pub laid_line : (s : List ℕ) (begun : Bool) (start : ℕ) (text new : List ℕ) (spans : List Span) (line : List ℕ) (rest : List (List ℕ)) (kind : LineKind) →
    kind ≡ kind_of begun (without_terminator line) → kind ≢ Card → new ≡ text ++ read_line kind line → Laid s begun start text spans (line ∷ rest)
    → Laid s begun start new spans rest
laid_line s begun start text new spans line rest kind e h f l =
    let is = cards_joined begun line rest kind e h in
    let cs = cards_from begun rest in
    let o = l.order in
    record {
      joined = ap (λ x. x ++ concat cs) f ∙ append_assoc text (read_line kind line) (concat cs)
          ∙ ap (λ x. text ++ x) (sym (concat_prepend (read_line kind line) cs)) ∙ ap (λ x. text ++ concat x) (sym is) ∙ l.joined;
      extents =
          ap (λ x. spans ++ extents_from start (prepend (drop start x) cs)) f
          ∙ ap (λ x. spans ++ extents_from start (prepend x cs)) (drop_append start text (read_line kind line) o)
          ∙ ap (λ x. spans ++ extents_from start x) (sym (prepend_prepend (drop start text) (read_line kind line) cs))
          ∙ ap (λ x. spans ++ extents_from start (prepend (drop start text) x)) (sym is)
          ∙ l.extents;
      order = let n : length new ≡ length text + length (read_line kind line) = ap length f ∙ length_added text (read_line kind line) in omega arith;
    }

drop_whole : (n : ℕ) (xs : List ℕ) → take (length xs - n) (drop n xs) ≡ drop n xs
drop_whole n xs = take_all (length xs - n) (drop n xs) (omega (arith, length-drop n xs))

pub laid_card : (s : List ℕ) (begun : Bool) (start : ℕ) (text new : List ℕ) (spans more : List Span) (line : List ℕ) (rest : List (List ℕ)) (kind : LineKind) →
    kind ≡ kind_of begun (without_terminator line) → kind ≡ Card → new ≡ text ++ read_line kind line
    → more ≡ spans ++ map (moved start) (statements_of (take (length text - start) (drop start text))) →
    Laid s begun start text spans (line ∷ rest) → Laid s true (length text) new more rest
laid_card s begun start text new spans more line rest kind e h f g l =
    let is = cards_begun begun line rest kind e h in
    let cs = cards_from true rest in
    let d = drop start text in
    let added : new ≡ text ++ own line = f ∙ ap (λ x. text ++ read_line x line) h in
    record {
      joined = ap (λ x. x ++ concat cs) added ∙ append_assoc text (own line) (concat cs) ∙ ap (λ x. text ++ x) (sym (concat_prepend (own line) cs))
          ∙ ap (λ x. text ++ concat x) (sym is) ∙ l.joined;
      extents =
          ap (λ x. more ++ extents_from (length text) (prepend (drop (length text) x) cs)) added
          ∙ ap (λ x. more ++ extents_from (length text) (prepend x cs)) (drop_length text (own line))
          ∙ ap (λ x. x ++ extents_from (length text) (prepend (own line) cs))
          (g ∙ ap (λ x. spans ++ map (moved start) (statements_of x)) (drop_whole start text))
          ∙ append_assoc spans (map (moved start) (statements_of d)) (extents_from (length text) (prepend (own line) cs))
          ∙ ap (λ x. spans ++ (map (moved start) (statements_of d) ++ extents_from x (prepend (own line) cs))) (sym (length_dropped start text l.order))
          ∙ ap (λ x. spans ++ (map (moved start) (statements_of x) ++ extents_from (start + length x) (prepend (own line) cs))) (sym (append-nil d))
          ∙ ap (λ x. spans ++ extents_from start (prepend d x)) (sym is)
          ∙ l.extents;
      order = let n : length new ≡ length text + length (own line) = ap length added ∙ length_added text (own line) in omega arith;
    }

pub laid_joined : (s : List ℕ) (begun : Bool) (start : ℕ) (text : List ℕ) (spans : List Span) (rest : List (List ℕ)) → rest ≡ []
    → Laid s begun start text spans rest → text ≡ joined s
laid_joined s begun start text spans rest e l = sym (append-nil text) ∙ ap (λ x. text ++ concat (cards_from begun x)) (sym e) ∙ l.joined

pub laid_extents : (s : List ℕ) (begun : Bool) (start : ℕ) (text : List ℕ) (spans more : List Span) (rest : List (List ℕ)) → rest ≡ []
    → more ≡ spans ++ map (moved start) (statements_of (take (length text - start) (drop start text))) →
    Laid s begun start text spans rest → more ≡ extents s
laid_extents s begun start text spans more rest e g l =
    let d = drop start text in
    g ∙ ap (λ x. spans ++ map (moved start) (statements_of x)) (drop_whole start text)
    ∙ ap (λ x. spans ++ x) (sym (append-nil (map (moved start) (statements_of d))))
    ∙ ap (λ x. spans ++ (map (moved start) (statements_of x) ++ [])) (sym (append-nil d))
    ∙ ap (λ x. spans ++ extents_from start (prepend d (cards_from begun x))) (sym e)
    ∙ l.extents

pub ruleset layout_facts = (blank_more, feeds_more)

pub ruleset line_facts = (continuation_some, kind_continuation)
