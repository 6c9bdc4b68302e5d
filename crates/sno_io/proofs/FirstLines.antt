-- The first line of a text, by where its first line feed stands.
use Rattle.std.proofs.Common.{◌≡◌, ℕ, ◌+◌, ◌-◌, ◌<◌, ◌≤◌, ◌⊎◌, inl, inr, List, [], ◌∷◌, ◌++◌, length, take, drop, get_or, refl, ap, ap₂, sym, ◌∙◌, arith}
use Rattle.std.proofs.Common.{Some, false, not}
use Rattle.std.specs.Prelude.{Contains}
use Rattle.std.proofs.lemmas.Bool.{both_ways, cases_lt, eq-eqb, false_from_ne_true, ne_eqb}
use Rattle.std.proofs.lemmas.List.{append-nil, take-append-le, drop-append-le, get_or-drop, length-append, length-drop}
use Rattle.std.proofs.lemmas.List.Folds.{length-prefix_len, prefix_len-append}
use Rattle.std.proofs.lemmas.List.Sums.{fails_before_first, position_or_len_is, prefix_len-le-length}
use Rattle.bstr.specs.Find.{NoneBefore, Nowhere, Passes, is_byte}
use Rattle.sno_io.specs.Lines.{behind_line, first_line, is_line_feed, line_length, next_line}

pub line_length-le : (text : List ℕ) → line_length text ≤ length text
line_length-le text = prefix_len-le-length (λ b. not (is_line_feed b)) text

-- the same, where so many bytes of what stands behind them are none either
feedless : (text part : List ℕ) (searched n : ℕ) → searched ≤ line_length text → part ≡ drop searched text
    → Nowhere (Passes (is_byte 10) part) 0 n → (k : ℕ) → k < searched + n → is_line_feed (get_or text k 0) ≡ false
feedless text part searched n within e nowhere k lt = go (cases_lt k searched)
  where
    go : (k < searched) ⊎ (searched ≤ k) → is_line_feed (get_or text k 0) ≡ false
    go (inl below) = fails_before_first is_line_feed text k 0 (omega arith)
    go (inr behind) =
        let place : searched + (k - searched) ≡ k = omega arith in
        let same : get_or part (k - searched) 0 ≡ get_or text k 0 =
        ap (λ xs. get_or xs (k - searched) 0) e ∙ get_or-drop searched text (k - searched) 0 ∙ ap (λ i. get_or text i 0) place in
        ap is_line_feed (sym same) ∙ false_from_ne_true (is_line_feed (get_or part (k - searched) 0)) (nowhere (k - searched) (omega arith) (omega arith))

-- the first line feed of what stands behind the first bytes, which have none
pub found : (text part : List ℕ) (searched k : ℕ) → searched ≤ line_length text → part ≡ drop searched text
    → NoneBefore (Passes (is_byte 10) part) 0 (length part) k → Passes (is_byte 10) part k → searched + k ≡ line_length text
found text part searched k within e none here =
    let inside : searched + k ≤ length text = omega (arith, none.high, ap length e, length-drop searched text) in
    let same : get_or part k 0 ≡ get_or text (searched + k) 0 = ap (λ xs. get_or xs k 0) e ∙ get_or-drop searched text k 0 in
    sym (position_or_len_is is_line_feed text (searched + k) 0 inside (feedless text part searched k within e none.before)
    (λ lt. ap is_line_feed (sym same) ∙ here))

-- there is none behind the first bytes either
pub not_found : (text part : List ℕ) (searched : ℕ) → searched ≤ line_length text → part ≡ drop searched text
    → Nowhere (Passes (is_byte 10) part) 0 (length part) → length text ≡ line_length text
not_found text part searched within e nowhere =
    let size : searched + length part ≡ length text = omega (arith, ap length e, length-drop searched text, line_length-le text) in
    sym (position_or_len_is is_line_feed text (length text) 0 (omega arith)
    (λ k lt. feedless text part searched (length part) within e nowhere k (omega arith)) (λ lt. absurd (omega arith)))

-- a text that has a line feed
pub has_feed : (text : List ℕ) → Contains text 10 → line_length text < length text
has_feed text h = go (cases_lt h.0 (line_length text))
  where
    go : (h.0 < line_length text) ⊎ (line_length text ≤ h.0) → line_length text < length text
    go (inl lt) = absurd (both_ways _ (fails_before_first is_line_feed text h.0 10 lt) (eq-eqb _ 10 h.2))
    go (inr le) = let inside = h.1 in omega arith

-- more behind a text that has a line feed, and behind one that has none
pub line_length-whole : (text more : List ℕ) → line_length text < length text → line_length (text ++ more) ≡ line_length text
line_length-whole text more lt =
    prefix_len-append (λ b. not (is_line_feed b)) text more ∙ rw (ne_eqb (line_length text) (length text) (λ e. absurd (omega arith))) refl

pub line_length-open : (text more : List ℕ) → line_length text ≡ length text → line_length (text ++ more) ≡ length text + line_length more
line_length-open text more e =
    prefix_len-append (λ b. not (is_line_feed b)) text more ∙ rw (eq-eqb (line_length text) (length text) e) refl

pub line_length-grows : (text more : List ℕ) → line_length text ≤ line_length (text ++ more)
line_length-grows text more = go (cases_lt (line_length text) (length text))
  where
    go : (line_length text < length text) ⊎ (length text ≤ line_length text) → line_length text ≤ line_length (text ++ more)
    go (inl lt) = omega (arith, line_length-whole text more lt)
    go (inr le) =
        let inside = line_length-le text in
        omega (arith, line_length-open text more (omega arith))

next_some : (text : List ℕ) → 0 < length text → next_line text ≡ Some (first_line text, behind_line text)
next_some [] h = absurd (omega arith)
next_some (b ∷ bs) h = refl

-- the next line of a text that has its line feed, whatever comes behind it
pub next_whole : (text more : List ℕ) → line_length text < length text → next_line (text ++ more) ≡ Some (first_line text, behind_line text ++ more)
next_whole text more lt =
    let same = line_length-whole text more lt in
    let front : first_line (text ++ more) ≡ first_line text =
    ap (λ n. take n (text ++ more)) same ∙ take-append-le (line_length text) text more (omega arith) in
    let back : behind_line (text ++ more) ≡ behind_line text ++ more =
    ap (λ n. drop (n + 1) (text ++ more)) same ∙ drop-append-le (line_length text + 1) text more (omega arith) in
    next_some (text ++ more) (omega (arith, length-append text more)) ∙ ap₂ (λ line rest. Some (line, rest)) front back

-- the next line of a text behind which nothing comes
pub next_last : (text more : List ℕ) → 0 < length text → more ≡ [] → next_line (text ++ more) ≡ Some (first_line text, behind_line text ++ more)
next_last text more some e =
    let whole : text ++ more ≡ text = ap (λ zs. text ++ zs) e ∙ append-nil text in
    let rest : behind_line text ≡ behind_line text ++ more = sym (ap (λ zs. behind_line text ++ zs) e ∙ append-nil (behind_line text)) in
    ap next_line whole ∙ next_some text some ∙ ap (λ zs. Some (first_line text, zs)) rest

-- a line that is too long stays so, whatever comes behind it
pub too_long : (most : ℕ) (text more : List ℕ) → most < line_length text → most < length (first_line (text ++ more))
too_long most text more lt =
    omega (arith, line_length-grows text more, length-prefix_len (λ b. not (is_line_feed b)) (text ++ more))
