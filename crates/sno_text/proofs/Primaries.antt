-- Each kind of primary is found exactly.
use Rattle.std.proofs.Common.{◌≡◌, ◌≢◌, ℕ, ◌+◌, ◌-◌, ◌<◌, ◌⊎◌, inl, inr, true, false, List, take, drop, arith, refl, sym, ◌∙◌, ap, subst, Some, None, Option}
use Rattle.std.proofs.Common.{if◌then◌else◌, ◌||◌, ◌==◌}
use Rattle.std.proofs.lemmas.Bool.{cases_lt, cases_order, false_from_ne_true}
use Rattle.std.proofs.lemmas.Bool.Decides.{nat_tests}
use Rattle.sno_text.specs.declared.bytes.Class.TheVariants.{Blank, NameByte, Digit}
use Rattle.sno_text.specs.declared.node.Operator.{Operator}
use Rattle.sno_text.specs.Bytes.{byte, is_blank, is_unary, is_first, is_letter, is_digit, is_opening, is_closing, can_start, IsWholeRun}
use Rattle.sno_text.specs.Trees.{Tree, Variable, Integer, Literal, Keyword}
use Rattle.sno_text.specs.Grammar.{decimal, applied, IsPair, IsGap, IsName, IsDigits, IsLiteral, Level, Primary, Arguments, Reads, variable, integer, literal}
use Rattle.sno_text.specs.Grammar.{keyword, group, apply}
use Rattle.sno_text.specs.inner.Links.{Starts, Stops, Finds, Refuses, Shuts, Closes, sign_of, sign_at, single, Lands}
use Rattle.sno_text.proofs.Runs.{run_end_unique}
use Rattle.sno_text.proofs.Starts.{reads_start, start_not_blank, start_can_start}

-- the kinds of primaries by their first byte: 1 a name, 2 digits, 3 a quote, 4 an ampersand, 5 a bracket
unfoldable kind : ℕ → ℕ
kind b = if is_letter b then 1 else if is_digit b then 2 else if (b == 39) || (b == 34) then 3 else if b == 38 then 4 else if b == 40 then 5 else 0

kind_letter : (b : ℕ) → is_letter b ≡ true → kind b ≡ 1
unfolding kind
kind_letter b h = rw h refl

kind_digit : (b : ℕ) → is_digit b ≡ true → kind b ≡ 2
unfolding kind is_letter is_digit
kind_digit b h = grind (arith, nat_tests)

kind_quote : (b : ℕ) → (b ≡ 39) ⊎ (b ≡ 34) → kind b ≡ 3
unfolding kind is_letter is_digit
kind_quote b (inl e) = rw e refl
kind_quote b (inr e) = rw e refl

kind_ampersand : (b : ℕ) → b ≡ 38 → kind b ≡ 4
unfolding kind is_letter is_digit
kind_ampersand b e = rw e refl

kind_bracket : (b : ℕ) → b ≡ 40 → kind b ≡ 5
unfolding kind is_letter is_digit
kind_bracket b e = rw e refl

apart : (b m n : ℕ) → kind b ≡ m → kind b ≡ n → m ≢ n → ⊥
apart b m n e f h = h (sym e ∙ f)

-- the kind that a primary has
reads_kind : {s : List ℕ} {i j : ℕ} {t : Tree} → Reads s Primary i j t →
    ((kind (byte s i) ≡ 1) × IsName s i j × (t ≡ Variable i j))
    ⊎ (((kind (byte s i) ≡ 1) × (k m : ℕ) × (u : Tree) × IsName s i k × IsPair (byte s k) (byte s m) × Reads s Arguments (k + 1) m u × (j ≡ m + 1)
    × (t ≡ applied (byte s k) i k u))
    ⊎ (((kind (byte s i) ≡ 2) × IsDigits s i j × (t ≡ Integer (decimal 0 (take (j - i) (drop i s)))))
    ⊎ (((kind (byte s i) ≡ 3) × IsLiteral s i j × (t ≡ Literal (i + 1) (j - 1)))
    ⊎ (((kind (byte s i) ≡ 4) × IsName s (i + 1) j × (t ≡ Keyword (i + 1) j))
    ⊎ ((kind (byte s i) ≡ 5) × (k m l : ℕ) × IsGap s (i + 1) k × Reads s (Level 0) k m t × IsGap s m l × (byte s l ≡ 41) × (j ≡ l + 1))))))
reads_kind {s} {i} (variable n e) = inl (kind_letter _ n.letter, n, e)
reads_kind {s} {i} (apply {k = k} {m = m} {u = u} n p a b e) = inr (inl (kind_letter _ n.letter, k, m, u, n, p, a, b, e))
reads_kind {s} {i} (integer n e) = inr (inr (inl (kind_digit _ (n.digits.run.each i (omega arith) n.some), n, e)))
reads_kind {s} {i} (literal n e) = inr (inr (inr (inl (kind_quote _ n.quote, n, e))))
reads_kind {s} {i} (keyword h n e) = inr (inr (inr (inr (inl (kind_ampersand _ h, n, e)))))
reads_kind {s} {i} (group {k = k} {m = m} {l = l} h a b c d e) = inr (inr (inr (inr (inr (kind_bracket _ h, k, m, l, a, b, c, d, e)))))

pair_opening : (a b : ℕ) → IsPair a b → is_opening a ≡ true
unfolding is_opening
pair_opening a b (inl p) = rw p.0 refl
pair_opening a b (inr (inl p)) = rw p.0 refl
pair_opening a b (inr (inr p)) = rw p.0 refl

-- a variable
pub finds_variable : (s : List ℕ) (i e : ℕ) → IsName s i e → is_opening (byte s e) ≡ false → Finds s Primary (Stops s 7) i e (Variable i e)
finds_variable s i e n h = record {
  reads = variable n refl;
  only = λ j t r stops.
      let mine = kind_letter _ n.letter in
      elim (reads_kind r) [
        | inl (k, m, f) ↦ let g : j ≡ e = run_end_unique NameByte s i j e m.rest n.rest in (g, f ∙ ap (λ x. Variable i x) g)
        | inr (inl (k, l, m, u, o, p, a, b, f)) ↦ let g : l ≡ e = run_end_unique NameByte s i l e o.rest n.rest in let opens =
            rw g at (pair_opening _ _ p) in absurd (cc)
        | inr (inr (inl q)) ↦ absurd (apart _ 1 2 mine q.0 (λ x. cc))
        | inr (inr (inr (inl q))) ↦ absurd (apart _ 1 3 mine q.0 (λ x. cc))
        | inr (inr (inr (inr (inl q)))) ↦ absurd (apart _ 1 4 mine q.0 (λ x. cc))
        | inr (inr (inr (inr (inr q)))) ↦ absurd (apart _ 1 5 mine q.0 (λ x. cc))
      ];
}

-- an integer
pub finds_integer : (s : List ℕ) (i e : ℕ) → IsDigits s i e → Finds s Primary (Stops s 7) i e (Integer (decimal 0 (take (e - i) (drop i s))))
finds_integer s i e n = record {
  reads = integer n refl;
  only = λ j t r stops.
      let mine = kind_digit _ (n.digits.run.each i (omega arith) n.some) in
      elim (reads_kind r) [
        | inl q ↦ absurd (apart _ 2 1 mine q.0 (λ x. cc))
        | inr (inl q) ↦ absurd (apart _ 2 1 mine q.0 (λ x. cc))
        | inr (inr (inl (k, m, f))) ↦ let g : j ≡ e = run_end_unique Digit s i j e m.digits n.digits in
            (g, f ∙ ap (λ x. Integer (decimal 0 (take (x - i) (drop i s)))) g)
        | inr (inr (inr (inl q))) ↦ absurd (apart _ 2 3 mine q.0 (λ x. cc))
        | inr (inr (inr (inr (inl q)))) ↦ absurd (apart _ 2 4 mine q.0 (λ x. cc))
        | inr (inr (inr (inr (inr q)))) ↦ absurd (apart _ 2 5 mine q.0 (λ x. cc))
      ];
}

literal_end : (s : List ℕ) (i j e : ℕ) → IsLiteral s i j → IsLiteral s i e → j < e → ⊥
literal_end s i j e a b lt = let o = a.room in b.inside (j - 1) (omega arith) (omega arith) a.closed

literal_unique : (s : List ℕ) (i j e : ℕ) → IsLiteral s i j → IsLiteral s i e → j ≡ e
literal_unique s i j e a b = elim (cases_order j e) [
  | inl eq ↦ eq
  | inr (inl lt) ↦ absurd (literal_end s i j e a b lt)
  | inr (inr gt) ↦ absurd (literal_end s i e j b a gt)
]

-- a literal
pub finds_literal : (s : List ℕ) (i e : ℕ) → IsLiteral s i e → Finds s Primary (Stops s 7) i e (Literal (i + 1) (e - 1))
finds_literal s i e n = record {
  reads = literal n refl;
  only = λ j t r stops.
      let mine = kind_quote _ n.quote in
      elim (reads_kind r) [
        | inl q ↦ absurd (apart _ 3 1 mine q.0 (λ x. cc))
        | inr (inl q) ↦ absurd (apart _ 3 1 mine q.0 (λ x. cc))
        | inr (inr (inl q)) ↦ absurd (apart _ 3 2 mine q.0 (λ x. cc))
        | inr (inr (inr (inl (k, m, f)))) ↦ let g : j ≡ e = literal_unique s i j e m n in (g, f ∙ ap (λ x. Literal (i + 1) (x - 1)) g)
        | inr (inr (inr (inr (inl q)))) ↦ absurd (apart _ 3 4 mine q.0 (λ x. cc))
        | inr (inr (inr (inr (inr q)))) ↦ absurd (apart _ 3 5 mine q.0 (λ x. cc))
      ];
}

-- a keyword
pub finds_keyword : (s : List ℕ) (i e : ℕ) → byte s i ≡ 38 → IsName s (i + 1) e → Finds s Primary (Stops s 7) i e (Keyword (i + 1) e)
finds_keyword s i e h n = record {
  reads = keyword h n refl;
  only = λ j t r stops.
      let mine = kind_ampersand _ h in
      elim (reads_kind r) [
        | inl q ↦ absurd (apart _ 4 1 mine q.0 (λ x. cc))
        | inr (inl q) ↦ absurd (apart _ 4 1 mine q.0 (λ x. cc))
        | inr (inr (inl q)) ↦ absurd (apart _ 4 2 mine q.0 (λ x. cc))
        | inr (inr (inr (inl q))) ↦ absurd (apart _ 4 3 mine q.0 (λ x. cc))
        | inr (inr (inr (inr (inl (k, m, f))))) ↦ let g : j ≡ e = run_end_unique NameByte s (i + 1) j e m.rest n.rest in (g, f ∙ ap (λ x. Keyword (i + 1) x) g)
        | inr (inr (inr (inr (inr q)))) ↦ absurd (apart _ 4 5 mine q.0 (λ x. cc))
      ];
}

-- a quote that opens no literal
pub refuses_literal : (s : List ℕ) (i : ℕ) → (byte s i ≡ 39) ⊎ (byte s i ≡ 34) → ((e : ℕ) → IsLiteral s i e → ⊥) → Refuses s Primary (Stops s 7) i
refuses_literal s i h never = record {
  none = λ j t r stops.
      let mine = kind_quote _ h in
      elim (reads_kind r) [
        | inl q ↦ absurd (apart _ 3 1 mine q.0 (λ x. cc))
        | inr (inl q) ↦ absurd (apart _ 3 1 mine q.0 (λ x. cc))
        | inr (inr (inl q)) ↦ absurd (apart _ 3 2 mine q.0 (λ x. cc))
        | inr (inr (inr (inl (k, m, f)))) ↦ never j m
        | inr (inr (inr (inr (inl q)))) ↦ absurd (apart _ 3 4 mine q.0 (λ x. cc))
        | inr (inr (inr (inr (inr q)))) ↦ absurd (apart _ 3 5 mine q.0 (λ x. cc))
      ];
}

-- an ampersand with no name
pub refuses_keyword : (s : List ℕ) (i : ℕ) → byte s i ≡ 38 → is_letter (byte s (i + 1)) ≡ false → Refuses s Primary (Stops s 7) i
refuses_keyword s i h never = record {
  none = λ j t r stops.
      let mine = kind_ampersand _ h in
      elim (reads_kind r) [
        | inl q ↦ absurd (apart _ 4 1 mine q.0 (λ x. cc))
        | inr (inl q) ↦ absurd (apart _ 4 1 mine q.0 (λ x. cc))
        | inr (inr (inl q)) ↦ absurd (apart _ 4 2 mine q.0 (λ x. cc))
        | inr (inr (inr (inl q))) ↦ absurd (apart _ 4 3 mine q.0 (λ x. cc))
        | inr (inr (inr (inr (inl (k, m, f))))) ↦ let letter = m.letter in absurd (cc)
        | inr (inr (inr (inr (inr q)))) ↦ absurd (apart _ 4 5 mine q.0 (λ x. cc))
      ];
}

kind_other : (b : ℕ) → is_letter b ≡ false → is_digit b ≡ false → b ≢ 39 → b ≢ 34 → b ≢ 38 → b ≢ 40 → kind b ≡ 0
unfolding kind
kind_other b a d e f g h = rw (a, d) (grind (arith, nat_tests))

-- no primary begins so
pub refuses_other : (s : List ℕ) (i : ℕ) → is_letter (byte s i) ≡ false → is_digit (byte s i) ≡ false → byte s i ≢ 39 → byte s i ≢ 34 → byte s i ≢ 38
    → byte s i ≢ 40 → Refuses s Primary (Stops s 7) i
refuses_other s i a b c d e f = record {
  none = λ j t r stops.
      let mine = kind_other (byte s i) a b c d e f in
      elim (reads_kind r) [
        | inl q ↦ absurd (apart _ 0 1 mine q.0 (λ x. cc))
        | inr (inl q) ↦ absurd (apart _ 0 1 mine q.0 (λ x. cc))
        | inr (inr (inl q)) ↦ absurd (apart _ 0 2 mine q.0 (λ x. cc))
        | inr (inr (inr (inl q))) ↦ absurd (apart _ 0 3 mine q.0 (λ x. cc))
        | inr (inr (inr (inr (inl q)))) ↦ absurd (apart _ 0 4 mine q.0 (λ x. cc))
        | inr (inr (inr (inr (inr q)))) ↦ absurd (apart _ 0 5 mine q.0 (λ x. cc))
      ];
}

-- A gap up to a byte that is no blank has one end.
gap_whole : (s : List ℕ) (i j : ℕ) → IsGap s i j → is_blank (byte s j) ≡ false → IsWholeRun Blank s i j
gap_whole s i j g h = record { run = g; stop = h }

shut_not_blank : (b : ℕ) → is_closing b ≡ true → is_blank b ≡ false
unfolding is_closing is_blank
shut_not_blank b h = grind (arith, nat_tests)

bracket_shuts : (b : ℕ) → b ≡ 41 → is_closing b ≡ true
unfolding is_closing
bracket_shuts b e = rw e refl

pub closes_not_blank : (s : List ℕ) (j : ℕ) → Closes s j → is_blank (byte s j) ≡ false
unfolding is_blank
closes_not_blank s j (inl e) = rw e refl
closes_not_blank s j (inr h) = shut_not_blank _ h

-- a byte that ends each level: the end of the text, a closing bracket, a comma
pub record IsEndByte (b : ℕ) : Type 0 where
  pub no_blank : is_blank b ≡ false
  pub no_start : can_start b ≡ false
  pub no_opening : is_opening b ≡ false
  pub no_sign : single b ≡ None
  pub no_star : b ≢ 42

end_byte_0 : IsEndByte 0
unfolding is_blank can_start is_opening single is_unary is_first is_letter is_digit
end_byte_0 = record { no_blank = refl; no_start = refl; no_opening = refl; no_sign = refl; no_star = λ f. cc }

end_byte_44 : IsEndByte 44
unfolding is_blank can_start is_opening single is_unary is_first is_letter is_digit
end_byte_44 = record { no_blank = refl; no_start = refl; no_opening = refl; no_sign = refl; no_star = λ f. cc }

end_byte_41 : IsEndByte 41
unfolding is_blank can_start is_opening single is_unary is_first is_letter is_digit
end_byte_41 = record { no_blank = refl; no_start = refl; no_opening = refl; no_sign = refl; no_star = λ f. cc }

end_byte_62 : IsEndByte 62
unfolding is_blank can_start is_opening single is_unary is_first is_letter is_digit
end_byte_62 = record { no_blank = refl; no_start = refl; no_opening = refl; no_sign = refl; no_star = λ f. cc }

end_byte_93 : IsEndByte 93
unfolding is_blank can_start is_opening single is_unary is_first is_letter is_digit
end_byte_93 = record { no_blank = refl; no_start = refl; no_opening = refl; no_sign = refl; no_star = λ f. cc }

pub end_byte_zero : (b : ℕ) → b ≡ 0 → IsEndByte b
end_byte_zero b e = subst IsEndByte (sym e) end_byte_0

shut_cases : (b : ℕ) → is_closing b ≡ true → (b ≡ 41) ⊎ ((b ≡ 62) ⊎ (b ≡ 93))
unfolding is_closing
shut_cases b h = grind (arith, nat_tests)

end_byte_shut : (b : ℕ) → (b ≡ 41) ⊎ ((b ≡ 62) ⊎ (b ≡ 93)) → IsEndByte b
end_byte_shut b h = elim h [
  | inl e ↦ subst IsEndByte (sym e) end_byte_41
  | inr (inl e) ↦ subst IsEndByte (sym e) end_byte_62
  | inr (inr e) ↦ subst IsEndByte (sym e) end_byte_93
]

pub end_byte_closes : (s : List ℕ) (j : ℕ) → Closes s j → IsEndByte (byte s j)
end_byte_closes s j (inl e) = subst IsEndByte (sym e) end_byte_44
end_byte_closes s j (inr h) = end_byte_shut _ (shut_cases _ h)

no_sign_at : (a b c : ℕ) → IsEndByte a → sign_of a b c ≡ None
unfolding sign_of
no_sign_at a b c h = let f = h.no_sign in let g = h.no_star in grind (arith, nat_tests)

lands_none : (s : List ℕ) (k : ℕ) (sign : Option Operator) (o : Operator) (l : ℕ) → sign ≡ None → can_start (byte s k) ≡ false → Lands s k sign o l → ⊥
lands_none s k None o l e h a = let f = a.2 in cc
lands_none s k (Some p) o l e h a = cc

blank_no_opening : (b : ℕ) → is_blank b ≡ true → is_opening b ≡ false
unfolding is_blank is_opening
blank_no_opening b h = grind (arith, nat_tests)

-- a level stops before a gap and a byte that ends it
pub gap_stops : (s : List ℕ) (level j k : ℕ) → IsGap s j k → IsEndByte (byte s k) → Stops s level j
gap_stops s level j k g h = record {
  looser = λ o l a.
      let e : a.at ≡ k = run_end_unique Blank s j a.at k a.blanks (gap_whole s j k g h.no_blank) in
      let b : Lands s k (sign_at s k) o l = subst (λ x. Lands s x (sign_at s x) o l) e a.lands in
      absurd (lands_none s k (sign_at s k) o l (no_sign_at (byte s k) (byte s (k + 1)) (byte s (k + 2)) h) h.no_start b);
  no_bracket = elim (cases_lt j k) [
    | inl lt ↦ blank_no_opening _ (g.each j (omega arith) lt)
    | inr ge ↦ let o = g.order in let e : k ≡ j = omega arith in rw e at h.no_opening
  ];
}

-- a start ends no level
pub start_no_end : (s : List ℕ) (k : ℕ) → Starts s k → IsEndByte (byte s k) → ⊥
start_no_end s k r h = let f = start_can_start s k r in let g = h.no_start in cc

gap_unique : (s : List ℕ) (i j k : ℕ) → IsGap s i j → IsGap s i k → is_blank (byte s j) ≡ false → is_blank (byte s k) ≡ false → j ≡ k
gap_unique s i j k a b f g = run_end_unique Blank s i j k (gap_whole s i j a f) (gap_whole s i k b g)

start_not_blank' : (s : List ℕ) (i : ℕ) → Starts s i → is_blank (byte s i) ≡ false
start_not_blank' s i r = false_from_ne_true _ (start_not_blank s i r)

-- an expression between gaps, up to a byte that ends it
pub inner_only : (s : List ℕ) (i k m l : ℕ) (t : Tree) → IsWholeRun Blank s i k → Finds s (Level 0) (Stops s 0) k m t → IsWholeRun Blank s m l →
    (k' m' l' : ℕ) (t' : Tree) → IsGap s i k' → Reads s (Level 0) k' m' t' → IsGap s m' l' → IsEndByte (byte s l') → (l' ≡ l) × (t' ≡ t)
inner_only s i k m l t g f h k' m' l' t' g' r h' ends =
    let start = reads_start r in
    let e : k' ≡ k = run_end_unique Blank s i k' k (gap_whole s i k' g' (start_not_blank' s k' start)) g in
    let r' : Reads s (Level 0) k m' t' = subst (λ x. Reads s (Level 0) x m' t') e r in
    let q = f.only m' t' r' (gap_stops s 0 m' l' h' ends) in
    let h'' : IsGap s m l' = subst (λ x. IsGap s x l') q.0 h' in
    (run_end_unique Blank s m l' l (gap_whole s m l' h'' ends.no_blank) h, q.1)

pub inner_none : (s : List ℕ) (i k : ℕ) → IsWholeRun Blank s i k → Refuses s (Level 0) (Stops s 0) k →
    (k' m' l' : ℕ) (t' : Tree) → IsGap s i k' → Reads s (Level 0) k' m' t' → IsGap s m' l' → IsEndByte (byte s l') → ⊥
inner_none s i k g f k' m' l' t' g' r h' ends =
    let start = reads_start r in
    let e : k' ≡ k = run_end_unique Blank s i k' k (gap_whole s i k' g' (start_not_blank' s k' start)) g in
    f.none m' t' (subst (λ x. Reads s (Level 0) x m' t') e r) (gap_stops s 0 m' l' h' ends)

pub end_byte_bracket : (b : ℕ) → b ≡ 41 → IsEndByte b
end_byte_bracket b e = end_byte_shut b (inl e)

-- a group
pub finds_group : (s : List ℕ) (i k m l : ℕ) (t : Tree) → byte s i ≡ 40 → IsWholeRun Blank s (i + 1) k → Finds s (Level 0) (Stops s 0) k m t
    → IsWholeRun Blank s m l → byte s l ≡ 41 →
    Finds s Primary (Stops s 7) i (l + 1) t
finds_group s i k m l t opened g f h shut = record {
  reads = group opened g.run f.reads h.run shut refl;
  only = λ j t' r stops.
      let mine = kind_bracket _ opened in
      elim (reads_kind r) [
        | inl q ↦ absurd (apart _ 5 1 mine q.0 (λ x. cc))
        | inr (inl q) ↦ absurd (apart _ 5 1 mine q.0 (λ x. cc))
        | inr (inr (inl q)) ↦ absurd (apart _ 5 2 mine q.0 (λ x. cc))
        | inr (inr (inr (inl q))) ↦ absurd (apart _ 5 3 mine q.0 (λ x. cc))
        | inr (inr (inr (inr (inl q)))) ↦ absurd (apart _ 5 4 mine q.0 (λ x. cc))
        | inr (inr (inr (inr (inr (q, k', m', l', g', a, h', c, d))))) ↦ let e =
            inner_only s (i + 1) k m l t g f h k' m' l' t' g' a h' (end_byte_bracket _ c) in (d ∙ ap (λ x. x + 1) e.0, e.1)
      ];
}

pub refuses_group : (s : List ℕ) (i k : ℕ) → byte s i ≡ 40 → IsWholeRun Blank s (i + 1) k → Refuses s (Level 0) (Stops s 0) k → Refuses s Primary (Stops s 7) i
refuses_group s i k opened g f = record {
  none = λ j t r stops.
      let mine = kind_bracket _ opened in
      elim (reads_kind r) [
        | inl q ↦ absurd (apart _ 5 1 mine q.0 (λ x. cc))
        | inr (inl q) ↦ absurd (apart _ 5 1 mine q.0 (λ x. cc))
        | inr (inr (inl q)) ↦ absurd (apart _ 5 2 mine q.0 (λ x. cc))
        | inr (inr (inr (inl q))) ↦ absurd (apart _ 5 3 mine q.0 (λ x. cc))
        | inr (inr (inr (inr (inl q)))) ↦ absurd (apart _ 5 4 mine q.0 (λ x. cc))
        | inr (inr (inr (inr (inr (q, k', m', l', g', a, h', c, d))))) ↦ inner_none s (i + 1) k g f k' m' l' t g' a h' (end_byte_bracket _ c)
      ];
}

pub refuses_unclosed : (s : List ℕ) (i k m l : ℕ) (t : Tree) → byte s i ≡ 40 → IsWholeRun Blank s (i + 1) k → Finds s (Level 0) (Stops s 0) k m t
    → IsWholeRun Blank s m l → byte s l ≢ 41 →
    Refuses s Primary (Stops s 7) i
refuses_unclosed s i k m l t opened g f h never = record {
  none = λ j t' r stops.
      let mine = kind_bracket _ opened in
      elim (reads_kind r) [
        | inl q ↦ absurd (apart _ 5 1 mine q.0 (λ x. cc))
        | inr (inl q) ↦ absurd (apart _ 5 1 mine q.0 (λ x. cc))
        | inr (inr (inl q)) ↦ absurd (apart _ 5 2 mine q.0 (λ x. cc))
        | inr (inr (inr (inl q))) ↦ absurd (apart _ 5 3 mine q.0 (λ x. cc))
        | inr (inr (inr (inr (inl q)))) ↦ absurd (apart _ 5 4 mine q.0 (λ x. cc))
        | inr (inr (inr (inr (inr (q, k', m', l', g', a, h', c, d))))) ↦ let e =
            inner_only s (i + 1) k m l t g f h k' m' l' t' g' a h' (end_byte_bracket _ c) in let shut = rw e.0 at c in never shut
      ];
}

pub pair_shut : (a b : ℕ) → IsPair a b → is_closing b ≡ true
unfolding is_closing
pair_shut a b (inl p) = rw p.1 refl
pair_shut a b (inr (inl p)) = rw p.1 refl
pair_shut a b (inr (inr p)) = rw p.1 refl

-- a name with arguments
pub finds_apply : (s : List ℕ) (i k m : ℕ) (u : Tree) → IsName s i k → IsPair (byte s k) (byte s m) → Finds s Arguments (Shuts s) (k + 1) m u →
    Finds s Primary (Stops s 7) i (m + 1) (applied (byte s k) i k u)
finds_apply s i k m u n p f = record {
  reads = apply n p f.reads refl refl;
  only = λ j t r stops.
      let mine = kind_letter _ n.letter in
      elim (reads_kind r) [
        | inl (q, o, e) ↦ let g : j ≡ k = run_end_unique NameByte s i j k o.rest n.rest in let closed = rw g at stops.no_bracket in let opens =
            pair_opening _ _ p in absurd (cc)
        | inr (inl (q, k', m', u', o, p', a, d, e)) ↦ let g : k' ≡ k = run_end_unique NameByte s i k' k o.rest n.rest in
            let a' : Reads s Arguments (k + 1) m' u' = subst (λ x. Reads s Arguments (x + 1) m' u') g a in let f' = f.only m' u' a' (pair_shut _ _ p') in
            (d ∙ ap (λ x. x + 1) f'.0, e ∙ ap (λ x. applied (byte s x) i x u') g ∙ ap (λ x. applied (byte s k) i k x) f'.1)
        | inr (inr (inl q)) ↦ absurd (apart _ 1 2 mine q.0 (λ x. cc))
        | inr (inr (inr (inl q))) ↦ absurd (apart _ 1 3 mine q.0 (λ x. cc))
        | inr (inr (inr (inr (inl q)))) ↦ absurd (apart _ 1 4 mine q.0 (λ x. cc))
        | inr (inr (inr (inr (inr q)))) ↦ absurd (apart _ 1 5 mine q.0 (λ x. cc))
      ];
}

pub refuses_apply : (s : List ℕ) (i k : ℕ) → IsName s i k → is_opening (byte s k) ≡ true → Refuses s Arguments (Shuts s) (k + 1)
    → Refuses s Primary (Stops s 7) i
refuses_apply s i k n opens f = record {
  none = λ j t r stops.
      let mine = kind_letter _ n.letter in
      elim (reads_kind r) [
        | inl (q, o, e) ↦ let g : j ≡ k = run_end_unique NameByte s i j k o.rest n.rest in let closed = rw g at stops.no_bracket in absurd (cc)
        | inr (inl (q, k', m', u', o, p', a, d, e)) ↦ let g : k' ≡ k = run_end_unique NameByte s i k' k o.rest n.rest in
            f.none m' u' (subst (λ x. Reads s Arguments (x + 1) m' u') g a) (pair_shut _ _ p')
        | inr (inr (inl q)) ↦ absurd (apart _ 1 2 mine q.0 (λ x. cc))
        | inr (inr (inr (inl q))) ↦ absurd (apart _ 1 3 mine q.0 (λ x. cc))
        | inr (inr (inr (inr (inl q)))) ↦ absurd (apart _ 1 4 mine q.0 (λ x. cc))
        | inr (inr (inr (inr (inr q)))) ↦ absurd (apart _ 1 5 mine q.0 (λ x. cc))
      ];
}

pub refuses_unpaired : (s : List ℕ) (i k m : ℕ) (u : Tree) → IsName s i k → is_opening (byte s k) ≡ true → (IsPair (byte s k) (byte s m) → ⊥)
    → Finds s Arguments (Shuts s) (k + 1) m u →
    Refuses s Primary (Stops s 7) i
refuses_unpaired s i k m u n opens never f = record {
  none = λ j t r stops.
      let mine = kind_letter _ n.letter in
      elim (reads_kind r) [
        | inl (q, o, e) ↦ let g : j ≡ k = run_end_unique NameByte s i j k o.rest n.rest in let closed = rw g at stops.no_bracket in absurd (cc)
        | inr (inl (q, k', m', u', o, p', a, d, e)) ↦ let g : k' ≡ k = run_end_unique NameByte s i k' k o.rest n.rest in let f' =
            f.only m' u' (subst (λ x. Reads s Arguments (x + 1) m' u') g a) (pair_shut _ _ p') in
            never (subst (λ x. IsPair (byte s x) (byte s m)) g (subst (λ x. IsPair (byte s k') (byte s x)) f'.0 p'))
        | inr (inr (inl q)) ↦ absurd (apart _ 1 2 mine q.0 (λ x. cc))
        | inr (inr (inr (inl q))) ↦ absurd (apart _ 1 3 mine q.0 (λ x. cc))
        | inr (inr (inr (inr (inl q)))) ↦ absurd (apart _ 1 4 mine q.0 (λ x. cc))
        | inr (inr (inr (inr (inr q)))) ↦ absurd (apart _ 1 5 mine q.0 (λ x. cc))
      ];
}
