-- The index of labels grows with the statements.
use Rattle.std.proofs.Common.{◌≡◌, ◌≢◌, ℕ, zero, suc, ◌+◌, ◌<◌, ◌⊎◌, inl, inr, true, false, List, [], ◌∷◌, ◌++◌, length, arith, refl, sym, ◌∙◌, ap, Some, None}
use Rattle.std.proofs.Common.{slice_get}
use Rattle.std.proofs.lemmas.Bool.{cases_lt, cases_Bool}
use Rattle.std.proofs.lemmas.Option.{slice_get_within}
use Rattle.std.proofs.lemmas.Map.Lookups.{exact_bytes}
use Rattle.std.proofs.lemmas.Map.Text.{is_eq-slice_cmp}
use Rattle.std.specs.BTreeMap.{insert_entry}
use Rattle.std.specs.declared.cmp.Ordering.{Ordering}
use Rattle.std.specs.declared.cmp.Ordering.TheVariants.{Less, Equal, Greater}
use Rattle.std.specs.Ordering.{is_eq, nat_cmp, match_ordering}
use Rattle.std.specs.Cmp.Lexicographic.{slice_cmp, bytes_decides}
use Rattle.std.specs.declared.vec.Vec.{Vec}
use Rattle.std.specs.declared.alloc.Global.{Global}
use Rattle.sno_text.specs.declared.node.Span.{Span}
use Rattle.sno_text.specs.declared.statement.Statement.{Statement}
use Rattle.sno_text.specs.Lines.{part}
use Rattle.sno_text.specs.Program.{IsLabelled}
use Rattle.sno_text.specs.inner.Program.{number_of, IsIndex}

abbrev by_bytes : Vec ℕ Global → Vec ℕ Global → Ordering
by_bytes x y = slice_cmp nat_cmp x.items y.items

abbrev Entries : Type 0
Entries = List (Vec ℕ Global × ℕ)

same_bytes : (xs ys : List ℕ) → xs ≡ ys → is_eq (slice_cmp nat_cmp xs ys) ≡ true
same_bytes xs ys e = is_eq-slice_cmp xs ys ∙ (bytes_decides xs ys).1 e

other_bytes : (xs ys : List ℕ) → xs ≢ ys → is_eq (slice_cmp nat_cmp xs ys) ≡ false
other_bytes xs ys h = elim (cases_Bool (is_eq (slice_cmp nat_cmp xs ys))) [
  | inl t ↦ absurd (h ((bytes_decides xs ys).0 (sym (is_eq-slice_cmp xs ys) ∙ t)))
  | inr f ↦ f
]

cases_bytes : (xs ys : List ℕ) → (xs ≡ ys) ⊎ (xs ≢ ys)
cases_bytes xs ys = elim (cases_Bool (is_eq (slice_cmp nat_cmp xs ys))) [
  | inl t ↦ inl ((bytes_decides xs ys).0 (sym (is_eq-slice_cmp xs ys) ∙ t))
  | inr f ↦ inr (λ e. let t = same_bytes xs ys e in absurd (cc))
]

-- the entries with a head, looked up
found_head : (es : Entries) (e : Vec ℕ Global × ℕ) (name : List ℕ) → name ≡ e.0.items → number_of (e ∷ es) name ≡ Some e.1
found_head es e name f = rw (same_bytes name e.0.items f) refl

past_head : (es : Entries) (e : Vec ℕ Global × ℕ) (name : List ℕ) → name ≢ e.0.items → number_of (e ∷ es) name ≡ number_of es name
past_head es e name f = rw (other_bytes name e.0.items f) refl

not_head : (es : Entries) (e : Vec ℕ Global × ℕ) (name : List ℕ) → number_of (e ∷ es) name ≡ None → (name ≢ e.0.items) × (number_of es name ≡ None)
not_head es e name h = elim (cases_bytes name e.0.items) [
  | inl f ↦ absurd (let g = found_head es e name f in let b : Some e.1 ≡ None = sym g ∙ h in cc)
  | inr f ↦ (f, sym (past_head es e name f) ∙ h)
]

insert_by : (o : Ordering) (es : Entries) (e : Vec ℕ Global × ℕ) (key : Vec ℕ Global) (v : ℕ) → by_bytes key e.0 ≡ o →
    insert_entry by_bytes (e ∷ es) key v ≡ match_ordering o ((key, v) ∷ e ∷ es) ((e.0, v) ∷ es) (e ∷ insert_entry by_bytes es key v)
insert_by o es e key v h = rw h refl

-- the key that was inserted
same_step : (o : Ordering) (x : Vec ℕ Global × ℕ) (es : Entries) (key : Vec ℕ Global) (v : ℕ) (name : List ℕ) → name ≡ key.items → number_of (x ∷ es) name
    ≡ None → number_of (insert_entry by_bytes es key v) name ≡ Some v →
    by_bytes key x.0 ≡ o → number_of (insert_entry by_bytes (x ∷ es) key v) name ≡ Some v
same_step Less x es key v name e h rest f = ap (λ y. number_of y name) (insert_by Less es x key v f) ∙ found_head (x ∷ es) (key, v) name e
same_step Equal x es key v name e h rest f = absurd ((not_head es x name h).0 (e ∙ exact_bytes key.items x.0.items f))
same_step Greater x es key v name e h rest f = ap (λ y. number_of y name) (insert_by Greater es x key v f) ∙ past_head (insert_entry by_bytes es key v) x name
    (not_head es x name h).0 ∙ rest

insert_same : (es : Entries) (key : Vec ℕ Global) (v : ℕ) (name : List ℕ) → name ≡ key.items → number_of es name ≡ None
    → number_of (insert_entry by_bytes es key v) name ≡ Some v
insert_same [] key v name e h = found_head [] (key, v) name e
insert_same (x ∷ es) key v name e h = same_step (by_bytes key x.0) x es key v name e h (insert_same es key v name e (not_head es x name h).1) refl

-- the others
other_step : (o : Ordering) (x : Vec ℕ Global × ℕ) (es : Entries) (key : Vec ℕ Global) (v : ℕ) (name : List ℕ) → name ≢ key.items
    → number_of (insert_entry by_bytes es key v) name ≡ number_of es name →
    by_bytes key x.0 ≡ o → number_of (insert_entry by_bytes (x ∷ es) key v) name ≡ number_of (x ∷ es) name
other_step Less x es key v name n rest f = ap (λ y. number_of y name) (insert_by Less es x key v f) ∙ past_head (x ∷ es) (key, v) name n
other_step Equal x es key v name n rest f =
    let apart : name ≢ x.0.items = λ e. n (e ∙ sym (exact_bytes key.items x.0.items f)) in
    ap (λ y. number_of y name) (insert_by Equal es x key v f) ∙ past_head es (x.0, v) name apart ∙ sym (past_head es x name apart)
other_step Greater x es key v name n rest f = elim (cases_bytes name x.0.items) [
  | inl e ↦ ap (λ y. number_of y name) (insert_by Greater es x key v f) ∙ found_head (insert_entry by_bytes es key v) x name e ∙ sym (found_head es x name e)
  | inr a ↦ ap (λ y. number_of y name) (insert_by Greater es x key v f) ∙ past_head (insert_entry by_bytes es key v) x name a ∙ rest
      ∙ sym (past_head es x name a)
]

insert_other : (es : Entries) (key : Vec ℕ Global) (v : ℕ) (name : List ℕ) → name ≢ key.items
    → number_of (insert_entry by_bytes es key v) name ≡ number_of es name
insert_other [] key v name n = past_head [] (key, v) name n
insert_other (x ∷ es) key v name n = other_step (by_bytes key x.0) x es key v name n (insert_other es key v name n) refl

-- one more statement
get_early : {X : Type 0} (xs ys : List X) (i : ℕ) → i < length xs → slice_get (xs ++ ys) i ≡ slice_get xs i
get_early [] ys i h = absurd (omega arith)
get_early (z ∷ xs) ys zero h = refl
get_early (z ∷ xs) ys (suc i) h = get_early xs ys i (omega arith)

get_last : {X : Type 0} (xs : List X) (x : X) → slice_get (xs ++ x ∷ []) (length xs) ≡ Some x
get_last [] x = refl
get_last (z ∷ xs) x = get_last xs x

length_one : {X : Type 0} (xs : List X) (x : X) → length (xs ++ x ∷ []) ≡ length xs + 1
length_one [] x = omega arith
length_one (z ∷ xs) x = omega (arith, length_one xs x)

-- a place in a list with one more is an earlier one or the last
pub place_cases : {X : Type 0} (xs : List X) (x y : X) (i : ℕ) → slice_get (xs ++ x ∷ []) i ≡ Some y → ((i < length xs) × (slice_get xs i ≡ Some y))
    ⊎ ((i ≡ length xs) × (x ≡ y))
place_cases xs x y i h = elim (cases_lt i (length xs)) [
  | inl lt ↦ inl (lt, sym (get_early xs (x ∷ []) i lt) ∙ h)
  | inr ge ↦
      let b = slice_get_within (xs ++ x ∷ []) i y h in
      let n = length_one xs x in
      let e : i ≡ length xs = omega arith in
      let f : Some x ≡ Some y = sym (get_last xs x) ∙ ap (slice_get (xs ++ x ∷ [])) (sym e) ∙ h in
      inr (e, cc)
]

pub place_kept : {X : Type 0} (xs : List X) (x y : X) (i : ℕ) → slice_get xs i ≡ Some y → slice_get (xs ++ x ∷ []) i ≡ Some y
place_kept xs x y i h = get_early xs (x ∷ []) i (slice_get_within xs i y h) ∙ h

pub place_last : {X : Type 0} (xs : List X) (x : X) → slice_get (xs ++ x ∷ []) (length xs) ≡ Some x
place_last xs x = get_last xs x

pub length_more : {X : Type 0} (xs : List X) (x : X) → length (xs ++ x ∷ []) ≡ length xs + 1
length_more xs x = length_one xs x

labelled_more : (s : List ℕ) (sts : List Statement) (st : Statement) (name : List ℕ) (n : ℕ) → IsLabelled s sts name n → IsLabelled s (sts ++ st ∷ []) name n
labelled_more s sts st name n (k, x, span, a, b, c, d) = (k, x, span, a, place_kept sts st x k b, c, d)

unlabelled_complete : (s : List ℕ) (sts : List Statement) (st : Statement) (es : Entries) (name : List ℕ) (n : ℕ) → st.label ≡ None → IsIndex s sts es
    → IsLabelled s (sts ++ st ∷ []) name n → number_of es name ≡ Some n
unlabelled_complete s sts st es name n h x (k, y, span, a, b, c, d) = elim (place_cases sts st y k b) [
  | inl e ↦ x.complete name n (k, y, span, a, e.1, c, d)
  | inr e ↦ absurd (let f : None ≡ Some span = sym h ∙ ap (λ z. z.label) e.1 ∙ c in cc)
]

pub index_unlabelled : (s : List ℕ) (sts : List Statement) (st : Statement) (es : Entries) → st.label ≡ None → IsIndex s sts es → IsIndex s (sts ++ st ∷ []) es
index_unlabelled s sts st es h x = record {
  sound = λ name n e. labelled_more s sts st name n (x.sound name n e);
  complete = λ name n l. unlabelled_complete s sts st es name n h x l;
}

labelled_complete : (s : List ℕ) (sts : List Statement) (st : Statement) (es : Entries) (span : Span) (key : Vec ℕ Global) (v : ℕ) (name : List ℕ) (n : ℕ)
    → st.label ≡ Some span → key.items ≡ part s span → v ≡ length sts + 1 →
    number_of es (part s span) ≡ None → IsIndex s sts es → IsLabelled s (sts ++ st ∷ []) name n → number_of (insert_entry by_bytes es key v) name ≡ Some n
labelled_complete s sts st es span key v name n h e f fresh x (k, y, other, a, b, c, d) = elim (place_cases sts st y k b) [
  | inl g ↦
      let found = x.complete name n (k, y, other, a, g.1, c, d) in
      insert_other es key v name (λ same. let bad : None ≡ Some n = sym fresh ∙ ap (number_of es) (sym e ∙ sym same) ∙ found in absurd (cc)) ∙ found
  | inr g ↦
      let spans : Some other ≡ Some span = sym c ∙ ap (λ z. z.label) (sym g.1) ∙ h in
      let spans' : other ≡ span = cc in
      let name' : name ≡ key.items = sym d ∙ ap (part s) spans' ∙ sym e in
      let number : v ≡ n = f ∙ ap (λ z. z + 1) (sym g.0) ∙ sym a in
      insert_same es key v name name' (ap (number_of es) (name' ∙ e) ∙ fresh) ∙ ap Some number
]

pub index_labelled : (s : List ℕ) (sts : List Statement) (st : Statement) (es : Entries) (span : Span) (key : Vec ℕ Global) (v : ℕ) → st.label ≡ Some span
    → key.items ≡ part s span → v ≡ length sts + 1 →
    number_of es (part s span) ≡ None → IsIndex s sts es → IsIndex s (sts ++ st ∷ []) (insert_entry by_bytes es key v)
index_labelled s sts st es span key v h e f fresh x = record {
  sound = λ name n g. elim (cases_bytes name key.items) [
    | inl same ↦
        let found : Some v ≡ Some n = sym (insert_same es key v name same (ap (number_of es) (same ∙ e) ∙ fresh)) ∙ g in
        let number : v ≡ n = cc in
        (length sts, st, span, sym number ∙ f, place_last sts st, h, sym e ∙ sym same)
    | inr other ↦ labelled_more s sts st name n (x.sound name n (sym (insert_other es key v name other) ∙ g))
  ];
  complete = λ name n l. labelled_complete s sts st es span key v name n h e f fresh x l;
}
