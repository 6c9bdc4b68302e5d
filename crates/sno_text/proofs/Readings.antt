-- The statements of a program are read in their order.
use Rattle.std.proofs.Common.{◌≡◌, ◌≢◌, ℕ, zero, suc, ◌+◌, ◌<◌, ◌≤◌, ◌⊎◌, ◌==◌, inl, inr, true, List, [], ◌∷◌, ◌++◌, length, take, drop, arith, refl, sym, ◌∙◌}
use Rattle.std.proofs.Common.{ap, subst, Some, None, Option, slice_get, codes, is_some}
use Rattle.std.proofs.Common.{Result, Ok, Err, IsErrAnd, IfErr, IfSome, IfNone, ◌^◌}
use Rattle.std.proofs.lemmas.List.{append-nil, append_assoc}
use Rattle.std.proofs.lemmas.Option.{slice_get_within}
use Rattle.std.specs.declared.vec.Vec.{Vec}
use Rattle.std.specs.declared.alloc.Global.{Global}
use Rattle.sno_text.specs.declared.error.ReadError.{ReadError}
use Rattle.sno_text.specs.declared.error.ReadError.TheVariants.{NoEnd, NoMemory}
use Rattle.sno_text.specs.declared.node.Node.{Node}
use Rattle.sno_text.specs.declared.node.Span.{Span}
use Rattle.sno_text.specs.declared.phrase.Phrase.{Phrase}
use Rattle.sno_text.specs.declared.statement.Statement.{Statement}
use Rattle.sno_text.specs.Lines.{joined, extents, part, line_of}
use Rattle.sno_text.specs.inner.Layouts.{InOrder}
use Rattle.sno_text.specs.Program.{program_ids, statement_ids, Program, IsWithin, IsLabelled, IsStatementOf}
use Rattle.sno_text.specs.inner.Program.{number_of, IsIndex, IsWhole}
use Rattle.sno_text.specs.inner.Parsed.{Extends}
use Rattle.sno_text.specs.Statements.{StatementTree}
use Rattle.sno_text.specs.Phrases.{phrase_ids, StandsStatement, StandsProgram}
use Rattle.sno_text.specs.Programs.{HasLabelled, IsRefusedAt, none, one_more, IsProgram, IsRefusedProgram, LacksMemory, statement, no_end}
use Rattle.sno_text.specs.inner.Judging.{Knows, Accepts, statement_of, IsTabled, IsReading}
use Rattle.sno_text.proofs.Tables.{uses_none, uses_both, extends_none, extends_trans, length_grown, grown_of}
use Rattle.sno_text.proofs.Standing.{stands_cores_more, stands_jump_more}
use Rattle.sno_text.proofs.Expressions.{whole_table}
use Rattle.sno_text.proofs.Indexes.{place_cases, length_more}
use Rattle.sno_text.proofs.Soundness.{sound_statement, sound_wider}
use Rattle.sno_text.proofs.Judgements.{length_cut}
use Rattle.sno_text.proofs.Order.{length_joined, extents_in_order}
use Rattle.sno_text.specs.declared.whole.Place.{Place}
use Rattle.std.specs.List.{count_by}

abbrev Entries : Type 0
Entries = List (Vec ℕ Global × ℕ)

get_none : {X : Type 0} (i : ℕ) (x : X) → slice_get [] i ≡ Some x → ⊥
get_none zero x e = cc
get_none (suc i) x e = cc

some_equal : {X : Type 0} {a b : X} → Some a ≡ Some b → a ≡ b
some_equal e = cc

get_some : {X : Type 0} (xs : List X) (i : ℕ) → i < length xs → (x : X) × (slice_get xs i ≡ Some x)
get_some [] i h = absurd (omega arith)
get_some (x ∷ xs) zero h = (x, refl)
get_some (x ∷ xs) (suc i) h = get_some xs i (omega arith)

tabled_first : (s : List ℕ) (at : ℕ) → IsTabled s [] at [] [] []
tabled_first s at = record {
  count = refl;
  room = omega arith;
  extends = extends_none (length s) [] [] refl;
  stands = λ j st span t a b c. absurd (get_none j st a);
  sound = λ j st a. absurd (get_none j st a);
  labels = λ j st t a b. absurd (get_none j st a);
  index = record { sound = λ name n e. absurd (cc); complete = λ name n l. absurd (get_none l.0 l.1 l.4) };
  used = uses_none [] [];
}

pub reading_first : (s : List ℕ) (at : ℕ) → IsReading s 0 at [] [] []
reading_first s at = record { before = []; begins = none refl; many = refl; tabled = tabled_first s at }

-- what is known of the labels
tabled_labelled : (s : List ℕ) (ts : List StatementTree) (at : ℕ) (nodes : List Node) (sts : List Statement) (es : Entries) (name : List ℕ) (n : ℕ)
    → IsTabled s ts at nodes sts es → IsLabelled s sts name n → HasLabelled s ts name
tabled_labelled s ts at nodes sts es name n x (k, st, span, a, b, c, d) =
    let w = slice_get_within sts k st b in
    let t = get_some ts k (let e = x.count in omega arith) in
    (k, t.0, span, t.1, sym (x.labels k st t.0 b t.1) ∙ c, d)

tabled_number : (s : List ℕ) (ts : List StatementTree) (at : ℕ) (nodes : List Node) (sts : List Statement) (es : Entries) (name : List ℕ)
    → IsTabled s ts at nodes sts es → HasLabelled s ts name → number_of es name ≡ None → ⊥
tabled_number s ts at nodes sts es name x (m, t, span, a, b, c) h =
    let w = slice_get_within ts m t a in
    let st = get_some sts m (let e = x.count in omega arith) in
    let found = x.index.complete name (m + 1) (m, st.0, span, refl, st.1, x.labels m st.0 t st.1 a ∙ b, c) in
    let bad : None ≡ Some (m + 1) = sym h ∙ found in cc

number_some : (o : Option ℕ) → is_some o ≡ true → (n : ℕ) × (o ≡ Some n)
number_some None h = absurd (cc)
number_some (Some n) h = (n, refl)

pub reading_knows : (s : List ℕ) (k at : ℕ) (nodes : List Node) (sts : List Statement) (es : Entries) (count : ℕ) → (r : IsReading s k at nodes sts es)
    → count ≡ length sts → Knows s r.before count es
reading_knows s k at nodes sts es count r e = record {
  many = sym r.tabled.count ∙ sym e;
  sound = λ name h. let n = number_some (number_of es name) h in
      tabled_labelled s r.before at nodes sts es name n.0 r.tabled (r.tabled.index.sound name n.0 n.1);
  complete = λ name h l. tabled_number s r.before at nodes sts es name r.tabled l h;
}

-- one more statement
stands_grown : (s : List ℕ) (n : ℕ) (old new : List Node) (st : Statement) (span : Span) (t : StatementTree) → Extends n old new
    → StandsStatement s old st span t → StandsStatement s new st span t
stands_grown s n old new st span t x a = record {
  line = a.line;
  label = a.label;
  core = stands_cores_more st.core t.core x a.core;
  jump = stands_jump_more st.jump t.jump x a.jump;
  entry = a.entry;
}

next_stands : (s : List ℕ) (ts : List StatementTree) (at line : ℕ) (span : Span) (old new : List Node) (sts : List Statement) (es : Entries) (p : Phrase)
    → IsTabled s ts at old sts es → (a : Accepts s ts span old new p) →
    slice_get (extents s) (length ts) ≡ Some span → Extends (length s) old new → line ≡ line_of s span
    → (j : ℕ) (st : Statement) (other : Span) (t : StatementTree) → slice_get (sts ++ statement_of p line ∷ []) j ≡ Some st →
    slice_get (extents s) j ≡ Some other → slice_get (ts ++ a.tree ∷ []) j ≡ Some t → StandsStatement s new st other t
next_stands s ts at line span old new sts es p x a place grown is j st other t b c d = elim (place_cases sts (statement_of p line) st j b) [
  | inl early ↦ elim (place_cases ts a.tree t j d) [
    | inl low ↦ stands_grown s (length s) old new st other t grown (x.stands j st other t early.1 c low.1)
    | inr high ↦ absurd (let e = x.count in let f = early.0 in let g = high.0 in omega arith)
  ]
  | inr last ↦ elim (place_cases ts a.tree t j d) [
    | inl low ↦ absurd (let e = x.count in let f = last.0 in let g = low.0 in omega arith)
    | inr high ↦
        let same : span ≡ other = some_equal (sym place ∙ ap (slice_get (extents s)) (sym high.0) ∙ c) in
        let here : StandsStatement s new (statement_of p line) span a.tree =
        record { line = is; label = a.stands.0; core = a.stands.1; jump = a.stands.2; entry = a.stands.3 } in
        subst (λ y. StandsStatement s new y other t) last.1
        (subst (λ y. StandsStatement s new (statement_of p line) y t) same (subst (λ y. StandsStatement s new (statement_of p line) span y) high.1 here))
  ]
]

next_sound : (s : List ℕ) (ts : List StatementTree) (at line : ℕ) (span : Span) (old new : List Node) (sts : List Statement) (es : Entries) (p : Phrase)
    → IsTabled s ts at old sts es → (a : Accepts s ts span old new p) →
    Extends (length s) old new → (j : ℕ) (st : Statement) → slice_get (sts ++ statement_of p line ∷ []) j ≡ Some st → IsStatementOf (length s) (length new) st
next_sound s ts at line span old new sts es p x a grown j st b = elim (place_cases sts (statement_of p line) st j b) [
  | inl early ↦ sound_wider (length s) (length old) (length new) st (length_grown old new (grown_of grown)) (x.sound j st early.1)
  | inr last ↦
      let w = length_cut span.end (joined s) in
      let e = length_joined s in
      subst (λ y. IsStatementOf (length s) (length new) y) last.1 (sound_statement (take span.end (joined s)) (length s) span.start new a.tree p line
      (omega arith) a.accepted.reads a.stands)
]

next_label : (s : List ℕ) (ts : List StatementTree) (at line : ℕ) (span : Span) (old new : List Node) (sts : List Statement) (es : Entries) (p : Phrase)
    → IsTabled s ts at old sts es → (a : Accepts s ts span old new p) →
    (j : ℕ) (st : Statement) (t : StatementTree) → slice_get (sts ++ statement_of p line ∷ []) j ≡ Some st → slice_get (ts ++ a.tree ∷ []) j
    ≡ Some t → st.label ≡ t.label
next_label s ts at line span old new sts es p x a j st t b d = elim (place_cases sts (statement_of p line) st j b) [
  | inl early ↦ elim (place_cases ts a.tree t j d) [
    | inl low ↦ x.labels j st t early.1 low.1
    | inr high ↦ absurd (let e = x.count in let f = early.0 in let g = high.0 in omega arith)
  ]
  | inr last ↦ elim (place_cases ts a.tree t j d) [
    | inl low ↦ absurd (let e = x.count in let f = last.0 in let g = low.0 in omega arith)
    | inr high ↦ ap (λ y. y.label) (sym last.1) ∙ a.stands.0 ∙ ap (λ y. y.label) high.1
  ]
]

ids_pushed : (sts : List Statement) (st : Statement) → program_ids (sts ++ st ∷ []) ≡ program_ids sts ++ statement_ids st
ids_pushed [] st = append-nil (statement_ids st)
ids_pushed (x ∷ sts) st = ap (λ ids. statement_ids x ++ ids) (ids_pushed sts st) ∙ sym (append_assoc (statement_ids x) (program_ids sts) (statement_ids st))

tabled_next : (s : List ℕ) (ts : List StatementTree) (at line : ℕ) (span : Span) (old new : List Node) (sts more : List Statement) (es fs : Entries)
    (p : Phrase) → IsTabled s ts at old sts es → (a : Accepts s ts span old new p) →
    slice_get (extents s) (length ts) ≡ Some span → length new ≤ span.end → Extends (length s) old new → line ≡ line_of s span
    → more ≡ sts ++ statement_of p line ∷ [] → (IsIndex s sts es → IsIndex s more fs) →
    IsTabled s (ts ++ a.tree ∷ []) span.end new more fs
tabled_next s ts at line span old new sts more es fs p x a place room grown is pushed index =
    let size = length_more sts (statement_of p line) in
    let size' = length_more ts a.tree in
    record {
      count = let e = ap length pushed in let f = x.count in omega arith;
      room = room;
      extends = extends_trans (length s) [] old new x.extends grown;
      stands = λ j st other t b c d. next_stands s ts at line span old new sts es p x a place grown is j st other t (rw pushed at b) c d;
      sound = λ j st b. next_sound s ts at line span old new sts es p x a grown j st (rw pushed at b);
      labels = λ j st t b d. next_label s ts at line span old new sts es p x a j st t (rw pushed at b) d;
      index = index x.index;
      used = rw pushed (rw (ids_pushed sts (statement_of p line)) (uses_both 0 old new (program_ids sts) (phrase_ids p) x.used a.used (grown_of grown)));
    }

pub reading_next : (s : List ℕ) (k at line : ℕ) (span : Span) (old new : List Node) (sts more : List Statement) (es fs : Entries) (p : Phrase)
    → (r : IsReading s k at old sts es) → Accepts s r.before span old new p →
    slice_get (extents s) k ≡ Some span → length new ≤ span.end → Extends (length s) old new → line ≡ line_of s span → more ≡ sts ++ statement_of p line ∷ []
    → (IsIndex s sts es → IsIndex s more fs) →
    ((x : Span) → p.label ≡ Some x → part s x ≢ codes "END") → IsReading s (k + 1) span.end new more fs
reading_next s k at line span old new sts more es fs p r a place room grown is pushed index other =
    let place' : slice_get (extents s) (length r.before) ≡ Some span = rw r.many place in
    record {
      before = r.before ++ a.tree ∷ [];
      begins = one_more r.begins place' a.accepted (λ e. other e.0 (a.stands.0 ∙ e.1) e.2) refl;
      many = length_more r.before a.tree ∙ ap (λ x. x + 1) r.many;
      tabled = tabled_next s r.before at line span old new sts more es fs p r.tabled a place' room grown is pushed index;
    }

-- END
pub reading_ends : (s : List ℕ) (k at line : ℕ) (span : Span) (old new : List Node) (sts more : List Statement) (es fs : Entries) (p : Phrase)
    → (r : IsReading s k at old sts es) → Accepts s r.before span old new p →
    slice_get (extents s) k ≡ Some span → length new ≤ span.end → Extends (length s) old new → line ≡ line_of s span → more ≡ sts ++ statement_of p line ∷ []
    → (IsIndex s sts es → IsIndex s more fs) → length s ≤ 4000000 →
    (x : Span) × (p.label ≡ Some x) × (part s x ≡ codes "END") → (ts : List StatementTree) × IsProgram s ts × IsTabled s ts span.end new more fs
reading_ends s k at line span old new sts more es fs p r a place room grown is pushed index small end =
    let place' : slice_get (extents s) (length r.before) ≡ Some span = rw r.many place in (
      r.before ++ a.tree ∷ [],
      record {
        small = small;
        before = r.before;
        last = a.tree;
        span = span;
        all = refl;
        begins = r.begins;
        place = place';
        accepted = a.accepted;
        is_end = (end.0, sym a.stands.0 ∙ end.1, end.2);
      },
      tabled_next s r.before at line span old new sts more es fs p r.tabled a place' room grown is pushed index,
    )

pub tabled_program : (s : List ℕ) (ts : List StatementTree) (at : ℕ) (nodes : List Node) (sts : List Statement) (es : Entries) (p : Program)
    → IsTabled s ts at nodes sts es → p.nodes ≡ nodes → p.statements ≡ sts → StandsProgram p s ts
tabled_program s ts at nodes sts es p x e f = record {
  count = ap length f ∙ x.count;
  each = λ k st span t a b c. rw e (x.stands k st span t (rw f at a) b c);
  used = rw (e, f) x.used;
}

pub tabled_whole : (s text : List ℕ) (ts : List StatementTree) (at : ℕ) (nodes : List Node) (sts : List Statement) (es : Entries) → IsProgram s ts
    → IsTabled s ts at nodes sts es → text ≡ s → at ≤ 4000000 → IsWhole text nodes sts es
tabled_whole s text ts at nodes sts es p x e small = rw e (record {
  count = let f = x.room in omega arith;
  few = let f = p.accepted.few in let g = ap length p.all in let m = length_more p.before p.last in let n = x.count in omega arith;
  table = whole_table (length s) nodes x.extends;
  sound = x.sound;
  index = x.index;
})

-- a refusal
pub reading_refused : (s : List ℕ) (k at : ℕ) (nodes : List Node) (sts : List Statement) (es : Entries) (span : Span) (e : ReadError)
    → (r : IsReading s k at nodes sts es) → slice_get (extents s) k ≡ Some span → length s ≤ 4000000 →
    IsRefusedAt s r.before span e → IsRefusedProgram s e
reading_refused s k at nodes sts es span e r place small h = statement small r.begins (rw r.many place) h

pub reading_endless : (s : List ℕ) (k at : ℕ) (nodes : List Node) (sts : List Statement) (es : Entries) → IsReading s k at nodes sts es → k ≡ length (extents s)
    → length s ≤ 4000000 → IsRefusedProgram s NoEnd
reading_endless s k at nodes sts es r e small = no_end small r.begins (sym e ∙ sym r.many) refl

-- What the loop over the statements keeps.
pub record Running (s : List ℕ) (i : ℕ) (place : Place) (nodes : List Node) (sts : List Statement) (es : Entries) : Type 0 where
  pub at : ℕ
  pub order : place.at ≤ at
  pub spans : InOrder at (length s) (drop i (extents s))
  pub reading : IsReading s i at nodes sts es
  pub line : place.line ≡ 1 + count_by (λ b. b == 10) (take place.at s)

pub running_first : (s : List ℕ) (place : Place) (nodes : List Node) (sts : List Statement) (es : Entries) → place.at ≡ 0 → place.line ≡ 1 → nodes ≡ []
    → sts ≡ [] → es ≡ [] → Running s 0 place nodes sts es
running_first s place nodes sts es e f a b c = record {
  at = 0;
  order = omega arith;
  spans = extents_in_order s;
  reading = rw (a, b, c) (reading_first s 0);
  line = rw (e, f) refl;
}

drop_more : (x : Span) (es : List Span) (i : ℕ) → drop (suc i + 1) (x ∷ es) ≡ drop (i + 1) es
drop_more x es i = let e : suc i + 1 ≡ suc (i + 1) = omega arith in ap (λ n. drop n (x ∷ es)) e

drop_at : (es : List Span) (i : ℕ) (span : Span) → slice_get es i ≡ Some span → drop i es ≡ span ∷ drop (i + 1) es
drop_at [] i span e = absurd (get_none i span e)
drop_at (x ∷ es) zero span e = ap (λ y. y ∷ es) (some_equal e)
drop_at (x ∷ es) (suc i) span e = drop_at es i span e ∙ ap (λ y. span ∷ y) (sym (drop_more x es i))

running_here : (s : List ℕ) (i : ℕ) (place : Place) (nodes : List Node) (sts : List Statement) (es : Entries) (span : Span) (r : Running s i place nodes sts es)
    → slice_get (extents s) i ≡ Some span → InOrder r.at (length s) (span ∷ drop (i + 1) (extents s))
running_here s i place nodes sts es span r e = subst (InOrder r.at (length s)) (drop_at (extents s) i span e) r.spans

order_end : (at n : ℕ) (es : List Span) → InOrder at n es → at ≤ n
order_end at n [] h = h
order_end at n (e ∷ es) (a, b, c) = let d = order_end e.end n es c in omega arith

pub running_within : (s : List ℕ) (i : ℕ) (place : Place) (nodes : List Node) (sts : List Statement) (es : Entries) (span : Span)
    → Running s i place nodes sts es → slice_get (extents s) i ≡ Some span → IsWithin span (length s)
running_within s i place nodes sts es span r e = let h = running_here s i place nodes sts es span r e in
    (h.1, order_end span.end (length s) (drop (i + 1) (extents s)) h.2)

pub running_order : (s : List ℕ) (i : ℕ) (place : Place) (nodes : List Node) (sts : List Statement) (es : Entries) (span : Span)
    → Running s i place nodes sts es → slice_get (extents s) i ≡ Some span → (place.at ≤ span.start) × (length nodes ≤ span.start)
running_order s i place nodes sts es span r e = let h = running_here s i place nodes sts es span r e in let o = r.order in let m =
    r.reading.tabled.room in let g = h.0 in (omega arith, omega arith)

pub running_next : (s : List ℕ) (i : ℕ) (place next : Place) (old new : List Node) (sts more : List Statement) (es fs : Entries) (span : Span)
    (r : Running s i place old sts es) → slice_get (extents s) i ≡ Some span →
    IsReading s (i + 1) span.end new more fs → next.at ≤ span.end → next.line ≡ 1 + count_by (λ b. b == 10) (take next.at s)
    → Running s (i + 1) next new more fs
running_next s i place next old new sts more es fs span r e reading order line = record {
  at = span.end;
  order = order;
  spans = (running_here s i place old sts es span r e).2;
  reading = reading;
  line = line;
}

pub running_endless : (s : List ℕ) (i : ℕ) (place : Place) (nodes : List Node) (sts : List Statement) (es : Entries) → Running s i place nodes sts es
    → i ≡ length (extents s) → length s ≤ 4000000 → IsRefusedProgram s NoEnd
running_endless s i place nodes sts es r e small = reading_endless s i r.at nodes sts es r.reading e small

pub running_refused : (s : List ℕ) (i count : ℕ) (place : Place) (nodes : List Node) (sts : List Statement) (es : Entries) (span : Span) (e : ReadError)
    (r : Running s i place nodes sts es) → slice_get (extents s) i ≡ Some span → length s ≤ 4000000 → count ≡ length sts →
    (e ≡ NoMemory) ⊎ ((before : List StatementTree) → Knows s before count es → IsRefusedAt s before span e)
    → LacksMemory s e ⊎ IsRefusedProgram s e
running_refused s i count place nodes sts es span e r here small many (inl h) = inl (h, small)
running_refused s i count place nodes sts es span e r here small many (inr h) =
    inr (reading_refused s i r.at nodes sts es span e r.reading here small (h r.reading.before (reading_knows s i r.at nodes sts es count r.reading many)))

-- an error that is passed on
pub carried : {A : Type 0} (r : Result A ReadError) (e : ReadError) (P : ReadError → Type 0) → IsErrAnd r (λ x. x ≡ e) → P e → IfErr r P
carried (Ok a) e P h p = tt
carried (Err x) e P h p = subst P (sym h) p

-- the parts of an expression alone
pub expression_whole : (s text : List ℕ) (nodes : List Node) (sts : List Statement) (es : Entries) → text ≡ s → Extends (length s) [] nodes
    → length nodes < 2 ^ 32 → sts ≡ [] → es ≡ [] → IsWhole text nodes sts es
expression_whole s text nodes sts es e x h a b = rw (e, a, b) (record {
  count = h;
  few = omega arith;
  table = whole_table (length s) nodes x;
  sound = λ k st g. absurd (get_none k st g);
  index = (tabled_first s 0).index;
})

-- the look-up of a label
pub label_found : (s : List ℕ) (sts : List Statement) (es : Entries) (name : List ℕ) (o : Option ℕ) → o ≡ number_of es name → IsIndex s sts es
    → IfSome o (λ n. IsLabelled s sts name n)
label_found s sts es name None e x = tt
label_found s sts es name (Some n) e x = x.sound name n (sym e)

pub label_only : (s : List ℕ) (sts : List Statement) (es : Entries) (name : List ℕ) (o : Option ℕ) → o ≡ number_of es name → IsIndex s sts es
    → IfSome o (λ n. (m : ℕ) → IsLabelled s sts name m → m ≡ n)
label_only s sts es name None e x = tt
label_only s sts es name (Some n) e x = λ m l. let same : Some n ≡ Some m = e ∙ x.complete name m l in sym (some_equal same)

pub label_missing : (s : List ℕ) (sts : List Statement) (es : Entries) (name : List ℕ) (o : Option ℕ) → o ≡ number_of es name → IsIndex s sts es
    → IfNone o ((n : ℕ) → IsLabelled s sts name n → ⊥)
label_missing s sts es name None e x = λ n l. let bad : None ≡ Some n = e ∙ x.complete name n l in cc
label_missing s sts es name (Some n) e x = tt
