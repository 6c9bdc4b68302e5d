-- Whole statements are found exactly.
use Rattle.std.proofs.Common.{◌≡◌, ◌≢◌, ℕ, ◌<◌, ◌≤◌, ◌⊎◌, ◌&&◌, inl, inr, ◌||◌, true, false, List, [], length, arith, refl, sym, ◌∙◌, ap, subst, Some, None}
use Rattle.std.proofs.Common.{Option, codes}
use Rattle.std.proofs.lemmas.List.{get_or_past}
use Rattle.sno_text.specs.declared.bytes.Class.TheVariants.{Blank, NameByte}
use Rattle.sno_text.specs.declared.node.Node.{Node}
use Rattle.sno_text.specs.declared.node.Span.{Span}
use Rattle.sno_text.specs.declared.table.Read.{Read}
use Rattle.sno_text.specs.declared.statement.Core.{Core}
use Rattle.sno_text.specs.declared.statement.Jump.{Jump}
use Rattle.sno_text.specs.declared.statement.Jump.TheVariants as jumps
use Rattle.sno_text.specs.declared.phrase.Phrase.{Phrase}
use Rattle.sno_text.specs.Bytes.{byte, is_blank, is_letter, is_digit, IsWholeRun}
use Rattle.sno_text.specs.Grammar.{IsGap, IsBlanks}
use Rattle.sno_text.specs.inner.Parsed.{Extends}
use Rattle.sno_text.specs.Lines.{part}
use Rattle.sno_text.specs.Statements.{IsLabel, JumpTree, Fall, Always, Either, HasJump, CoreTree, HasCore, HasLabel, HasEntry, StatementTree, IsPlain, IsEnd}
use Rattle.sno_text.specs.Statements.{IsStatement, core_option_fits, jump_fits}
use Rattle.sno_text.specs.Program.{core_option_ids, jump_ids}
use Rattle.sno_text.proofs.Tables.{grown_of, uses_none, uses_both}
use Rattle.sno_text.specs.Pieces.{Gives, StandsCores, StandsJump}
use Rattle.sno_text.specs.inner.Pieces.{MeetsEnd, MeetsColon, Lacks}
use Rattle.sno_text.specs.Phrases.{IsRest, GivesPhrase}
use Rattle.sno_text.specs.inner.Phrases.{IsEndRest, FindsEntry, PhraseOutcome}
use Rattle.sno_text.proofs.Runs.{run_end_unique}
use Rattle.sno_text.proofs.Standing.{stands_cores_more}
use Rattle.sno_text.proofs.Jumps.{fits_both}
use Rattle.sno_text.proofs.Targets.{label_not_blank}
use Rattle.sno_text.proofs.Stops.{meets_end, end_meets_colon, blanks_colon, blanks_whole}

-- [b core] [b goto] [b]
jump_meets : (s : List ℕ) (i j : ℕ) (g : JumpTree) → HasJump s i j g → MeetsEnd s j → MeetsColon s i
jump_meets s i j Fall r m = end_meets_colon (subst (MeetsEnd s) r m)
jump_meets s i j (Always t) (k, l, b, h, c, r) m = blanks_colon s i k b h
jump_meets s i j (Either t u) (k, l, b, h, c, r) m = blanks_colon s i k b h

statement_equal : (a b : StatementTree) → a.label ≡ b.label → a.core ≡ b.core → a.jump ≡ b.jump → a.entry ≡ b.entry → a ≡ b
statement_equal a b e f g h =
    ap (λ x. record { label = x; core = a.core; jump = a.jump; entry = a.entry }) e
    ∙ ap (λ x. record { label = b.label; core = x; jump = a.jump; entry = a.entry }) f
    ∙ ap (λ x. record { label = b.label; core = b.core; jump = x; entry = a.entry }) g
    ∙ ap (λ x. record { label = b.label; core = b.core; jump = b.jump; entry = x }) h

rest_meets : (s : List ℕ) (label : Option Span) (i : ℕ) (u : StatementTree) (r : IsRest s label i u) → MeetsEnd s r.after_jump
rest_meets s label i u r = meets_end s r.after_jump r.rest

rest_core : (s : List ℕ) (label : Option Span) (i : ℕ) (u : StatementTree) (r : IsRest s label i u) → MeetsColon s r.after_core
rest_core s label i u r = jump_meets s r.after_core r.after_jump u.jump r.jump (rest_meets s label i u r)

rest_jump : (s : List ℕ) (label : Option Span) (i m : ℕ) (u : StatementTree) (r : IsRest s label i u) → r.after_core ≡ m → HasJump s m r.after_jump u.jump
rest_jump s label i m u r e = subst (λ x. HasJump s x r.after_jump u.jump) e r.jump

-- what stands for nothing is nothing
none_read : (table : List Node) (c : Option Core) (t : Option CoreTree) → StandsCores table c t → c ≡ None → t ≡ None
none_read table None None h e = refl
none_read table None (Some t) h e = absurd h
none_read table (Some c) None h e = refl
none_read table (Some c) (Some t) h e = absurd (cc)

none_stands : (table : List Node) (c : Option Core) (t : Option CoreTree) → StandsCores table c t → t ≡ None → c ≡ None
none_stands table None None h e = refl
none_stands table None (Some t) h e = absurd h
none_stands table (Some c) None h e = absurd h
none_stands table (Some c) (Some t) h e = absurd (cc)

fall_read : (table : List Node) (c : Jump) (t : JumpTree) → StandsJump table c t → c ≡ jumps.Fall → t ≡ Fall
fall_read table jumps.Fall Fall h e = refl
fall_read table jumps.Fall (Always u) h e = absurd h
fall_read table jumps.Fall (Either u v) h e = absurd h
fall_read table (jumps.Always a) t h e = absurd (cc)
fall_read table (jumps.Either a b) t h e = absurd (cc)

fall_stands : (table : List Node) (c : Jump) (t : JumpTree) → StandsJump table c t → t ≡ Fall → c ≡ jumps.Fall
fall_stands table jumps.Fall Fall h e = refl
fall_stands table (jumps.Always a) Fall h e = absurd h
fall_stands table (jumps.Either a b) Fall h e = absurd h
fall_stands table c (Always u) h e = absurd (cc)
fall_stands table c (Either u v) h e = absurd (cc)

some_read : (one two : List Node) (c : Option Core) (t : Option CoreTree) (g : Jump) (u : JumpTree) → StandsCores one c t → StandsJump two g u
    → (c ≡ None → g ≢ jumps.Fall) → t ≡ None → u ≢ Fall
some_read one two c t g u a b some e f = some (none_stands one c t a e) (fall_stands two g u b f)

pub gives_rest : {n : ℕ} (s : List ℕ) (label : Option Span) (i at : ℕ) (old mid new : List Node) (f : Read (Option Core)) (g : Read Jump) →
    (a : Gives (Option CoreTree) (Option Core) (HasCore s i) (MeetsColon s) StandsCores core_option_ids core_option_fits (length s) i old mid f) →
    (b : Gives JumpTree Jump (HasJump s f.end) (MeetsEnd s) StandsJump jump_ids jump_fits (length s) f.end mid new g) → Extends n mid new
    → IsWholeRun Blank s g.end at → at ≡ length s →
    (label ≡ None → f.what ≡ None → g.what ≢ jumps.Fall) →
    GivesPhrase (IsRest s label i) (length s) i old new (record { label = label; core = f.what; jump = g.what; entry = None; fits = f.fits && g.fits })
gives_rest s label i at old mid new f g a b x h e some = record {
  tree = record { label = label; core = a.tree; jump = b.tree; entry = None };
  reads = record {
    after_core = f.end;
    after_jump = g.end;
    label = refl;
    core = a.reads;
    jump = b.reads;
    rest = subst (λ y. IsGap s g.end y) e h.run;
    entry = refl;
    some = λ l c. some_read mid new f.what a.tree g.what b.tree a.stands b.stands (some l) c;
  };
  only = λ u r.
      let p = a.only r.after_core u.core r.core (rest_core s label i u r) in
      let q = b.only r.after_jump u.jump (rest_jump s label i f.end u r p.0) (rest_meets s label i u r) in
      statement_equal u (record { label = label; core = a.tree; jump = b.tree; entry = None }) r.label p.1 q.1 r.entry;
  stands = (refl, stands_cores_more f.what a.tree x a.stands, b.stands, refl);
  fits = fits_both f.fits g.fits (core_option_fits a.tree) (jump_fits b.tree) a.fits b.fits;
  room = let v = a.room in let w = b.room in let y = b.within in omega arith;
  used = uses_both (length old) mid new (core_option_ids f.what) (jump_ids g.what) a.used b.used (grown_of x);
}

pub lacks_rest_core : (s : List ℕ) (label : Option Span) (i : ℕ) → Lacks (Option CoreTree) (HasCore s i) (MeetsColon s)
    → (u : StatementTree) → IsRest s label i u → ⊥
lacks_rest_core s label i f u r = f.none r.after_core u.core r.core (rest_core s label i u r)

pub lacks_rest_jump : (s : List ℕ) (label : Option Span) (i : ℕ) (old mid : List Node) (f : Read (Option Core)) →
    Gives (Option CoreTree) (Option Core) (HasCore s i) (MeetsColon s) StandsCores core_option_ids core_option_fits (length s) i old mid f →
    Lacks JumpTree (HasJump s f.end) (MeetsEnd s) → (u : StatementTree) → IsRest s label i u → ⊥
lacks_rest_jump s label i old mid f a b u r =
    let p = a.only r.after_core u.core r.core (rest_core s label i u r) in
    b.none r.after_jump u.jump (rest_jump s label i f.end u r p.0) (rest_meets s label i u r)

pub lacks_rest_end : (s : List ℕ) (label : Option Span) (i at : ℕ) (old mid new : List Node) (f : Read (Option Core)) (g : Read Jump) →
    Gives (Option CoreTree) (Option Core) (HasCore s i) (MeetsColon s) StandsCores core_option_ids core_option_fits (length s) i old mid f →
    Gives JumpTree Jump (HasJump s f.end) (MeetsEnd s) StandsJump jump_ids jump_fits (length s) f.end mid new g → IsWholeRun Blank s g.end at → at ≢ length s
    → (u : StatementTree) → IsRest s label i u → ⊥
lacks_rest_end s label i at old mid new f g a b h never u r =
    let p = a.only r.after_core u.core r.core (rest_core s label i u r) in
    let m = rest_meets s label i u r in
    let q = b.only r.after_jump u.jump (rest_jump s label i f.end u r p.0) m in
    let whole : IsWholeRun Blank s g.end (length s) = subst (λ x. IsWholeRun Blank s x (length s)) q.0 m.gap in
    never (run_end_unique Blank s g.end at (length s) h whole)

pub lacks_rest_some : (s : List ℕ) (label : Option Span) (i : ℕ) (old mid new : List Node) (f : Read (Option Core)) (g : Read Jump) →
    Gives (Option CoreTree) (Option Core) (HasCore s i) (MeetsColon s) StandsCores core_option_ids core_option_fits (length s) i old mid f →
    Gives JumpTree Jump (HasJump s f.end) (MeetsEnd s) StandsJump jump_ids jump_fits (length s) f.end mid new g → label ≡ None → f.what ≡ None
    → g.what ≡ jumps.Fall → (u : StatementTree) → IsRest s label i u → ⊥
lacks_rest_some s label i old mid new f g a b l c j u r =
    let p = a.only r.after_core u.core r.core (rest_core s label i u r) in
    let q = b.only r.after_jump u.jump (rest_jump s label i f.end u r p.0) (rest_meets s label i u r) in
    r.some (r.label ∙ l) (p.1 ∙ none_read mid f.what a.tree a.stands c) (q.1 ∙ fall_read new g.what b.tree b.stands j)

-- [b label]
label_at : (s : List ℕ) (i at k e : ℕ) → IsWholeRun Blank s i at → IsBlanks s i k → IsLabel s k e → k ≡ at
label_at s i at k e g b l = run_end_unique Blank s i k at (blanks_whole s i k b (label_not_blank _ l.first)) g

no_entry_only : (s : List ℕ) (i at k : ℕ) (u : Option Span) → IsWholeRun Blank s i at → (at ≡ i) ⊎ ((j : ℕ) → IsLabel s at j → ⊥)
    → HasEntry s i k u → (k ≡ i) × (u ≡ None)
no_entry_only s i at k None g h r = (r, refl)
no_entry_only s i at k (Some span) g (inl e) (m, b, (l, f)) = let q = label_at s i at m k g b l in let some = b.some in absurd (omega arith)
no_entry_only s i at k (Some span) g (inr n) (m, b, (l, f)) = absurd (n k (subst (λ x. IsLabel s x k) (label_at s i at m k g b l) l))

pub finds_no_entry : (s : List ℕ) (i at : ℕ) → IsWholeRun Blank s i at → (at ≡ i) ⊎ ((j : ℕ) → IsLabel s at j → ⊥) → i ≤ length s →
    FindsEntry s i (record { what = None; end = i; fits = true })
finds_no_entry s i at g h w = record { reads = refl; only = λ k u r stops. no_entry_only s i at k u g h r; order = omega arith; within = w }

label_not_zero : (b : ℕ) → (is_letter b || is_digit b) ≡ true → b ≡ 0 → ⊥
unfolding is_letter is_digit
label_not_zero b h e = let f : (is_letter 0 || is_digit 0) ≡ true = rw e at h in cc

label_not_end : (s : List ℕ) (i at e : ℕ) → IsWholeRun Blank s i at → IsLabel s at e → MeetsEnd s i → ⊥
label_not_end s i at e g l m =
    let at_end : length s ≡ at = run_end_unique Blank s i (length s) at m.gap g in
    label_not_zero _ l.first (get_or_past s at 0 (omega arith))

span_is : (i e k : ℕ) (span : Span) → span.start ≡ i → span.end ≡ e → k ≡ e → span ≡ record { start = i; end = k }
span_is i e k span f g h = ap (λ x. record { start = x; end = span.end }) f ∙ ap (λ x. record { start = i; end = x }) (g ∙ sym h)

entry_only : (s : List ℕ) (i at e k : ℕ) (span : Span) (u : Option Span) → IsWholeRun Blank s i at → IsLabel s at e → span.start ≡ at → span.end ≡ e
    → HasEntry s i k u → MeetsEnd s k → (k ≡ e) × (u ≡ Some span)
entry_only s i at e k span None g l from to r stops = absurd (label_not_end s i at e g l (subst (MeetsEnd s) r stops))
entry_only s i at e k span (Some other) g l from to (m, b, (d, f)) stops =
    let p = label_at s i at m k g b d in
    let d' : IsLabel s at k = subst (λ x. IsLabel s x k) p d in
    let q : k ≡ e = run_end_unique NameByte s at k e d'.rest l.rest in
    (q, ap Some (f ∙ ap (λ x. record { start = x; end = k }) p ∙ sym (span_is at e k span from to q)))

pub finds_entry : (s : List ℕ) (i at : ℕ) (span : Span) → at ≢ i → IsWholeRun Blank s i at → span.start ≡ at → IsLabel s at span.end
    → at < span.end → span.end ≤ length s →
    FindsEntry s i (record { what = Some span; end = span.end; fits = true })
finds_entry s i at span n g from l some w = record {
  reads = (at, record { some = let o = g.run.order in omega arith; run = g.run }, (l, span_is at span.end span.end span from refl refl));
  only = λ k u r stops. entry_only s i at span.end k span u g l from refl r stops;
  order = let o = g.run.order in omega arith;
  within = w;
}

pub gives_end : (s : List ℕ) (label : Span) (at : ℕ) (table : List Node) (f : Read (Option Span)) → FindsEntry s label.end f
    → IsWholeRun Blank s f.end at → at ≡ length s →
    GivesPhrase (IsEndRest s label) (length s) label.end table table
    (record { label = Some label; core = None; jump = jumps.Fall; entry = f.what; fits = true })
gives_end s label at table f a g e = record {
  tree = record { label = Some label; core = None; jump = Fall; entry = f.what };
  reads = record { after_entry = f.end; label = refl; entry = a.reads; rest = subst (λ y. IsGap s f.end y) e g.run; core = refl; jump = refl };
  only = λ u r. let q = a.only r.after_entry u.entry r.entry (meets_end s r.after_entry r.rest) in
      statement_equal u (record { label = Some label; core = None; jump = Fall; entry = f.what }) r.label r.core r.jump q.1;
  stands = (refl, tt, tt, refl);
  fits = refl;
  room = let o = a.order in let w = a.within in omega arith;
  used = uses_none table [];
}

pub lacks_end : (s : List ℕ) (label : Span) (at : ℕ) (f : Read (Option Span)) → FindsEntry s label.end f → IsWholeRun Blank s f.end at → at ≢ length s
    → (u : StatementTree) → IsEndRest s label u → ⊥
lacks_end s label at f a g never u r =
    let m = meets_end s r.after_entry r.rest in
    let q = a.only r.after_entry u.entry r.entry m in
    never (run_end_unique Blank s f.end at (length s) g (subst (λ x. IsWholeRun Blank s x (length s)) q.0 m.gap))

some_equal : {a b : Span} → Some a ≡ Some b → a ≡ b
some_equal e = cc

-- the label of a statement
core_from : (s : List ℕ) (i j : ℕ) (c : Option CoreTree) → is_blank (byte s i) ≡ false → HasCore s i j c → (j ≡ i) × (c ≡ None)
core_from s i j None h r = (r, refl)
core_from s i j (Some c) h (k, b, r) = let blank = b.run.each i (omega arith) b.some in absurd (cc)

jump_from : (s : List ℕ) (i j : ℕ) (g : JumpTree) → is_blank (byte s i) ≡ false → HasJump s i j g → (j ≡ i) × (g ≡ Fall)
jump_from s i j Fall h r = (r, refl)
jump_from s i j (Always t) h (k, l, b, d, c, r) = let blank = b.run.each i (omega arith) b.some in absurd (cc)
jump_from s i j (Either t u) h (k, l, b, d, c, r) = let blank = b.run.each i (omega arith) b.some in absurd (cc)

label_is : (s : List ℕ) (i j e : ℕ) (x : Option Span) → IsLabel s i e → HasLabel s i j x → x ≢ None → (j ≡ e) × (x ≡ Some (record { start = i; end = e }))
label_is s i j e None l r n = absurd (n refl)
label_is s i j e (Some span) l (m, f) n = let q : j ≡ e = run_end_unique NameByte s i j e m.rest l.rest in
    (q, ap Some (f ∙ ap (λ x. record { start = i; end = x }) q))

label_none_is : (s : List ℕ) (i j : ℕ) (x : Option Span) → ((e : ℕ) → IsLabel s i e → ⊥) → HasLabel s i j x → (j ≡ i) × (x ≡ None)
label_none_is s i j None n r = (r, refl)
label_none_is s i j (Some span) n (m, f) = absurd (n j m)

unlabelled : (s : List ℕ) (i : ℕ) (u : StatementTree) (r : IsPlain s i u) → is_blank (byte s i) ≡ false → HasLabel s i r.after_label None → u.label ≡ None → ⊥
unlabelled s i u r h at e =
    let c = core_from s i r.after_core u.core h (subst (λ x. HasCore s x r.after_core u.core) at r.core) in
    let g = jump_from s i r.after_jump u.jump h (subst (λ x. HasJump s x r.after_jump u.jump) c.0 r.jump) in
    r.some e c.1 g.1

labelled : (s : List ℕ) (i e : ℕ) (u : StatementTree) (r : IsPlain s i u) → IsLabel s i e → (r.after_label ≡ e)
    × (u.label ≡ Some (record { start = i; end = e }))
labelled s i e u r l = label_is s i r.after_label e u.label l r.label
    (λ n. unlabelled s i u r (label_not_blank _ l.first) (subst (λ x. HasLabel s i r.after_label x) n r.label) n)

rest_of : (s : List ℕ) (i e : ℕ) (given : Option Span) (u : StatementTree) (r : IsPlain s i u) → r.after_label ≡ e → u.label ≡ given → IsRest s given e u
rest_of s i e given u r f g = record {
  after_core = r.after_core;
  after_jump = r.after_jump;
  label = g;
  core = subst (λ x. HasCore s x r.after_core u.core) f r.core;
  jump = r.jump;
  rest = r.rest;
  entry = r.entry;
  some = r.some;
}

end_of : (s : List ℕ) (i e : ℕ) (u : StatementTree) (r : IsEnd s i u) → IsLabel s i e → IsEndRest s (record { start = i; end = e }) u
    × (part s (record { start = i; end = e }) ≡ codes "END")
end_of s i e u r l =
    let q = label_is s i r.after_label e (Some r.span) l r.has_label (λ n. cc) in
    let same : r.span ≡ record { start = i; end = e } = some_equal q.1 in (
      record {
        after_entry = r.after_entry;
        label = r.label ∙ ap Some same;
        entry = subst (λ x. HasEntry s x r.after_entry u.entry) q.0 r.entry;
        rest = r.rest;
        core = r.core;
        jump = r.jump;
      },
      ap (part s) (sym same) ∙ r.is_end,
    )

unlabelled_only : (s : List ℕ) (i : ℕ) (u t : StatementTree) → ((e : ℕ) → IsLabel s i e → ⊥) → ((u : StatementTree) → IsRest s None i u → u ≡ t)
    → IsStatement s i u → u ≡ t
unlabelled_only s i u t n only (inl r) = let q = label_none_is s i r.after_label u.label n r.label in only u (rest_of s i i None u r q.0 q.1)
unlabelled_only s i u t n only (inr r) = absurd (n r.after_label r.has_label.0)

labelled_only : (s : List ℕ) (i e : ℕ) (u t : StatementTree) → IsLabel s i e → part s (record { start = i; end = e }) ≢ codes "END"
    → ((u : StatementTree) → IsRest s (Some (record { start = i; end = e })) e u → u ≡ t) → IsStatement s i u → u ≡ t
labelled_only s i e u t l x only (inl r) = let q = labelled s i e u r l in only u (rest_of s i e (Some (record { start = i; end = e })) u r q.0 q.1)
labelled_only s i e u t l x only (inr r) = absurd (x (end_of s i e u r l).1)

end_only : (s : List ℕ) (i e : ℕ) (u t : StatementTree) → IsLabel s i e → part s (record { start = i; end = e }) ≡ codes "END"
    → ((u : StatementTree) → IsEndRest s (record { start = i; end = e }) u → u ≡ t) → IsStatement s i u → u ≡ t
end_only s i e u t l x only (inl r) = let q = labelled s i e u r l in absurd (r.no_end _ q.1 x)
end_only s i e u t l x only (inr r) = only u (end_of s i e u r l).0

unlabelled_none : (s : List ℕ) (i : ℕ) (u : StatementTree) → ((e : ℕ) → IsLabel s i e → ⊥)
    → ((u : StatementTree) → IsRest s None i u → ⊥) → IsStatement s i u → ⊥
unlabelled_none s i u n f (inl r) = let q = label_none_is s i r.after_label u.label n r.label in f u (rest_of s i i None u r q.0 q.1)
unlabelled_none s i u n f (inr r) = n r.after_label r.has_label.0

labelled_none : (s : List ℕ) (i e : ℕ) (u : StatementTree) → IsLabel s i e → part s (record { start = i; end = e }) ≢ codes "END"
    → ((u : StatementTree) → IsRest s (Some (record { start = i; end = e })) e u → ⊥) → IsStatement s i u → ⊥
labelled_none s i e u l x f (inl r) = let q = labelled s i e u r l in f u (rest_of s i e (Some (record { start = i; end = e })) u r q.0 q.1)
labelled_none s i e u l x f (inr r) = x (end_of s i e u r l).1

end_none : (s : List ℕ) (i e : ℕ) (u : StatementTree) → IsLabel s i e → part s (record { start = i; end = e }) ≡ codes "END"
    → ((u : StatementTree) → IsEndRest s (record { start = i; end = e }) u → ⊥) → IsStatement s i u → ⊥
end_none s i e u l x f (inl r) = let q = labelled s i e u r l in r.no_end _ q.1 x
end_none s i e u l x f (inr r) = f u (end_of s i e u r l).0

-- no label
pub statement_unlabelled : (s : List ℕ) (i : ℕ) (old new : List Node) (p : Option Phrase) → ((e : ℕ) → IsLabel s i e → ⊥)
    → PhraseOutcome (IsRest s None i) (length s) i old new p → PhraseOutcome (IsStatement s i) (length s) i old new p
statement_unlabelled s i old new None n f = λ u r. unlabelled_none s i u n f r
statement_unlabelled s i old new (Some p) n a = record {
  tree = a.tree;
  reads = inl (record {
    after_label = i;
    after_core = a.reads.after_core;
    after_jump = a.reads.after_jump;
    label = rw a.reads.label refl;
    core = a.reads.core;
    jump = a.reads.jump;
    rest = a.reads.rest;
    entry = a.reads.entry;
    some = a.reads.some;
    no_end = λ span e. absurd (let f = sym a.reads.label ∙ e in cc);
    no_return = λ span e. absurd (let f = sym a.reads.label ∙ e in cc);
    no_freturn = λ span e. absurd (let f = sym a.reads.label ∙ e in cc);
  });
  only = λ u r. unlabelled_only s i u a.tree n a.only r;
  stands = a.stands;
  fits = a.fits;
  room = a.room;
  used = a.used;
}

-- any other label
pub statement_labelled : (s : List ℕ) (i e : ℕ) (old new : List Node) (p : Option Phrase) → IsLabel s i e → i < e
    → part s (record { start = i; end = e }) ≢ codes "END" → part s (record { start = i; end = e }) ≢ codes "RETURN" →
    part s (record { start = i; end = e }) ≢ codes "FRETURN" → PhraseOutcome (IsRest s (Some (record { start = i; end = e })) e) (length s) e old new p
    → PhraseOutcome (IsStatement s i) (length s) i old new p
statement_labelled s i e old new None l lt x y z f = λ u r. labelled_none s i e u l x f r
statement_labelled s i e old new (Some p) l lt x y z a = record {
  tree = a.tree;
  reads = inl (record {
    after_label = e;
    after_core = a.reads.after_core;
    after_jump = a.reads.after_jump;
    label = rw a.reads.label (l, refl);
    core = a.reads.core;
    jump = a.reads.jump;
    rest = a.reads.rest;
    entry = a.reads.entry;
    some = a.reads.some;
    no_end = λ span f same. x (ap (part s) (some_equal (sym a.reads.label ∙ f)) ∙ same);
    no_return = λ span f same. y (ap (part s) (some_equal (sym a.reads.label ∙ f)) ∙ same);
    no_freturn = λ span f same. z (ap (part s) (some_equal (sym a.reads.label ∙ f)) ∙ same);
  });
  only = λ u r. labelled_only s i e u a.tree l x a.only r;
  stands = a.stands;
  fits = a.fits;
  room = let o = a.room in omega arith;
  used = a.used;
}

-- END
pub statement_end : (s : List ℕ) (i e : ℕ) (table : List Node) (p : Option Phrase) → IsLabel s i e → i < e
    → part s (record { start = i; end = e }) ≡ codes "END" →
    PhraseOutcome (IsEndRest s (record { start = i; end = e })) (length s) e table table p → PhraseOutcome (IsStatement s i) (length s) i table table p
statement_end s i e table None l lt x f = λ u r. end_none s i e u l x f r
statement_end s i e table (Some p) l lt x a = record {
  tree = a.tree;
  reads = inr (record {
    after_label = e;
    after_entry = a.reads.after_entry;
    span = record { start = i; end = e };
    label = a.reads.label;
    has_label = (l, refl);
    is_end = x;
    entry = a.reads.entry;
    rest = a.reads.rest;
    core = a.reads.core;
    jump = a.reads.jump;
  });
  only = λ u r. end_only s i e u a.tree l x a.only r;
  stands = a.stands;
  fits = a.fits;
  room = let o = a.room in omega arith;
  used = a.used;
}

-- RETURN or FRETURN
pub statement_return : (s : List ℕ) (i e : ℕ) → IsLabel s i e → part s (record { start = i; end = e }) ≡ codes "RETURN"
    → (u : StatementTree) → IsStatement s i u → ⊥
statement_return s i e l x u (inl r) = let q = labelled s i e u r l in r.no_return _ q.1 x
statement_return s i e l x u (inr r) = let y = sym (end_of s i e u r l).1 ∙ x in absurd (cc)

pub statement_freturn : (s : List ℕ) (i e : ℕ) → IsLabel s i e → part s (record { start = i; end = e }) ≡ codes "FRETURN"
    → (u : StatementTree) → IsStatement s i u → ⊥
statement_freturn s i e l x u (inl r) = let q = labelled s i e u r l in r.no_freturn _ q.1 x
statement_freturn s i e l x u (inr r) = let y = sym (end_of s i e u r l).1 ∙ x in absurd (cc)

pub ruleset plain_facts = (gives_rest, lacks_rest_core, lacks_rest_jump, lacks_rest_end)

pub ruleset entry_facts = (finds_no_entry, finds_entry)

pub ruleset end_facts = (gives_end, lacks_end)

pub ruleset statement_facts = (statement_unlabelled, statement_labelled, statement_end, statement_return, statement_freturn)
