-- Gotos and their targets are found exactly.
use Rattle.std.proofs.Common.{◌≡◌, ◌≢◌, ℕ, ◌+◌, ◌<◌, ◌≤◌, ◌⊎◌, ◌||◌, inl, inr, true, false, List, [], length, arith, refl, sym, ◌∙◌, ap, subst, Some, None}
use Rattle.std.proofs.Common.{Option}
use Rattle.std.proofs.lemmas.Bool.Decides.{nat_tests}
use Rattle.std.proofs.lemmas.List.{get_or_past}
use Rattle.sno_text.specs.declared.bytes.Class.TheVariants.{Blank, NameByte}
use Rattle.sno_text.specs.declared.node.Node.{Node}
use Rattle.sno_text.specs.declared.node.Span.{Span}
use Rattle.sno_text.specs.declared.table.Found.{Found}
use Rattle.sno_text.specs.declared.table.Read.{Read}
use Rattle.sno_text.specs.declared.statement.Target.{Target}
use Rattle.sno_text.specs.declared.statement.Target.TheVariants as targets
use Rattle.sno_text.specs.Bytes.{byte, is_blank, is_letter, is_digit, is_name_byte, IsWholeRun}
use Rattle.sno_text.specs.Trees.{Tree}
use Rattle.sno_text.specs.Grammar.{IsGap, Element, Reads}
use Rattle.sno_text.specs.inner.Links.{Stops, Refuses}
use Rattle.sno_text.specs.inner.Parsed.{Parsed as Found_outcome}
use Rattle.sno_text.specs.Statements.{TargetTree, Label, Computed, IsLabel, IsPlace, label, computed, IsTarget, HasOther, target_fits, target_option_fits}
use Rattle.sno_text.specs.Program.{target_ids, target_option_ids}
use Rattle.sno_text.specs.Pieces.{Gives, StandsTarget}
use Rattle.sno_text.specs.inner.Pieces.{MeetsEnd, Anywhere, Lacks, StandsTargets}
use Rattle.sno_text.proofs.Runs.{run_end_unique}
use Rattle.sno_text.proofs.Primaries.{gap_stops, end_byte_bracket}
use Rattle.sno_text.proofs.Tables.{run_some, grown_of, extends_same, extends_trans, stands_more, uses_none}
use Rattle.sno_text.proofs.Stops.{gap_whole}

label_dollar : (b : ℕ) → (is_letter b || is_digit b) ≡ true → b ≡ 36 → ⊥
unfolding is_letter is_digit
label_dollar b h e = let f : (is_letter 36 || is_digit 36) ≡ true = rw e at h in cc

pub label_not_blank : (b : ℕ) → (is_letter b || is_digit b) ≡ true → is_blank b ≡ false
unfolding is_letter is_digit is_blank
label_not_blank b h = grind (arith, nat_tests)

dollar_not_blank : (b : ℕ) → b ≡ 36 → is_blank b ≡ false
unfolding is_blank
dollar_not_blank b e = rw e refl

-- a place is a label or behind '$'
label_only : (s : List ℕ) (i e k : ℕ) (u : TargetTree) → IsLabel s i e → IsPlace s i k u → (k ≡ e) × (u ≡ Label (record { start = i; end = e }))
label_only s i e k u l (label m f) = let g : k ≡ e = run_end_unique NameByte s i k e m.rest l.rest in (g, f ∙ ap (λ x. Label (record { start = i; end = x })) g)
label_only s i e k u l (computed h r f) = absurd (label_dollar _ l.first h)

pub gives_label : (s : List ℕ) (i e : ℕ) (old : List Node) (span : Span) → IsLabel s i e → span.start ≡ i → span.end ≡ e → i < e → e ≤ length s →
    Gives TargetTree Target (IsPlace s i) (Stops s 7) StandsTarget target_ids target_fits (length s) i old old
    (record { what = targets.Label span; end = e; fits = true })
gives_label s i e old span l from to some within = record {
  tree = Label (record { start = i; end = e });
  reads = label l refl;
  only = λ k u r stops. label_only s i e k u l r;
  stands = rw (← from, ← to) refl;
  fits = refl;
  order = omega arith;
  within = within;
  room = omega arith;
  used = uses_none old [];
}

place_computed : (s : List ℕ) (i k e : ℕ) (u : TargetTree) (t : Tree) → byte s i ≡ 36
    → ((k : ℕ) (u : Tree) → Reads s Element (i + 1) k u → Stops s 7 k → (k ≡ e) × (u ≡ t)) → IsPlace s i k u → Stops s 7 k → (k ≡ e) × (u ≡ Computed t)
place_computed s i k e u t h only (label l f) stops = absurd (label_dollar _ l.first h)
place_computed s i k e u t h only (computed {u = v} g r f) stops = let q = only k v r stops in (q.0, f ∙ ap Computed q.1)

pub gives_computed : (s : List ℕ) (i : ℕ) (old new : List Node) (f : Found) → byte s i ≡ 36 → Found_outcome s Element (Stops s 7) (i + 1) old new (Some f) →
    Gives TargetTree Target (IsPlace s i) (Stops s 7) StandsTarget target_ids target_fits (length s) i old new
    (record { what = targets.Computed f.id; end = f.end; fits = f.fits })
gives_computed s i old new f h a = record {
  tree = Computed a.tree;
  reads = computed h a.finds.reads refl;
  only = λ k u r stops. place_computed s i k f.end u a.tree h a.finds.only r stops;
  stands = a.stands;
  fits = a.fit;
  order = let v = a.some in omega arith;
  within = a.within;
  room = let v = a.room in omega arith;
  used = a.used;
}

computed_none : (s : List ℕ) (i k : ℕ) (u : TargetTree) → byte s i ≡ 36 → Refuses s Element (Stops s 7) (i + 1) → IsPlace s i k u → Stops s 7 k → ⊥
computed_none s i k u h f (label l e) stops = label_dollar _ l.first h
computed_none s i k u h f (computed {u = v} g r e) stops = f.none k v r stops

pub lacks_computed : (s : List ℕ) (i : ℕ) → byte s i ≡ 36 → Refuses s Element (Stops s 7) (i + 1) → Lacks TargetTree (IsPlace s i) (Stops s 7)
lacks_computed s i h f = record { none = λ k u r stops. computed_none s i k u h f r stops }

label_none : (s : List ℕ) (i k : ℕ) (u : TargetTree) → byte s i ≢ 36 → ((j : ℕ) → IsLabel s i j → ⊥) → IsPlace s i k u → ⊥
label_none s i k u h f (label l e) = f k l
label_none s i k u h f (computed g r e) = h g

pub lacks_label : (s : List ℕ) (i : ℕ) → byte s i ≢ 36 → ((j : ℕ) → IsLabel s i j → ⊥) → Lacks TargetTree (IsPlace s i) (Stops s 7)
lacks_label s i h f = record { none = λ k u r stops. label_none s i k u h f r }

-- a target
place_not_blank : (s : List ℕ) (i k : ℕ) (u : TargetTree) → IsPlace s i k u → is_blank (byte s i) ≡ false
place_not_blank s i k u (label l e) = label_not_blank _ l.first
place_not_blank s i k u (computed g r e) = dollar_not_blank _ g

target_stops : {s : List ℕ} {i j : ℕ} {u : TargetTree} (t : IsTarget s i j u) → Stops s 7 t.to
target_stops {s} t = gap_stops s 7 t.to t.last t.after (end_byte_bracket _ t.closing)

target_from : (s : List ℕ) (i j k : ℕ) (u : TargetTree) (t : IsTarget s i j u) → IsWholeRun Blank s (i + 1) k → t.from ≡ k
target_from s i j k u t g = run_end_unique Blank s (i + 1) t.from k (gap_whole s (i + 1) t.from t.before (place_not_blank s t.from t.to u t.place)) g

target_place : (s : List ℕ) (i j k : ℕ) (u : TargetTree) (t : IsTarget s i j u) → IsWholeRun Blank s (i + 1) k → IsPlace s k t.to u
target_place s i j k u t g = subst (λ x. IsPlace s x t.to u) (target_from s i j k u t g) t.place

target_last : (s : List ℕ) (i j m l : ℕ) (u : TargetTree) (t : IsTarget s i j u) → t.to ≡ m → IsWholeRun Blank s m l → t.last ≡ l
target_last s i j m l u t e g =
    run_end_unique Blank s m t.last l (subst (λ x. IsWholeRun Blank s x t.last) e (gap_whole s t.to t.last t.after (end_byte_bracket _ t.closing).no_blank)) g

target_only : (s : List ℕ) (i k l : ℕ) (old new : List Node) (f : Read Target) → IsWholeRun Blank s (i + 1) k →
    (a : Gives TargetTree Target (IsPlace s k) (Stops s 7) StandsTarget target_ids target_fits (length s) k old new f) → IsWholeRun Blank s f.end l
    → (j : ℕ) (u : TargetTree) → IsTarget s i j u → (j ≡ l + 1) × (u ≡ a.tree)
target_only s i k l old new f g a h j u t =
    let q = a.only t.to u (target_place s i j k u t g) (target_stops t) in
    (t.end ∙ ap (λ x. x + 1) (target_last s i j f.end l u t q.0 h), q.1)

pub gives_target : (s : List ℕ) (i k l : ℕ) (old new : List Node) (f : Read Target) → byte s i ≡ 40 → IsWholeRun Blank s (i + 1) k →
    Gives TargetTree Target (IsPlace s k) (Stops s 7) StandsTarget target_ids target_fits (length s) k old new f → IsWholeRun Blank s f.end l
    → byte s l ≡ 41 → l < length s →
    Gives TargetTree Target (IsTarget s i) Anywhere StandsTarget target_ids target_fits (length s) i old new
    (record { what = f.what; end = l + 1; fits = f.fits })
gives_target s i k l old new f o g a h c w = record {
  tree = a.tree;
  reads = record { from = k; to = f.end; last = l; opening = o; before = g.run; place = a.reads; after = h.run; closing = c; end = refl };
  only = λ j u t stops. target_only s i k l old new f g a h j u t;
  stands = a.stands;
  fits = a.fits;
  order = let v = g.run.order in let x = a.order in let y = h.run.order in omega arith;
  within = omega arith;
  room = let v = g.run.order in let x = a.room in let y = h.run.order in omega arith;
  used = a.used;
}

pub lacks_opening : (s : List ℕ) (i : ℕ) → byte s i ≢ 40 → Lacks TargetTree (IsTarget s i) Anywhere
lacks_opening s i h = record { none = λ j u t stops. h t.opening }

pub lacks_place : (s : List ℕ) (i k : ℕ) → IsWholeRun Blank s (i + 1) k → Lacks TargetTree (IsPlace s k) (Stops s 7) → Lacks TargetTree (IsTarget s i) Anywhere
lacks_place s i k g f = record { none = λ j u t stops. f.none t.to u (target_place s i j k u t g) (target_stops t) }

pub lacks_closing : (s : List ℕ) (i k l : ℕ) (old new : List Node) (f : Read Target) → IsWholeRun Blank s (i + 1) k →
    Gives TargetTree Target (IsPlace s k) (Stops s 7) StandsTarget target_ids target_fits (length s) k old new f → IsWholeRun Blank s f.end l → byte s l ≢ 41
    → Lacks TargetTree (IsTarget s i) Anywhere
lacks_closing s i k l old new f g a h never = record {
  none = λ j u t stops.
      let q = a.only t.to u (target_place s i j k u t g) (target_stops t) in
      let e = target_last s i j f.end l u t q.0 h in
      never (subst (λ x. byte s x ≡ 41) e t.closing);
}

-- the other target
letter_not_blank : (b letter : ℕ) → (letter ≡ 70) ⊎ (letter ≡ 83) → b ≡ letter → is_blank b ≡ false
unfolding is_blank
letter_not_blank b letter (inl e) f = rw (f, e) refl
letter_not_blank b letter (inr e) f = rw (f, e) refl

letter_not_zero : (letter : ℕ) → (letter ≡ 70) ⊎ (letter ≡ 83) → letter ≡ 0 → ⊥
letter_not_zero letter (inl e) f = omega arith
letter_not_zero letter (inr e) f = omega arith

other_at : (s : List ℕ) (letter i at k : ℕ) → (letter ≡ 70) ⊎ (letter ≡ 83) → IsWholeRun Blank s i at → IsGap s i k → byte s k ≡ letter → k ≡ at
other_at s letter i at k h g b e = run_end_unique Blank s i k at (gap_whole s i k b (letter_not_blank _ letter h e)) g

no_other : (s : List ℕ) (letter i at k : ℕ) (u : Option TargetTree) → (letter ≡ 70) ⊎ (letter ≡ 83) → IsWholeRun Blank s i at → byte s at ≢ letter
    → HasOther s letter i k u → (k ≡ i) × (u ≡ None)
no_other s letter i at k None h g n e = (e, refl)
no_other s letter i at k (Some t) h g n (m, b, e, r) = absurd (n (subst (λ x. byte s x ≡ letter) (other_at s letter i at m h g b e) e))

pub gives_no_other : (s : List ℕ) (letter i at : ℕ) (old : List Node) → (letter ≡ 70) ⊎ (letter ≡ 83)
    → IsWholeRun Blank s i at → byte s at ≢ letter → i ≤ length s →
    Gives (Option TargetTree) (Option Target) (HasOther s letter i) (MeetsEnd s) StandsTargets target_option_ids target_option_fits (length s) i old old
    (record { what = None; end = i; fits = true })
gives_no_other s letter i at old h g n w = record {
  tree = None;
  reads = refl;
  only = λ k u r stops. no_other s letter i at k u h g n r;
  stands = tt;
  fits = refl;
  order = omega arith;
  within = w;
  room = omega arith;
  used = uses_none old [];
}

end_not_letter : (s : List ℕ) (letter i at : ℕ) → (letter ≡ 70) ⊎ (letter ≡ 83) → IsWholeRun Blank s i at → byte s at ≡ letter → MeetsEnd s i → ⊥
end_not_letter s letter i at h g e m =
    let at_end : length s ≡ at = run_end_unique Blank s i (length s) at m.gap g in
    let zero : byte s at ≡ 0 = get_or_past s at 0 (omega arith) in
    letter_not_zero letter h (sym e ∙ zero)

some_other : (s : List ℕ) (letter i at k e : ℕ) (u : Option TargetTree) (t : TargetTree) → (letter ≡ 70) ⊎ (letter ≡ 83)
    → IsWholeRun Blank s i at → byte s at ≡ letter →
    ((k : ℕ) (u : TargetTree) → IsTarget s (at + 1) k u → (k ≡ e) × (u ≡ t)) → HasOther s letter i k u → MeetsEnd s k → (k ≡ e) × (u ≡ Some t)
some_other s letter i at k e None t h g b only r stops = absurd (end_not_letter s letter i at h g b (subst (MeetsEnd s) r stops))
some_other s letter i at k e (Some v) t h g b only (m, d, c, r) stops =
    let q = only k v (subst (λ x. IsTarget s (x + 1) k v) (other_at s letter i at m h g d c) r) in (q.0, ap Some q.1)

pub gives_other : (s : List ℕ) (letter i at : ℕ) (old new : List Node) (f : Read Target) → (letter ≡ 70) ⊎ (letter ≡ 83)
    → IsWholeRun Blank s i at → byte s at ≡ letter →
    Gives TargetTree Target (IsTarget s (at + 1)) Anywhere StandsTarget target_ids target_fits (length s) (at + 1) old new f →
    Gives (Option TargetTree) (Option Target) (HasOther s letter i) (MeetsEnd s) StandsTargets target_option_ids target_option_fits (length s) i old new
    (record { what = Some f.what; end = f.end; fits = f.fits })
gives_other s letter i at old new f h g b a = record {
  tree = Some a.tree;
  reads = (at, g.run, b, a.reads);
  only = λ k u r stops. some_other s letter i at k f.end u a.tree h g b (λ k u r. a.only k u r tt) r stops;
  stands = a.stands;
  fits = a.fits;
  order = let v = g.run.order in let x = a.order in omega arith;
  within = a.within;
  room = let v = g.run.order in let x = a.room in omega arith;
  used = a.used;
}

other_none : (s : List ℕ) (letter i at k : ℕ) (u : Option TargetTree) → (letter ≡ 70) ⊎ (letter ≡ 83) → IsWholeRun Blank s i at → byte s at ≡ letter →
    Lacks TargetTree (IsTarget s (at + 1)) Anywhere → HasOther s letter i k u → MeetsEnd s k → ⊥
other_none s letter i at k None h g b f r stops = end_not_letter s letter i at h g b (subst (MeetsEnd s) r stops)
other_none s letter i at k (Some v) h g b f (m, d, c, r) stops = f.none k v (subst (λ x. IsTarget s (x + 1) k v) (other_at s letter i at m h g d c) r) tt

pub lacks_other : (s : List ℕ) (letter i at : ℕ) → (letter ≡ 70) ⊎ (letter ≡ 83) → IsWholeRun Blank s i at → byte s at ≡ letter →
    Lacks TargetTree (IsTarget s (at + 1)) Anywhere → Lacks (Option TargetTree) (HasOther s letter i) (MeetsEnd s)
lacks_other s letter i at h g b f = record { none = λ k u r stops. other_none s letter i at k u h g b f r stops }

pub label_name_byte : (b : ℕ) → (is_letter b || is_digit b) ≡ true → is_name_byte b ≡ true
unfolding is_name_byte
label_name_byte b h = rw h refl

pub is_label : (s : List ℕ) (i e : ℕ) → (is_letter (byte s i) || is_digit (byte s i)) ≡ true → IsWholeRun NameByte s i e → IsLabel s i e × (i < e)
is_label s i e h r = (record { first = h; rest = r }, run_some NameByte s i e r (label_name_byte _ h))

pub no_label : (s : List ℕ) (i j : ℕ) → is_letter (byte s i) ≡ false → is_digit (byte s i) ≡ false → IsLabel s i j → ⊥
no_label s i j a b l = let h = l.first in cc

pub ruleset place_facts = (gives_label, gives_computed, lacks_computed, lacks_label, extends_same)

pub ruleset target_facts = (gives_target, lacks_opening, lacks_place, lacks_closing, extends_same)

pub ruleset other_facts = (gives_no_other, gives_other, lacks_other, extends_same)
