-- Cores are found exactly.
use Rattle.std.proofs.Common.{◌≡◌, ◌≢◌, ℕ, ◌+◌, ◌≤◌, ◌⊎◌, ◌&&◌, inl, inr, Bool, true, false, List, [], ◌∷◌, ◌++◌, length, arith, refl, ◌∙◌, ap, subst, Some}
use Rattle.std.proofs.Common.{None, Option}
use Rattle.std.proofs.lemmas.List.{get_or_past}
use Rattle.sno_value.specs.declared.ids.ExprId.{ExprId}
use Rattle.sno_text.specs.declared.bytes.Class.TheVariants.{Blank}
use Rattle.sno_text.specs.declared.node.Node.{Node}
use Rattle.sno_text.specs.declared.table.Found.{Found}
use Rattle.sno_text.specs.declared.table.Read.{Read}
use Rattle.sno_text.specs.declared.statement.Core.{Core}
use Rattle.sno_text.specs.declared.body.Object.{Object}
use Rattle.sno_text.specs.Bytes.{byte, can_start, IsWholeRun}
use Rattle.sno_text.specs.Trees.{Tree, fits}
use Rattle.sno_text.specs.Grammar.{IsBlanks, Level, Element, Reads}
use Rattle.sno_text.specs.inner.Links.{Starts, Stops, Refuses}
use Rattle.sno_text.specs.inner.Parsed.{Parsed as Found_outcome, Extends}
use Rattle.sno_text.specs.Statements.{HasExpression, HasObject, IsCore, HasCore, CoreTree, option_fits, core_fits, core_option_fits}
use Rattle.sno_text.specs.Program.{option_ids, core_ids, core_option_ids}
use Rattle.sno_text.specs.Pieces.{Gives, StandsExpression, StandsCore, StandsCores}
use Rattle.sno_text.specs.inner.Pieces.{object_ids, MeetsColon, MeetsEquals, Lacks, StandsObject, HasObjectPair}
use Rattle.sno_text.specs.inner.Pieces.{object_fits}
use Rattle.sno_text.proofs.Runs.{run_end_unique}
use Rattle.sno_text.proofs.Starts.{reads_start, start_can_start}
use Rattle.sno_text.proofs.Tables.{extends_same, grown_of, grown_trans, uses_none, uses_both}
use Rattle.sno_text.proofs.Standing.{stands_kept, stands_expression_more}
use Rattle.sno_text.proofs.Stops.{end_byte_equals, blanks_whole, blanks_start, colon_meets_equals, blanks_equals, equals_stops, blanks_stop, start_meets_none}

-- no blanks and the start of an element from here
abbrev NoStart : List ℕ → ℕ → Type 0
NoStart s i = (k : ℕ) → IsBlanks s i k → Starts s k → ⊥

start_at : (s : List ℕ) (i at k : ℕ) → IsWholeRun Blank s i at → IsBlanks s i k → Starts s k → k ≡ at
start_at s i at k g b r = run_end_unique Blank s i k at (blanks_start s i k b r) g

no_start : (s : List ℕ) (i at : ℕ) → IsWholeRun Blank s i at → (at ≡ i) ⊎ (can_start (byte s at) ≡ false) → NoStart s i
no_start s i at g (inl e) k b h = let f = start_at s i at k g b h in let some = b.some in absurd (omega arith)
no_start s i at g (inr n) k b h = let f = start_at s i at k g b h in let yes = start_can_start s k h in let yes' : can_start (byte s at) ≡ true =
    rw f at yes in absurd (cc)

blanks_at : (s : List ℕ) (i at : ℕ) → at ≢ i → IsWholeRun Blank s i at → IsBlanks s i at
blanks_at s i at n g = record { some = let o = g.run.order in omega arith; run = g.run }

-- [b expr]
no_expression_only : (s : List ℕ) (i k : ℕ) (u : Option Tree) → NoStart s i → HasExpression s i k u → (k ≡ i) × (u ≡ None)
no_expression_only s i k None n r = (r, refl)
no_expression_only s i k (Some t) n (m, b, r) = absurd (n m b (reads_start r))

pub gives_no_expression : (s : List ℕ) (i at : ℕ) (old : List Node) → IsWholeRun Blank s i at → (at ≡ i) ⊎ (can_start (byte s at) ≡ false) → i ≤ length s →
    Gives (Option Tree) (Option ExprId) (HasExpression s i) (MeetsEquals s) StandsExpression option_ids option_fits (length s) i old old
    (record { what = None; end = i; fits = true })
gives_no_expression s i at old g h w = record {
  tree = None;
  reads = refl;
  only = λ k u r stops. no_expression_only s i k u (no_start s i at g h) r;
  stands = tt;
  fits = refl;
  order = omega arith;
  within = w;
  room = omega arith;
  used = uses_none old [];
}

expression_only : (s : List ℕ) (i at k e : ℕ) (u : Option Tree) (t : Tree) → IsWholeRun Blank s i at → can_start (byte s at) ≡ true →
    ((k : ℕ) (u : Tree) → Reads s (Level 0) at k u → Stops s 0 k → (k ≡ e) × (u ≡ t)) → HasExpression s i k u → MeetsEquals s k → (k ≡ e) × (u ≡ Some t)
expression_only s i at k e None t g h only r stops = absurd (start_meets_none s i at g h (subst (MeetsEquals s) r stops))
expression_only s i at k e (Some v) t g h only (m, b, r) stops =
    let f = start_at s i at m g b (reads_start r) in
    let q = only k v (subst (λ x. Reads s (Level 0) x k v) f r) (equals_stops s 0 k stops) in (q.0, ap Some q.1)

pub gives_expression : (s : List ℕ) (i at : ℕ) (old new : List Node) (f : Found) → at ≢ i → IsWholeRun Blank s i at → can_start (byte s at) ≡ true →
    Found_outcome s (Level 0) (Stops s 0) at old new (Some f) →
    Gives (Option Tree) (Option ExprId) (HasExpression s i) (MeetsEquals s) StandsExpression option_ids option_fits (length s) i old new
    (record { what = Some f.id; end = f.end; fits = f.fits })
gives_expression s i at old new f n g h a = record {
  tree = Some a.tree;
  reads = (at, blanks_at s i at n g, a.finds.reads);
  only = λ k u r stops. expression_only s i at k f.end u a.tree g h a.finds.only r stops;
  stands = a.stands;
  fits = a.fit;
  order = let o = g.run.order in let v = a.some in omega arith;
  within = a.within;
  room = let o = g.run.order in let v = a.room in omega arith;
  used = a.used;
}

expression_none : (s : List ℕ) (i at k : ℕ) (u : Option Tree) → IsWholeRun Blank s i at → can_start (byte s at) ≡ true
    → Refuses s (Level 0) (Stops s 0) at → HasExpression s i k u → MeetsEquals s k → ⊥
expression_none s i at k None g h f r stops = start_meets_none s i at g h (subst (MeetsEquals s) r stops)
expression_none s i at k (Some v) g h f (m, b, r) stops =
    f.none k v (subst (λ x. Reads s (Level 0) x k v) (start_at s i at m g b (reads_start r)) r) (equals_stops s 0 k stops)

pub lacks_expression : (s : List ℕ) (i at : ℕ) → IsWholeRun Blank s i at → can_start (byte s at) ≡ true
    → Refuses s (Level 0) (Stops s 0) at → Lacks (Option Tree) (HasExpression s i) (MeetsEquals s)
lacks_expression s i at g h f = record { none = λ k u r stops. expression_none s i at k u g h f r stops }

-- [b "=" [b expr]]
equals_at : (s : List ℕ) (i at k : ℕ) → IsWholeRun Blank s i at → IsBlanks s i k → byte s k ≡ 61 → k ≡ at
equals_at s i at k g b e = run_end_unique Blank s i k at (blanks_whole s i k b (end_byte_equals s k e).no_blank) g

no_object_only : (s : List ℕ) (i at k : ℕ) (b : Bool) (t : Option Tree) → IsWholeRun Blank s i at → (at ≡ i) ⊎ (byte s at ≢ 61) → HasObject s i k b t → (k ≡ i)
    × (b ≡ false) × (t ≡ None)
no_object_only s i at k false t g h r = (r.0, refl, r.1)
no_object_only s i at k true t g (inl e) (m, b, d, r) = let f = equals_at s i at m g b d in let some = b.some in absurd (omega arith)
no_object_only s i at k true t g (inr n) (m, b, d, r) = absurd (n (subst (λ x. byte s x ≡ 61) (equals_at s i at m g b d) d))

pub gives_no_object : (s : List ℕ) (i at : ℕ) (old : List Node) → IsWholeRun Blank s i at → (at ≡ i) ⊎ (byte s at ≢ 61) → i ≤ length s →
    Gives (Bool × Option Tree) Object (HasObjectPair s i) (MeetsColon s) StandsObject object_ids object_fits (length s) i old old
    (record { what = record { equals = false; object = None }; end = i; fits = true })
gives_no_object s i at old g h w = record {
  tree = (false, None);
  reads = (refl, refl);
  only = λ k u r stops. let q = no_object_only s i at k u.0 u.1 g h r in (q.0, ap (λ y. (y, u.1)) q.1 ∙ ap (λ y. (false, y)) q.2);
  stands = (refl, tt);
  fits = refl;
  order = omega arith;
  within = w;
  room = omega arith;
  used = uses_none old [];
}

colon_not_equals : (s : List ℕ) (i at : ℕ) → IsWholeRun Blank s i at → byte s at ≡ 61 → MeetsColon s i → ⊥
colon_not_equals s i at g e m =
    let same : m.at ≡ at = run_end_unique Blank s i m.at at m.gap g in
    elim m.here [
      | inl f ↦ let zero : byte s at ≡ 0 = get_or_past s at 0 (omega arith) in absurd (omega arith)
      | inr f ↦ let colon : byte s at ≡ 58 = rw same at f in absurd (omega arith)
    ]

object_only : (s : List ℕ) (i at k e : ℕ) (b : Bool) (u t : Option Tree) → IsWholeRun Blank s i at → byte s at ≡ 61 →
    ((k : ℕ) (u : Option Tree) → HasExpression s (at + 1) k u → MeetsEquals s k → (k ≡ e) × (u ≡ t)) → HasObject s i k b u → MeetsColon s k
    → (k ≡ e) × (b ≡ true) × (u ≡ t)
object_only s i at k e false u t g h only r stops = absurd (colon_not_equals s i at g h (subst (MeetsColon s) r.0 stops))
object_only s i at k e true u t g h only (m, b, d, r) stops =
    let q = only k u (subst (λ x. HasExpression s (x + 1) k u) (equals_at s i at m g b d) r) (colon_meets_equals stops) in (q.0, refl, q.1)

pub gives_object : (s : List ℕ) (i at : ℕ) (old new : List Node) (f : Read (Option ExprId)) → at ≢ i → IsWholeRun Blank s i at → byte s at ≡ 61 →
    Gives (Option Tree) (Option ExprId) (HasExpression s (at + 1)) (MeetsEquals s) StandsExpression option_ids option_fits (length s) (at + 1) old new f →
    Gives (Bool × Option Tree) Object (HasObjectPair s i) (MeetsColon s) StandsObject object_ids object_fits (length s) i old new
    (record { what = record { equals = true; object = f.what }; end = f.end; fits = f.fits })
gives_object s i at old new f n g h a = record {
  tree = (true, a.tree);
  reads = (at, blanks_at s i at n g, h, a.reads);
  only = λ k u r stops. let q = object_only s i at k f.end u.0 u.1 a.tree g h a.only r stops in (q.0, ap (λ y. (y, u.1)) q.1 ∙ ap (λ y. (true, y)) q.2);
  stands = (refl, a.stands);
  fits = a.fits;
  order = let o = g.run.order in let v = a.order in omega arith;
  within = a.within;
  room = let o = g.run.order in let v = a.room in omega arith;
  used = a.used;
}

object_none : (s : List ℕ) (i at k : ℕ) (b : Bool) (u : Option Tree) → IsWholeRun Blank s i at → byte s at ≡ 61
    → Lacks (Option Tree) (HasExpression s (at + 1)) (MeetsEquals s) → HasObject s i k b u → MeetsColon s k → ⊥
object_none s i at k false u g h f r stops = colon_not_equals s i at g h (subst (MeetsColon s) r.0 stops)
object_none s i at k true u g h f (m, b, d, r) stops =
    f.none k u (subst (λ x. HasExpression s (x + 1) k u) (equals_at s i at m g b d) r) (colon_meets_equals stops)

pub lacks_object : (s : List ℕ) (i at : ℕ) → IsWholeRun Blank s i at → byte s at ≡ 61 → Lacks (Option Tree) (HasExpression s (at + 1)) (MeetsEquals s)
    → Lacks (Bool × Option Tree) (HasObjectPair s i) (MeetsColon s)
lacks_object s i at g h f = record { none = λ k u r stops. object_none s i at k u.0 u.1 g h f r stops }

-- a core
object_meets : (s : List ℕ) (i j : ℕ) (b : Bool) (t : Option Tree) → HasObject s i j b t → MeetsColon s j → MeetsEquals s i
object_meets s i j false t r m = colon_meets_equals (subst (MeetsColon s) r.0 m)
object_meets s i j true t (k, b, d, r) m = blanks_equals s i k b d

expression_meets : (s : List ℕ) (i j : ℕ) (t : Option Tree) → HasExpression s i j t → MeetsEquals s j → Stops s 7 i
expression_meets s i j None r m = equals_stops s 7 i (subst (MeetsEquals s) r m)
expression_meets s i j (Some t) (k, b, r) m = blanks_stop s i k b

core_equal : (a b : CoreTree) → a.subject ≡ b.subject → a.pattern ≡ b.pattern → a.equals ≡ b.equals → a.object ≡ b.object → a ≡ b
core_equal a b e f g h =
    ap (λ x. record { subject = x; pattern = a.pattern; equals = a.equals; object = a.object }) e
    ∙ ap (λ x. record { subject = b.subject; pattern = x; equals = a.equals; object = a.object }) f
    ∙ ap (λ x. record { subject = b.subject; pattern = b.pattern; equals = x; object = a.object }) g
    ∙ ap (λ x. record { subject = b.subject; pattern = b.pattern; equals = b.equals; object = x }) h

core_pattern : (s : List ℕ) (i k m : ℕ) (u : CoreTree) (r : IsCore s i k u) → r.after_subject ≡ m → HasExpression s m r.after_pattern u.pattern
core_pattern s i k m u r e = subst (λ x. HasExpression s x r.after_pattern u.pattern) e r.pattern

core_object : (s : List ℕ) (i k m : ℕ) (u : CoreTree) (r : IsCore s i k u) → r.after_pattern ≡ m → HasObjectPair s m k (u.equals, u.object)
core_object s i k m u r e = subst (λ x. HasObject s x k u.equals u.object) e r.object

core_meets : (s : List ℕ) (i k : ℕ) (u : CoreTree) (r : IsCore s i k u) → MeetsColon s k → MeetsEquals s r.after_pattern
core_meets s i k u r stops = object_meets s r.after_pattern k u.equals u.object r.object stops

core_stops : (s : List ℕ) (i k : ℕ) (u : CoreTree) (r : IsCore s i k u) → MeetsColon s k → Stops s 7 r.after_subject
core_stops s i k u r stops = expression_meets s r.after_subject r.after_pattern u.pattern r.pattern (core_meets s i k u r stops)

fits_three : (a b c x y z : Bool) → a ≡ x → b ≡ y → c ≡ z → ((a && b) && c) ≡ ((x && y) && z)
fits_three a b c x y z e f g = rw (e, f, g) refl

pub gives_core : {n : ℕ} (s : List ℕ) (i : ℕ) (old one two new : List Node) (f : Found) (g : Read (Option ExprId)) (h : Read Object) →
    Found_outcome s Element (Stops s 7) i old one (Some f) →
    Gives (Option Tree) (Option ExprId) (HasExpression s f.end) (MeetsEquals s) StandsExpression option_ids option_fits
    (length s) f.end one two g → Extends n one two →
    Gives (Bool × Option Tree) Object (HasObjectPair s g.end) (MeetsColon s) StandsObject object_ids object_fits
    (length s) g.end two new h → Extends n two new →
    Gives CoreTree Core (IsCore s i) (MeetsColon s) StandsCore core_ids core_fits (length s) i old new
    (record {
      what = record { subject = f.id; pattern = g.what; equals = h.what.equals; object = h.what.object };
      end = h.end;
      fits = (f.fits && g.fits) && h.fits;
    })
gives_core s i old one two new f g h a b x c y = record {
  tree = record { subject = a.tree; pattern = b.tree; equals = c.tree.0; object = c.tree.1 };
  reads = record { after_subject = f.end; after_pattern = g.end; subject = a.finds.reads; pattern = b.reads; object = c.reads };
  only = λ k u r stops.
      let p = a.finds.only r.after_subject u.subject r.subject (core_stops s i k u r stops) in
      let q = b.only r.after_pattern u.pattern (core_pattern s i k f.end u r p.0) (core_meets s i k u r stops) in
      let o = c.only k (u.equals, u.object) (core_object s i k g.end u r q.0) stops in
      (o.0, core_equal u (record { subject = a.tree; pattern = b.tree; equals = c.tree.0; object = c.tree.1 }) p.1 q.1 (ap (λ z. z.0) o.1) (ap (λ z. z.1) o.1));
  stands = (stands_kept f.id a.tree y (stands_kept f.id a.tree x a.stands), stands_expression_more g.what b.tree y b.stands, c.stands.0, c.stands.1);
  fits = fits_three f.fits g.fits h.fits (fits a.tree) (option_fits b.tree) (option_fits c.tree.1) a.fit b.fits c.fits;
  order = let v = a.some in let w = b.order in let z = c.order in omega arith;
  within = c.within;
  room = let v = a.room in let w = b.room in let z = c.room in omega arith;
  used = uses_both (length old) one new (f.id ∷ []) (option_ids g.what ++ option_ids h.what.object) a.used
      (uses_both (length one) two new (option_ids g.what) (option_ids h.what.object) b.used c.used (grown_of y))
      (grown_trans one two new (grown_of x) (grown_of y));
}

pub lacks_subject : (s : List ℕ) (i : ℕ) → Refuses s Element (Stops s 7) i → Lacks CoreTree (IsCore s i) (MeetsColon s)
lacks_subject s i f = record { none = λ k u r stops. f.none r.after_subject u.subject r.subject (core_stops s i k u r stops) }

pub lacks_pattern : (s : List ℕ) (i : ℕ) (old one : List Node) (f : Found) → Found_outcome s Element (Stops s 7) i old one (Some f)
    → Lacks (Option Tree) (HasExpression s f.end) (MeetsEquals s) →
    Lacks CoreTree (IsCore s i) (MeetsColon s)
lacks_pattern s i old one f a b = record {
  none = λ k u r stops.
      let p = a.finds.only r.after_subject u.subject r.subject (core_stops s i k u r stops) in
      b.none r.after_pattern u.pattern (core_pattern s i k f.end u r p.0) (core_meets s i k u r stops);
}

pub lacks_core_object : (s : List ℕ) (i : ℕ) (old one two : List Node) (f : Found) (g : Read (Option ExprId))
    → Found_outcome s Element (Stops s 7) i old one (Some f) →
    Gives (Option Tree) (Option ExprId) (HasExpression s f.end) (MeetsEquals s) StandsExpression option_ids option_fits (length s) f.end one two g →
    Lacks (Bool × Option Tree) (HasObjectPair s g.end) (MeetsColon s) → Lacks CoreTree (IsCore s i) (MeetsColon s)
lacks_core_object s i old one two f g a b c = record {
  none = λ k u r stops.
      let p = a.finds.only r.after_subject u.subject r.subject (core_stops s i k u r stops) in
      let q = b.only r.after_pattern u.pattern (core_pattern s i k f.end u r p.0) (core_meets s i k u r stops) in
      c.none k (u.equals, u.object) (core_object s i k g.end u r q.0) stops;
}

-- [b core]
no_core_only : (s : List ℕ) (i k : ℕ) (u : Option CoreTree) → NoStart s i → HasCore s i k u → (k ≡ i) × (u ≡ None)
no_core_only s i k None n r = (r, refl)
no_core_only s i k (Some t) n (m, b, r) = absurd (n m b (reads_start r.subject))

pub gives_no_core : (s : List ℕ) (i at : ℕ) (old : List Node) → IsWholeRun Blank s i at → (at ≡ i) ⊎ (can_start (byte s at) ≡ false) → i ≤ length s →
    Gives (Option CoreTree) (Option Core) (HasCore s i) (MeetsColon s) StandsCores core_option_ids core_option_fits (length s) i old old
    (record { what = None; end = i; fits = true })
gives_no_core s i at old g h w = record {
  tree = None;
  reads = refl;
  only = λ k u r stops. no_core_only s i k u (no_start s i at g h) r;
  stands = tt;
  fits = refl;
  order = omega arith;
  within = w;
  room = omega arith;
  used = uses_none old [];
}

core_at : (s : List ℕ) (i at k m : ℕ) (t : CoreTree) → IsWholeRun Blank s i at → IsBlanks s i m → IsCore s m k t → IsCore s at k t
core_at s i at k m t g b r = subst (λ x. IsCore s x k t) (start_at s i at m g b (reads_start r.subject)) r

body_only : (s : List ℕ) (i at k e : ℕ) (u : Option CoreTree) (t : CoreTree) → IsWholeRun Blank s i at → can_start (byte s at) ≡ true →
    ((k : ℕ) (u : CoreTree) → IsCore s at k u → MeetsColon s k → (k ≡ e) × (u ≡ t)) → HasCore s i k u → MeetsColon s k → (k ≡ e) × (u ≡ Some t)
body_only s i at k e None t g h only r stops = absurd (start_meets_none s i at g h (colon_meets_equals (subst (MeetsColon s) r stops)))
body_only s i at k e (Some v) t g h only (m, b, r) stops = let q = only k v (core_at s i at k m v g b r) stops in (q.0, ap Some q.1)

pub gives_body : (s : List ℕ) (i at : ℕ) (old new : List Node) (f : Read Core) → at ≢ i → IsWholeRun Blank s i at → can_start (byte s at) ≡ true →
    Gives CoreTree Core (IsCore s at) (MeetsColon s) StandsCore core_ids core_fits (length s) at old new f →
    Gives (Option CoreTree) (Option Core) (HasCore s i) (MeetsColon s) StandsCores core_option_ids core_option_fits (length s) i old new
    (record { what = Some f.what; end = f.end; fits = f.fits })
gives_body s i at old new f n g h a = record {
  tree = Some a.tree;
  reads = (at, blanks_at s i at n g, a.reads);
  only = λ k u r stops. body_only s i at k f.end u a.tree g h a.only r stops;
  stands = a.stands;
  fits = a.fits;
  order = let o = g.run.order in let v = a.order in omega arith;
  within = a.within;
  room = let o = g.run.order in let v = a.room in omega arith;
  used = a.used;
}

body_none : (s : List ℕ) (i at k : ℕ) (u : Option CoreTree) → IsWholeRun Blank s i at → can_start (byte s at) ≡ true
    → Lacks CoreTree (IsCore s at) (MeetsColon s) → HasCore s i k u → MeetsColon s k → ⊥
body_none s i at k None g h f r stops = start_meets_none s i at g h (colon_meets_equals (subst (MeetsColon s) r stops))
body_none s i at k (Some v) g h f (m, b, r) stops = f.none k v (core_at s i at k m v g b r) stops

pub lacks_body : (s : List ℕ) (i at : ℕ) → IsWholeRun Blank s i at → can_start (byte s at) ≡ true → Lacks CoreTree (IsCore s at) (MeetsColon s)
    → Lacks (Option CoreTree) (HasCore s i) (MeetsColon s)
lacks_body s i at g h f = record { none = λ k u r stops. body_none s i at k u g h f r stops }

pub ruleset optional_facts = (gives_no_expression, gives_expression, lacks_expression, extends_same)

pub ruleset object_facts = (gives_no_object, gives_object, lacks_object, extends_same)

pub ruleset core_facts = (gives_core, lacks_subject, lacks_pattern, lacks_core_object, extends_same)

pub ruleset body_facts = (gives_no_core, gives_body, lacks_body, extends_same)
