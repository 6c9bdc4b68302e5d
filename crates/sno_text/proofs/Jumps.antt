-- Two targets, a branch and a goto are found exactly.
use Rattle.std.proofs.Common.{◌≡◌, ◌≢◌, ℕ, ◌+◌, ◌≤◌, ◌⊎◌, ◌&&◌, inl, inr, Bool, true, false, List, [], length, arith, refl, ◌∙◌, ap, subst, Some, Option}
use Rattle.std.proofs.lemmas.List.{get_or_past}
use Rattle.sno_text.specs.declared.bytes.Class.TheVariants.{Blank}
use Rattle.sno_text.specs.declared.node.Node.{Node}
use Rattle.sno_text.specs.declared.table.Read.{Read}
use Rattle.sno_text.specs.declared.statement.Target.{Target}
use Rattle.sno_text.specs.declared.statement.Jump.{Jump}
use Rattle.sno_text.specs.declared.statement.Jump.TheVariants as jumps
use Rattle.sno_text.specs.declared.goto.Targets.{Targets}
use Rattle.sno_text.specs.Bytes.{byte, is_blank, IsWholeRun}
use Rattle.sno_text.specs.Grammar.{IsGap, IsBlanks}
use Rattle.sno_text.specs.inner.Parsed.{Extends}
use Rattle.sno_text.specs.Statements.{TargetTree, JumpTree, Fall, Always, Either, IsTarget, HasOther, HasTargets, IsBranch, always, success, failure, HasJump}
use Rattle.sno_text.specs.Statements.{target_fits, target_option_fits, jump_fits}
use Rattle.sno_text.specs.Program.{target_ids, target_option_ids, jump_ids}
use Rattle.sno_text.specs.Pieces.{Gives, StandsTarget, StandsJump}
use Rattle.sno_text.specs.inner.Pieces.{pair_ids, MeetsEnd, Anywhere, Lacks, StandsTargets, HasTargetPair}
use Rattle.sno_text.specs.inner.Pieces.{StandsTargetPair}
use Rattle.sno_text.specs.inner.Pieces.{pair_fits}
use Rattle.sno_text.proofs.Runs.{run_end_unique}
use Rattle.sno_text.proofs.Standing.{stands_target_more}
use Rattle.sno_text.proofs.Tables.{extends_same, grown_of, uses_none, uses_both, uses_swapped}
use Rattle.sno_text.proofs.Stops.{end_byte_colon, gap_whole, blanks_whole}

pub fits_both : (a b x y : Bool) → a ≡ x → b ≡ y → (a && b) ≡ (x && y)
fits_both a b x y e f = rw (e, f) refl

-- two targets
pair_only : (s : List ℕ) (letter i m k e : ℕ) (t : TargetTree) (o : Option TargetTree) (v : TargetTree) (u : Option TargetTree) →
    ((k : ℕ) (u : TargetTree) → IsTarget s i k u → Anywhere k → (k ≡ m) × (u ≡ t))
    → ((k : ℕ) (u : Option TargetTree) → HasOther s letter m k u → MeetsEnd s k → (k ≡ e) × (u ≡ o)) →
    HasTargets s letter i k v u → MeetsEnd s k → (k ≡ e) × (v ≡ t) × (u ≡ o)
pair_only s letter i m k e t o v u first second (n, a, b) stops =
    let p = first n v a tt in
    let q = second k u (subst (λ x. HasOther s letter x k u) p.0 b) stops in
    (q.0, p.1, q.1)

pub gives_targets : {n : ℕ} (s : List ℕ) (letter i : ℕ) (old mid new : List Node) (f : Read Target) (g : Read (Option Target)) →
    Gives TargetTree Target (IsTarget s i) Anywhere StandsTarget target_ids target_fits (length s) i old mid f →
    Gives (Option TargetTree) (Option Target) (HasOther s letter f.end) (MeetsEnd s) StandsTargets target_option_ids target_option_fits
    (length s) f.end mid new g → Extends n mid new →
    Gives (TargetTree × Option TargetTree) Targets (HasTargetPair s letter i) (MeetsEnd s) StandsTargetPair pair_ids pair_fits (length s) i old new
    (record { what = record { first = f.what; second = g.what }; end = g.end; fits = f.fits && g.fits })
gives_targets s letter i old mid new f g a b x = record {
  tree = (a.tree, b.tree);
  reads = (f.end, a.reads, b.reads);
  only = λ k u r stops. let q = pair_only s letter i f.end k g.end a.tree b.tree u.0 u.1 a.only b.only r stops in
      (q.0, ap (λ y. (y, u.1)) q.1 ∙ ap (λ y. (a.tree, y)) q.2);
  stands = (stands_target_more f.what a.tree x a.stands, b.stands);
  fits = fits_both f.fits g.fits (target_fits a.tree) (target_option_fits b.tree) a.fits b.fits;
  order = let v = a.order in let w = b.order in omega arith;
  within = b.within;
  room = let v = a.room in let w = b.room in omega arith;
  used = uses_both (length old) mid new (target_ids f.what) (target_option_ids g.what) a.used b.used (grown_of x);
}

pub lacks_first : (s : List ℕ) (letter i : ℕ) → Lacks TargetTree (IsTarget s i) Anywhere
    → Lacks (TargetTree × Option TargetTree) (HasTargetPair s letter i) (MeetsEnd s)
lacks_first s letter i f = record { none = λ k u r stops. f.none r.0 u.0 r.1 tt }

pub lacks_second : (s : List ℕ) (letter i : ℕ) (old mid : List Node) (f : Read Target)
    → Gives TargetTree Target (IsTarget s i) Anywhere StandsTarget target_ids target_fits (length s) i old mid f →
    Lacks (Option TargetTree) (HasOther s letter f.end) (MeetsEnd s) → Lacks (TargetTree × Option TargetTree) (HasTargetPair s letter i) (MeetsEnd s)
lacks_second s letter i old mid f a b =
    record { none = λ k u r stops. let p = a.only r.0 u.0 r.1 tt in b.none k u.1 (subst (λ x. HasOther s letter x k u.1) p.0 r.2) stops }

-- a branch
always_only : (s : List ℕ) (i k e : ℕ) (g : JumpTree) (t : TargetTree) → byte s i ≢ 83 → byte s i ≢ 70
    → ((k : ℕ) (u : TargetTree) → IsTarget s i k u → Anywhere k → (k ≡ e) × (u ≡ t)) →
    IsBranch s i k g → (k ≡ e) × (g ≡ Always t)
always_only s i k e g t h n only (always {t = u} r f) = let q = only k u r tt in (q.0, f ∙ ap Always q.1)
always_only s i k e g t h n only (success b r f) = absurd (h b)
always_only s i k e g t h n only (failure b r f) = absurd (n b)

pub gives_always : (s : List ℕ) (i : ℕ) (old new : List Node) (f : Read Target) → byte s i ≢ 83 → byte s i ≢ 70 →
    Gives TargetTree Target (IsTarget s i) Anywhere StandsTarget target_ids target_fits (length s) i old new f →
    Gives JumpTree Jump (IsBranch s i) (MeetsEnd s) StandsJump jump_ids jump_fits (length s) i old new
    (record { what = jumps.Always f.what; end = f.end; fits = f.fits })
gives_always s i old new f h n a = record {
  tree = Always a.tree;
  reads = always a.reads refl;
  only = λ k u r stops. always_only s i k f.end u a.tree h n a.only r;
  stands = a.stands;
  fits = a.fits;
  order = a.order;
  within = a.within;
  room = a.room;
  used = a.used;
}

always_none : (s : List ℕ) (i k : ℕ) (g : JumpTree) → byte s i ≢ 83 → byte s i ≢ 70 → Lacks TargetTree (IsTarget s i) Anywhere → IsBranch s i k g → ⊥
always_none s i k g h n f (always {t = u} r e) = f.none k u r tt
always_none s i k g h n f (success b r e) = h b
always_none s i k g h n f (failure b r e) = n b

pub lacks_always : (s : List ℕ) (i : ℕ) → byte s i ≢ 83 → byte s i ≢ 70 → Lacks TargetTree (IsTarget s i) Anywhere → Lacks JumpTree (IsBranch s i) (MeetsEnd s)
lacks_always s i h n f = record { none = λ k u r stops. always_none s i k u h n f r }

apart_letters : (b : ℕ) → b ≡ 83 → b ≡ 70 → ⊥
apart_letters b e f = omega arith

opening_letter : (b : ℕ) → b ≡ 40 → (b ≡ 83) ⊎ (b ≡ 70) → ⊥
opening_letter b e (inl f) = omega arith
opening_letter b e (inr f) = omega arith

success_only : (s : List ℕ) (i k e : ℕ) (g : JumpTree) (t : TargetTree) (o : Option TargetTree) → byte s i ≡ 83 →
    ((k : ℕ) (u : TargetTree × Option TargetTree) → HasTargetPair s 70 (i + 1) k u → MeetsEnd s k → (k ≡ e) × (u ≡ (t, o))) → IsBranch s i k g → MeetsEnd s k
    → (k ≡ e) × (g ≡ Either (Some t) o)
success_only s i k e g t o h only (always r f) stops = absurd (opening_letter _ r.opening (inl h))
success_only s i k e g t o h only (success {t = u} {u = v} b r f) stops = let q = only k (u, v) r stops in (q.0, f ∙ ap (λ y. Either (Some y.0) y.1) q.1)
success_only s i k e g t o h only (failure b r f) stops = absurd (apart_letters _ h b)

failure_only : (s : List ℕ) (i k e : ℕ) (g : JumpTree) (t : TargetTree) (o : Option TargetTree) → byte s i ≡ 70 →
    ((k : ℕ) (u : TargetTree × Option TargetTree) → HasTargetPair s 83 (i + 1) k u → MeetsEnd s k → (k ≡ e) × (u ≡ (t, o))) → IsBranch s i k g → MeetsEnd s k
    → (k ≡ e) × (g ≡ Either o (Some t))
failure_only s i k e g t o h only (always r f) stops = absurd (opening_letter _ r.opening (inr h))
failure_only s i k e g t o h only (success b r f) stops = absurd (apart_letters _ b h)
failure_only s i k e g t o h only (failure {t = u} {u = v} b r f) stops = let q = only k (u, v) r stops in (q.0, f ∙ ap (λ y. Either y.1 (Some y.0)) q.1)

and_swap : (x y : Bool) → (x && y) ≡ (y && x)
and_swap true true = refl
and_swap true false = refl
and_swap false true = refl
and_swap false false = refl

pub gives_success : (s : List ℕ) (i : ℕ) (old new : List Node) (f : Read Targets) → byte s i ≡ 83 →
    Gives (TargetTree × Option TargetTree) Targets (HasTargetPair s 70 (i + 1)) (MeetsEnd s) StandsTargetPair pair_ids pair_fits (length s) (i + 1) old new f →
    Gives JumpTree Jump (IsBranch s i) (MeetsEnd s) StandsJump jump_ids jump_fits (length s) i old new
    (record { what = jumps.Either (Some f.what.first) f.what.second; end = f.end; fits = f.fits })
gives_success s i old new f h a = record {
  tree = Either (Some a.tree.0) a.tree.1;
  reads = success h a.reads refl;
  only = λ k u r stops. success_only s i k f.end u a.tree.0 a.tree.1 h a.only r stops;
  stands = a.stands;
  fits = a.fits;
  order = let v = a.order in omega arith;
  within = a.within;
  room = let v = a.room in omega arith;
  used = a.used;
}

pub gives_failure : (s : List ℕ) (i : ℕ) (old new : List Node) (f : Read Targets) → byte s i ≡ 70 →
    Gives (TargetTree × Option TargetTree) Targets (HasTargetPair s 83 (i + 1)) (MeetsEnd s) StandsTargetPair pair_ids pair_fits (length s) (i + 1) old new f →
    Gives JumpTree Jump (IsBranch s i) (MeetsEnd s) StandsJump jump_ids jump_fits (length s) i old new
    (record { what = jumps.Either f.what.second (Some f.what.first); end = f.end; fits = f.fits })
gives_failure s i old new f h a = record {
  tree = Either a.tree.1 (Some a.tree.0);
  reads = failure h a.reads refl;
  only = λ k u r stops. failure_only s i k f.end u a.tree.0 a.tree.1 h a.only r stops;
  stands = (a.stands.1, a.stands.0);
  fits = a.fits ∙ and_swap (target_fits a.tree.0) (target_option_fits a.tree.1);
  order = let v = a.order in omega arith;
  within = a.within;
  room = let v = a.room in omega arith;
  used = uses_swapped (length old) new (target_ids f.what.first) (target_option_ids f.what.second) a.used;
}

success_none : (s : List ℕ) (i k : ℕ) (g : JumpTree) → byte s i ≡ 83 → Lacks (TargetTree × Option TargetTree) (HasTargetPair s 70 (i + 1)) (MeetsEnd s)
    → IsBranch s i k g → MeetsEnd s k → ⊥
success_none s i k g h f (always r e) stops = opening_letter _ r.opening (inl h)
success_none s i k g h f (success {t = u} {u = v} b r e) stops = f.none k (u, v) r stops
success_none s i k g h f (failure b r e) stops = apart_letters _ h b

pub lacks_success : (s : List ℕ) (i : ℕ) → byte s i ≡ 83 → Lacks (TargetTree × Option TargetTree) (HasTargetPair s 70 (i + 1)) (MeetsEnd s)
    → Lacks JumpTree (IsBranch s i) (MeetsEnd s)
lacks_success s i h f = record { none = λ k u r stops. success_none s i k u h f r stops }

failure_none : (s : List ℕ) (i k : ℕ) (g : JumpTree) → byte s i ≡ 70 → Lacks (TargetTree × Option TargetTree) (HasTargetPair s 83 (i + 1)) (MeetsEnd s)
    → IsBranch s i k g → MeetsEnd s k → ⊥
failure_none s i k g h f (always r e) stops = opening_letter _ r.opening (inr h)
failure_none s i k g h f (success b r e) stops = apart_letters _ b h
failure_none s i k g h f (failure {t = u} {u = v} b r e) stops = f.none k (u, v) r stops

pub lacks_failure : (s : List ℕ) (i : ℕ) → byte s i ≡ 70 → Lacks (TargetTree × Option TargetTree) (HasTargetPair s 83 (i + 1)) (MeetsEnd s)
    → Lacks JumpTree (IsBranch s i) (MeetsEnd s)
lacks_failure s i h f = record { none = λ k u r stops. failure_none s i k u h f r stops }

-- a goto
branch_not_blank : (s : List ℕ) (i k : ℕ) (g : JumpTree) → IsBranch s i k g → is_blank (byte s i) ≡ false
unfolding is_blank
branch_not_blank s i k g (always r e) = rw r.opening refl
branch_not_blank s i k g (success b r e) = rw b refl
branch_not_blank s i k g (failure b r e) = rw b refl

-- no blanks and ':' from here
abbrev NoColon : List ℕ → ℕ → Type 0
NoColon s i = (k : ℕ) → IsBlanks s i k → byte s k ≡ 58 → ⊥

colon_at : (s : List ℕ) (i at k : ℕ) → IsWholeRun Blank s i at → IsBlanks s i k → byte s k ≡ 58 → k ≡ at
colon_at s i at k g b e = run_end_unique Blank s i k at (blanks_whole s i k b (end_byte_colon s k e).no_blank) g

no_colon : (s : List ℕ) (i at : ℕ) → IsWholeRun Blank s i at → (at ≡ i) ⊎ (byte s at ≢ 58) → NoColon s i
no_colon s i at g (inl e) k b h = let f = colon_at s i at k g b h in let some = b.some in absurd (omega arith)
no_colon s i at g (inr n) k b h = n (subst (λ x. byte s x ≡ 58) (colon_at s i at k g b h) h)

fall_only : (s : List ℕ) (i k : ℕ) (u : JumpTree) → NoColon s i → HasJump s i k u → (k ≡ i) × (u ≡ Fall)
fall_only s i k Fall n r = (r, refl)
fall_only s i k (Always t) n (m, l, b, h, c, r) = absurd (n m b h)
fall_only s i k (Either t v) n (m, l, b, h, c, r) = absurd (n m b h)

pub gives_fall : (s : List ℕ) (i at : ℕ) (old : List Node) → IsWholeRun Blank s i at → (at ≡ i) ⊎ (byte s at ≢ 58) → i ≤ length s →
    Gives JumpTree Jump (HasJump s i) (MeetsEnd s) StandsJump jump_ids jump_fits (length s) i old old (record { what = jumps.Fall; end = i; fits = true })
gives_fall s i at old g h w = record {
  tree = Fall;
  reads = refl;
  only = λ k u r stops. fall_only s i k u (no_colon s i at g h) r;
  stands = tt;
  fits = refl;
  order = omega arith;
  within = w;
  room = omega arith;
  used = uses_none old [];
}

colon_not_end : (s : List ℕ) (i at : ℕ) → IsWholeRun Blank s i at → byte s at ≡ 58 → MeetsEnd s i → ⊥
colon_not_end s i at g e m =
    let at_end : length s ≡ at = run_end_unique Blank s i (length s) at m.gap g in
    let zero : byte s at ≡ 0 = get_or_past s at 0 (omega arith) in
    absurd (omega arith)

has_jump : (s : List ℕ) (i at start j : ℕ) (g : JumpTree) → IsBlanks s i at → byte s at ≡ 58 → IsGap s (at + 1) start → IsBranch s start j g → HasJump s i j g
has_jump s i at start j Fall b h c (always r e) = absurd (cc)
has_jump s i at start j Fall b h c (success d r e) = absurd (cc)
has_jump s i at start j Fall b h c (failure d r e) = absurd (cc)
has_jump s i at start j (Always t) b h c r = (at, start, b, h, c, r)
has_jump s i at start j (Either t u) b h c r = (at, start, b, h, c, r)

branch_at : (s : List ℕ) (i at start k m l : ℕ) (u : JumpTree) → IsWholeRun Blank s i at → IsWholeRun Blank s (at + 1) start → IsBlanks s i m → byte s m ≡ 58
    → IsGap s (m + 1) l → IsBranch s l k u → IsBranch s start k u
branch_at s i at start k m l u g h b e c r =
    let f = colon_at s i at m g b e in
    let c' : IsGap s (at + 1) l = subst (λ x. IsGap s (x + 1) l) f c in
    let d : l ≡ start = run_end_unique Blank s (at + 1) l start (gap_whole s (at + 1) l c' (branch_not_blank s l k u r)) h in
    subst (λ x. IsBranch s x k u) d r

jump_only : (s : List ℕ) (i at start k e : ℕ) (u t : JumpTree) → IsWholeRun Blank s i at → byte s at ≡ 58 → IsWholeRun Blank s (at + 1) start →
    ((k : ℕ) (u : JumpTree) → IsBranch s start k u → MeetsEnd s k → (k ≡ e) × (u ≡ t)) → HasJump s i k u → MeetsEnd s k → (k ≡ e) × (u ≡ t)
jump_only s i at start k e Fall t g h c only r stops = absurd (colon_not_end s i at g h (subst (MeetsEnd s) r stops))
jump_only s i at start k e (Always v) t g h c only (m, l, b, d, f, r) stops = only k (Always v) (branch_at s i at start k m l (Always v) g c b d f r) stops
jump_only s i at start k e (Either v w) t g h c only (m, l, b, d, f, r) stops =
    only k (Either v w) (branch_at s i at start k m l (Either v w) g c b d f r) stops

pub gives_jump : (s : List ℕ) (i at start : ℕ) (old new : List Node) (f : Read Jump) → at ≢ i → IsWholeRun Blank s i at → byte s at ≡ 58
    → IsWholeRun Blank s (at + 1) start →
    Gives JumpTree Jump (IsBranch s start) (MeetsEnd s) StandsJump jump_ids jump_fits (length s) start old new f →
    Gives JumpTree Jump (HasJump s i) (MeetsEnd s) StandsJump jump_ids jump_fits (length s) i old new (record { what = f.what; end = f.end; fits = f.fits })
gives_jump s i at start old new f n g h c a = record {
  tree = a.tree;
  reads = has_jump s i at start f.end a.tree (record { some = let o = g.run.order in omega arith; run = g.run }) h c.run a.reads;
  only = λ k u r stops. jump_only s i at start k f.end u a.tree g h c a.only r stops;
  stands = a.stands;
  fits = a.fits;
  order = let o = g.run.order in let v = c.run.order in let w = a.order in omega arith;
  within = a.within;
  room = let o = g.run.order in let v = c.run.order in let w = a.room in omega arith;
  used = a.used;
}

jump_none : (s : List ℕ) (i at start k : ℕ) (u : JumpTree) → IsWholeRun Blank s i at → byte s at ≡ 58 → IsWholeRun Blank s (at + 1) start →
    Lacks JumpTree (IsBranch s start) (MeetsEnd s) → HasJump s i k u → MeetsEnd s k → ⊥
jump_none s i at start k Fall g h c f r stops = colon_not_end s i at g h (subst (MeetsEnd s) r stops)
jump_none s i at start k (Always v) g h c f (m, l, b, d, e, r) stops = f.none k (Always v) (branch_at s i at start k m l (Always v) g c b d e r) stops
jump_none s i at start k (Either v w) g h c f (m, l, b, d, e, r) stops = f.none k (Either v w) (branch_at s i at start k m l (Either v w) g c b d e r) stops

pub lacks_jump : (s : List ℕ) (i at start : ℕ) → IsWholeRun Blank s i at → byte s at ≡ 58 → IsWholeRun Blank s (at + 1) start →
    Lacks JumpTree (IsBranch s start) (MeetsEnd s) → Lacks JumpTree (HasJump s i) (MeetsEnd s)
lacks_jump s i at start g h c f = record { none = λ k u r stops. jump_none s i at start k u g h c f r stops }

pub ruleset targets_facts = (gives_targets, lacks_first, lacks_second, extends_same)

pub ruleset branch_facts = (gives_always, lacks_always, gives_success, gives_failure, lacks_success, lacks_failure, extends_same)

pub ruleset jump_facts = (gives_fall, gives_jump, lacks_jump, extends_same)
