-- Each move keeps what is known of the cuts of a stack.
use Rattle.std.proofs.Common.{◌≡◌, ℕ, suc, ◌-◌, ◌≤◌, List, [], ◌∷◌, ◌++◌, Option, length, drop, refl, sym, ◌∙◌, ap, subst, arith}
use Rattle.sno_value.specs.declared.ids.PatId.{PatId}
use Rattle.sno_pattern.specs.Pattern.{Cut}
use Rattle.sno_pattern.specs.Table.{Node, tree}
use Rattle.sno_match.specs.declared.event.Event.{Event as Told}
use Rattle.sno_match.specs.declared.event.Pending.{Pending}
use Rattle.sno_match.specs.declared.goal.Goal.{Goal as Numbered}
use Rattle.sno_match.specs.declared.goal.Goal.TheVariants as N
use Rattle.sno_match.specs.declared.goal.Mark.{Mark}
use Rattle.sno_match.specs.declared.goal.Mark.TheVariants.{Next}
use Rattle.sno_match.specs.declared.plan.Plan.{Plan}
use Rattle.sno_match.specs.declared.plan.Plan.TheVariants as P
use Rattle.sno_match.specs.Point.{Point, with_front, branched, cut_back, below}
use Rattle.sno_match.specs.inner.Plan.{IsPlan, IsCut, KeepsScopes, goals_in, point_at}
use Rattle.sno_match.specs.inner.Move.{CarriesOut}
use Rattle.sno_match.specs.Scopes.{Scope, closes, opened_at, opened, opens, RiseFrom, HasCuts}
use Rattle.sno_match.proofs.CutLaws.{cut-keeps, cut-scoped, enter-scoped}

pub closes-append : (xs ys : List Numbered) → closes (xs ++ ys) ≡ closes xs ++ closes ys
closes-append [] ys = refl
closes-append (N.Match id ∷ xs) ys = closes-append xs ys
closes-append (N.CloseCond target from ∷ xs) ys = closes-append xs ys
closes-append (N.CloseImm target from ∷ xs) ys = closes-append xs ys
closes-append (N.CloseRepeat id from ∷ xs) ys = closes-append xs ys
closes-append (N.CloseCut left depth ∷ xs) ys = ap (λ (ss : List Scope). (left, depth) ∷ ss) (closes-append xs ys)

-- behind a goal that closes none
pub closes-behind : (goal : Numbered) (goals : List Numbered) → closes (goal ∷ []) ≡ [] → closes (goal ∷ goals) ≡ closes goals
closes-behind goal goals h = closes-append (goal ∷ []) goals ∙ ap (λ (ss : List Scope). ss ++ closes goals) h

rises-less : (m n : ℕ) (ss : List Scope) → m ≤ n → RiseFrom n ss → RiseFrom m ss
rises-less m n [] h r = tt
rises-less m n (x ∷ xs) h r = (omega (arith, h, r.0), r.1)

rises-behind : (n : ℕ) (xs ys : List Scope) → RiseFrom n (xs ++ ys) → RiseFrom n ys
rises-behind n [] ys r = r
rises-behind n (x ∷ xs) ys r = rises-less n (suc x.0) ys (omega (arith, r.0)) (rises-behind (suc x.0) xs ys r.1)

-- with fewer steps left
pub cuts-later : (nodes : List Node) (m n : ℕ) (points : List Point) → m ≤ n → HasCuts nodes n points → HasCuts nodes m points
cuts-later nodes m n points h k = record { scoped = k.scoped; rising = rises-less m n (opens nodes points) h k.rising }

-- below the newest point
pub cuts-below : (nodes : List Node) (n : ℕ) (points : List Point) → HasCuts nodes n points → HasCuts nodes n (below points)
cuts-below nodes n [] k = k
cuts-below nodes n (point ∷ rest) k =
    record { scoped = k.scoped.1; rising = rises-behind n (opened nodes point.goals point.mark (length rest)) (opens nodes rest) k.rising }

-- FENCE(P) is entered
cuts-entered : (nodes : List Node) (s : List ℕ) (id p : PatId) (goals : List Numbered) (c : ℕ) (pending : List Pending) (mark : Mark) (rest : List Point)
    (left : ℕ) → tree nodes id.0 ≡ Cut (tree nodes p.0) →
    HasCuts nodes (suc left) (point_at (N.Match id) goals c pending mark ∷ rest) →
    HasCuts nodes left (branched (N.Match p ∷ N.CloseCut left (length rest) ∷ []) c left (point_at (N.Match id) goals c pending mark ∷ rest))
cuts-entered nodes s id p goals c pending mark rest left t k =
    let under : RiseFrom (suc left) (opens nodes rest) = (cuts-below nodes (suc left) (point_at (N.Match id) goals c pending mark ∷ rest) k).rising in
    record {
      scoped = enter-scoped s 0 nodes id p goals c pending rest left t k.scoped;
      rising = subst (λ (ss : List Scope). RiseFrom left (ss ++ opens nodes rest)) (sym (ap (λ x. opened_at x left (length rest)) t)) (omega arith, under);
    }

-- and its close
cuts-closed : (nodes : List Node) (s : List ℕ) (m d : ℕ) (goals : List Numbered) (c : ℕ) (pending : List Pending) (mark : Mark) (rest : List Point) (left : ℕ) →
    HasCuts nodes (suc left) (point_at (N.CloseCut m d) goals c pending mark ∷ rest)
    → HasCuts nodes left (cut_back d (point_at (N.CloseCut m d) goals c pending mark ∷ rest))
cuts-closed nodes s m d goals c pending mark rest left k =
    let open_now : opens nodes rest ≡ (m, d) ∷ closes goals = sym k.scoped.0 in
    let kept : opens nodes (drop (length rest - d) rest) ≡ closes goals = (cut-keeps s 0 nodes rest m d (closes goals) open_now).1 in
    let under : RiseFrom (suc left) ((m, d) ∷ closes goals) =
    subst (RiseFrom (suc left)) open_now (cuts-below nodes (suc left) (point_at (N.CloseCut m d) goals c pending mark ∷ rest) k).rising in
    record {
      scoped = cut-scoped s 0 nodes m d goals c pending rest k.scoped;
      rising = subst (RiseFrom left) (sym kept) (rises-less left (suc m) (closes goals) (omega (arith, under.0)) under.1);
    }

module _ (nodes : List Node) (s : List ℕ) (goal : Numbered) (goals : List Numbered) (c : ℕ) (pending : List Pending) (mark : Mark)
    (rest : List Point) (left : ℕ) where
  abbrev top : Point
  top = point_at goal goals c pending mark

  module _ (k : HasCuts nodes (suc left) (top ∷ rest)) where
    abbrev under : HasCuts nodes left rest
    under = cuts-later nodes left (suc left) rest (omega arith) (cuts-below nodes (suc left) (top ∷ rest) k)

    -- goals that close none, in place of one that closes none
    in_place : (front : List Numbered) → closes (goal ∷ []) ≡ [] → closes front ≡ [] → closes (front ++ goals) ≡ opens nodes rest
    in_place front plain none = closes-append front goals ∙ ap (λ (ss : List Scope). ss ++ closes goals) none
        ∙ sym (closes-behind goal goals plain) ∙ k.scoped.0

    cuts-replaced : (front : List Numbered) (at : ℕ) → closes (goal ∷ []) ≡ [] → closes front ≡ [] → HasCuts nodes left (with_front front at top ∷ rest)
    cuts-replaced front at plain none = record { scoped = (in_place front plain none, under.scoped); rising = under.rising }

    cuts-branched : (front : List Numbered) (at next : ℕ) → closes (goal ∷ []) ≡ [] → opened nodes (goal ∷ goals) (Next next) (length rest)
        ≡ [] → closes front ≡ [] →
        HasCuts nodes left (with_front front at top ∷ record top { mark = Next next } ∷ rest)
    cuts-branched front at next plain opens_none none =
        let same : opens nodes rest ≡ opened nodes (goal ∷ goals) (Next next) (length rest) ++ opens nodes rest =
        ap (λ (ss : List Scope). ss ++ opens nodes rest) (sym opens_none) in
        record { scoped = (in_place front plain none ∙ same, (k.scoped.0, under.scoped)); rising = subst (RiseFrom left) same under.rising }

    enters : (body : PatId) → IsCut nodes goal body → HasCuts nodes left (branched (N.Match body ∷ N.CloseCut left (length rest) ∷ []) c left (top ∷ rest))
    enters body is =
        let entered = subst (λ (g : Numbered). HasCuts nodes (suc left) (point_at g goals c pending mark ∷ rest)) is.1 k in
        subst (λ (g : Numbered). HasCuts nodes left
        (branched (N.Match body ∷ N.CloseCut left (length rest) ∷ []) c left (point_at g goals c pending mark ∷ rest))) (sym is.1)
        (cuts-entered nodes s is.0 body goals c pending mark rest left is.2 entered)

    ends : (m depth : ℕ) → goal ≡ N.CloseCut m depth → HasCuts nodes left (cut_back depth (top ∷ rest))
    ends m depth is =
        let closed = subst (λ (g : Numbered). HasCuts nodes (suc left) (point_at g goals c pending mark ∷ rest)) is k in
        subst (λ (g : Numbered). HasCuts nodes left (cut_back depth (point_at g goals c pending mark ∷ rest))) (sym is)
        (cuts-closed nodes s m depth goals c pending mark rest left closed)

    pub carried_cuts : (plan : Plan) (told : Option Told) (new : List Point) → IsPlan nodes s goal c mark plan → KeepsScopes nodes goal plan
        → CarriesOut plan c left (top ∷ rest) told new → HasCuts nodes left new
    carried_cuts (P.Replace front at) told new p q co = subst (HasCuts nodes left) (sym co.1) (cuts-replaced (goals_in front) at q.0 q.1)
    carried_cuts (P.Branch front at next) told new p q co =
        subst (HasCuts nodes left) (sym co.1) (cuts-branched (goals_in front) at next q.0.0 (q.0.1 goals (Next next) (length rest)) q.1)
    carried_cuts (P.Close a) told new p q co =
        subst (HasCuts nodes left) (sym co.1) (record { scoped = (sym (closes-behind goal goals q) ∙ k.scoped.0, under.scoped); rising = under.rising })
    carried_cuts (P.Assign a) told new p q co = subst (HasCuts nodes left) (sym co.1) (cuts-replaced [] c q refl)
    carried_cuts (P.Cursor target) told new p q co = subst (HasCuts nodes left) (sym co.1) (cuts-replaced [] c q refl)
    carried_cuts (P.Ask prim expr) told new p q co = subst (HasCuts nodes left) (sym co.1) (cuts-later nodes left (suc left) (top ∷ rest) (omega arith) k)
    carried_cuts P.Fail told new p q co = subst (HasCuts nodes left) (sym co.1) under
    carried_cuts P.Abort told new p q co = subst (HasCuts nodes left) (sym co.1) (cuts-later nodes left (suc left) (top ∷ rest) (omega arith) k)
    carried_cuts (P.EnterCut body) told new p q co = subst (HasCuts nodes left) (sym co.1) (enters body p.3)
    carried_cuts (P.CloseCut depth) told new p q co = subst (HasCuts nodes left) (sym co.1) (ends p.2.0 depth p.2.1)
