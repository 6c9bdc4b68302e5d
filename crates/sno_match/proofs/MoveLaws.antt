-- A move that carries out a right plan leaves the reading of the stack.
use Rattle.std.proofs.Common.{◌≡◌, ℕ, zero, suc, ◌+◌, ◌-◌, ◌≤◌, ◌<◌, List, [], ◌∷◌, ◌++◌, Option, Some, None, length, drop, length-drop, refl, sym, ◌∙◌, ap}
use Rattle.std.proofs.Common.{subst, arith}
use Rattle.sno_value.specs.declared.ids.PatId.{PatId}
use Rattle.sno_pattern.specs.Pattern.{Pattern}
use Rattle.sno_pattern.specs.Table.{Node}
use Rattle.sno_match.specs.declared.event.Event.{Event as Told}
use Rattle.sno_match.specs.declared.event.Event.TheVariants as V
use Rattle.sno_match.specs.declared.event.Pending.{Pending}
use Rattle.sno_match.specs.declared.goal.Goal.{Goal as Numbered}
use Rattle.sno_match.specs.declared.goal.Goal.TheVariants as N
use Rattle.sno_match.specs.declared.goal.Mark.{Mark}
use Rattle.sno_match.specs.declared.goal.Mark.TheVariants.{Enter, Next}
use Rattle.sno_match.specs.declared.plan.Plan.{Plan}
use Rattle.sno_match.specs.declared.plan.Plan.TheVariants as P
use Rattle.sno_match.specs.Search.{Exhausted, Limit, Way, Answer, Gives, emit}
use Rattle.sno_match.specs.Point.{Point, with_front, replaced, branched, closed, cut_back, below}
use Rattle.sno_match.specs.Remaining.{remaining, AllMarked, AllKnown, AllFit, Fits, MarkFits, HasNext, IsStack}
use Rattle.sno_match.specs.inner.Plan.{IsPlan, IsDue, IsCut, BacksIntoFence, BacksIntoCut, KeepsScopes, goals_in, point_at}
use Rattle.sno_match.specs.Scopes.{opens, RiseFrom, HasCuts}
use Rattle.sno_match.specs.inner.State.{after_move, HasAsked}
use Rattle.sno_match.specs.inner.Move.{Makes, CarriesOut, entries, price, way_after, standing}
use Rattle.sno_match.specs.Top.{Finishes}
use Rattle.sno_match.proofs.ReadingLaws.{resume-emit, resume-exhausted, emit-none}
use Rattle.sno_match.proofs.CutLaws.{drop-marked}
use Rattle.sno_match.proofs.CutMoves.{closes-behind, cuts-below, carried_cuts}

AllKnown-append : (nodes : List Node) (xs ys : List Numbered) → AllKnown nodes xs → AllKnown nodes ys → AllKnown nodes (xs ++ ys)
AllKnown-append nodes [] ys h k = k
AllKnown-append nodes (x ∷ xs) ys h k = (h.0, AllKnown-append nodes xs ys h.1 k)

pub below-kept : (nodes : List Node) (s : List ℕ) (points : List Point) → AllFit nodes s points → AllMarked (below points) → IsStack nodes s (below points)
below-kept nodes s [] f m = record { fit = tt; marked = tt }
below-kept nodes s (x ∷ []) f m = record { fit = tt; marked = tt }
below-kept nodes s (x ∷ y ∷ rest) f m = record { fit = f.1; marked = m.1 }

drop-fit : (nodes : List Node) (s : List ℕ) (n : ℕ) (points : List Point) → AllFit nodes s points → AllFit nodes s (drop n points)
drop-fit nodes s zero points h = h
drop-fit nodes s (suc n) [] h = tt
drop-fit nodes s (suc n) (point ∷ points) h = drop-fit nodes s n points h.1

module _ (nodes : List Node) (s : List ℕ) (goal : Numbered) (goals : List Numbered) (c : ℕ) (pending : List Pending) (mark : Mark) (rest : List Point) where
  abbrev top : Point
  top = point_at goal goals c pending mark

  abbrev old : List Point
  old = top ∷ rest

  module _ (start limit steps : ℕ) (was : List Pending) (due : steps < limit) where
    -- behind its step
    abbrev left_behind : ℕ
    left_behind = limit - (steps + 1)

    one_less : limit - steps ≡ suc left_behind
    one_less = omega (arith, due)

    -- a move of one step, which tells an event or none
    one_step : (told : Option Told) (new made : List Point) → new ≡ made → HasAsked (after_move told) made → (told ≡ Some V.Exhausted → ⊥) → price told ≤ 1
        → was ≡ way_after told was was → length made ≤ suc (length old) →
        ((answers : List Answer) → remaining nodes s start old answers (suc left_behind) ≡ emit (entries told was left_behind)
        (standing (after_move told) nodes s start made answers left_behind)) →
        Makes nodes s start limit old steps was told new (steps + 1) was
    one_step told new made e asked more paid pending few h =
        let size = ap length e in
        record {
          steps_in = omega (arith, due);
          paid = omega (arith, paid);
          grows = omega (arith, few, size);
          falls = λ none. omega (arith, few, size, due);
          more = more;
          asked = subst (λ (ps : List Point). HasAsked (after_move told) ps) (sym e) asked;
          pending = pending;
          leads = λ answers.
              ap (λ (k : ℕ). remaining nodes s start old answers k) one_less ∙ h answers ∙
              ap (λ (ps : List Point). emit (entries told was left_behind) (standing (after_move told) nodes s start ps answers left_behind)) (sym e);
        }

    pub carried : AllMarked rest → HasCuts nodes (limit - steps) old → (plan : Plan) (told : Option Told) (new : List Point) → IsPlan nodes s goal c mark plan
        → KeepsScopes nodes goal plan → CarriesOut plan c left_behind old told new → Makes nodes s start limit old steps was told new (steps + 1) was
    carried marked cuts (P.Replace front at) told new p q co =
        subst (λ (t : Option Told). Makes nodes s start limit old steps was t new (steps + 1) was) (sym co.0)
        (one_step None new (replaced (goals_in front) at old) co.1 tt (λ e. cc) (omega arith) refl (omega arith)
        (λ answers. p.0 start goals pending rest answers marked left_behind))
    carried marked cuts (P.Branch front at next) told new p q co =
        subst (λ (t : Option Told). Makes nodes s start limit old steps was t new (steps + 1) was) (sym co.0)
        (one_step None new (branched (goals_in front) at next old) co.1 tt (λ e. cc) (omega arith) refl (omega arith)
        (λ answers. p.0 start goals pending rest answers marked left_behind))
    carried marked cuts (P.Close a) told new p q co =
        subst (λ (t : Option Told). Makes nodes s start limit old steps was t new (steps + 1) was) (sym co.0)
        (one_step None new (closed a old) co.1 tt (λ e. cc) (omega arith) refl (omega arith)
        (λ answers. p.0 start goals pending rest answers marked left_behind))
    carried marked cuts (P.Assign a) told new p q co =
        subst (λ (t : Option Told). Makes nodes s start limit old steps was t new (steps + 1) was) (sym co.0)
        (one_step (Some (V.Assign a.target a.start a.end)) new (replaced [] c old) co.1 tt (λ e. cc) (omega arith) refl (omega arith)
        (λ answers. p.0 start goals pending rest answers marked left_behind))
    carried marked cuts (P.Cursor target) told new p q co =
        subst (λ (t : Option Told). Makes nodes s start limit old steps was t new (steps + 1) was) (sym co.0)
        (one_step (Some (V.Cursor target c)) new (replaced [] c old) co.1 tt (λ e. cc) (omega arith) refl (omega arith)
        (λ answers. p.0 start goals pending rest answers marked left_behind))
    carried marked cuts (P.Ask prim expr) told new p q co =
        subst (λ (t : Option Told). Makes nodes s start limit old steps was t new (steps + 1) was) (sym co.0)
        (one_step (Some (V.Value prim expr)) new old co.1 (tt, sym (closes-behind goal goals q)) (λ e. cc) (omega arith) refl (omega arith)
        (λ answers. p.0 start goals pending rest answers left_behind))
    carried marked cuts P.Fail told new p q co =
        subst (λ (t : Option Told). Makes nodes s start limit old steps was t new (steps + 1) was) (sym co.0)
        (one_step None new rest co.1 tt (λ e. cc) (omega arith) refl (omega arith) (λ answers. p.0 start goals pending rest answers marked left_behind))
    carried marked cuts P.Abort told new p q co =
        subst (λ (t : Option Told). Makes nodes s start limit old steps was t new (steps + 1) was) (sym co.0)
        (one_step (Some V.Aborted) new old co.1 tt (λ e. cc) (omega arith) refl (omega arith) (λ answers. p.0 start goals pending rest answers left_behind))
    carried marked cuts (P.EnterCut body) told new p q co =
        let made = branched (N.Match body ∷ N.CloseCut left_behind (length rest) ∷ []) c left_behind old in
        subst (λ (t : Option Told). Makes nodes s start limit old steps was t new (steps + 1) was) (sym co.0)
        (one_step None new made co.1 tt (λ e. cc) (omega arith) refl (omega arith)
        (λ answers. p.0 start goals pending rest answers left_behind ∙ sym (emit-none (remaining nodes s start made answers left_behind))))
    carried marked cuts (P.CloseCut depth) told new p q co =
        let made = cut_back depth old in
        let rising : RiseFrom (suc left_behind) (opens nodes rest) =
        subst (λ n. RiseFrom n (opens nodes rest)) one_less (cuts-below nodes (limit - steps) old cuts).rising in
        subst (λ (t : Option Told). Makes nodes s start limit old steps was t new (steps + 1) was) (sym co.0)
        (one_step None new made co.1 tt (λ e. cc) (omega arith) refl (omega (arith, length-drop (length rest - depth) rest))
        (λ answers. p.0 start left_behind goals pending rest answers (sym cuts.scoped.0) rising
        ∙ sym (emit-none (remaining nodes s start made answers left_behind))))

  -- the point without its first goal, and with others in its place
  with_front-fits : (front : List Numbered) (at : ℕ) → Fits nodes s top → AllKnown nodes front → at ≤ length s → Fits nodes s (with_front front at top)
  with_front-fits front at f k h = record { known = AllKnown-append nodes front goals k f.known.1; inside = h; next = tt }

  fits_rest : (first : Numbered) (next : ℕ) → MarkFits nodes s (Next next) (first ∷ []) c → MarkFits nodes s (Next next) (first ∷ goals) c
  fits_rest (N.Match id) next h = h
  fits_rest (N.CloseCond target from) next h = h
  fits_rest (N.CloseImm target from) next h = h
  fits_rest (N.CloseRepeat id from) next h = h
  fits_rest (N.CloseCut m depth) next h = h

  has_next : (left : ℕ) (body : PatId) → IsCut nodes goal body → MarkFits nodes s (Next left) (goal ∷ goals) c
  has_next left body is =
      subst (λ (g : Numbered). MarkFits nodes s (Next left) (g ∷ goals) c) (sym is.1) (subst (λ (q : Pattern). HasNext q s c left) (sym is.2) tt)

  stays_open : (left : ℕ) (body : PatId) → IsCut nodes goal body → IsStack nodes s old → body.0 < length nodes →
      IsStack nodes s (branched (N.Match body ∷ N.CloseCut left (length rest) ∷ []) c left old)
  stays_open left body is st known =
      let front : List Numbered = N.Match body ∷ N.CloseCut left (length rest) ∷ [] in
      let stays : Fits nodes s (record top { mark = Next left }) = record { known = st.fit.0.known; inside = st.fit.0.inside; next = has_next left body is } in
      record { fit = (with_front-fits front c st.fit.0 (known, (tt, tt)) st.fit.0.inside, (stays, st.fit.1)); marked = (tt, st.marked) }

  pub kept : (left : ℕ) (plan : Plan) (told : Option Told) (new : List Point) → IsStack nodes s old → IsPlan nodes s goal c mark plan
      → CarriesOut plan c left old told new → IsStack nodes s new
  kept left (P.Replace front at) told new st p co =
      subst (λ (ps : List Point). IsStack nodes s ps) (sym co.1)
      (record { fit = (with_front-fits (goals_in front) at st.fit.0 p.2 p.3, st.fit.1); marked = st.marked })
  kept left (P.Branch front at next) told new st p co =
      let stays : Fits nodes s (record top { mark = Next next }) =
      record { known = st.fit.0.known; inside = st.fit.0.inside; next = fits_rest goal next p.4 } in
      subst (λ (ps : List Point). IsStack nodes s ps) (sym co.1)
      (record { fit = (with_front-fits (goals_in front) at st.fit.0 p.2 p.3, (stays, st.fit.1)); marked = (tt, st.marked) })
  kept left (P.Close a) told new st p co =
      subst (λ (ps : List Point). IsStack nodes s ps) (sym co.1)
      (record { fit = (record { known = st.fit.0.known.1; inside = st.fit.0.inside; next = tt }, st.fit.1); marked = st.marked })
  kept left (P.Assign a) told new st p co =
      subst (λ (ps : List Point). IsStack nodes s ps) (sym co.1)
      (record { fit = (with_front-fits [] c st.fit.0 tt st.fit.0.inside, st.fit.1); marked = st.marked })
  kept left (P.Cursor target) told new st p co =
      subst (λ (ps : List Point). IsStack nodes s ps) (sym co.1)
      (record { fit = (with_front-fits [] c st.fit.0 tt st.fit.0.inside, st.fit.1); marked = st.marked })
  kept left (P.Ask prim expr) told new st p co = subst (λ (ps : List Point). IsStack nodes s ps) (sym co.1) st
  kept left P.Fail told new st p co = subst (λ (ps : List Point). IsStack nodes s ps) (sym co.1) (below-kept nodes s old st.fit st.marked)
  kept left P.Abort told new st p co = subst (λ (ps : List Point). IsStack nodes s ps) (sym co.1) st
  kept left (P.EnterCut body) told new st p co = subst (λ (ps : List Point). IsStack nodes s ps) (sym co.1) (stays_open left body p.3 st p.2)
  kept left (P.CloseCut depth) told new st p co =
      subst (λ (ps : List Point). IsStack nodes s ps) (sym co.1)
      (record {
        fit = (record { known = st.fit.0.known.1; inside = st.fit.0.inside; next = tt }, drop-fit nodes s (length rest - depth) rest st.fit.1);
        marked = drop-marked s 0 nodes (length rest - depth) rest st.marked;
      })

-- the same, at a stack that is known to begin with a point
module _ (nodes : List Node) (s : List ℕ) (old : List Point) (goal : Numbered) (goals : List Numbered) (c : ℕ) (pending : List Pending) (mark : Mark)
    (rest : List Point) (is : old ≡ point_at goal goals c pending mark ∷ rest) where
  pub fits_at : IsStack nodes s old → Fits nodes s (point_at goal goals c pending mark)
  fits_at st = (subst (λ (ps : List Point). IsStack nodes s ps) is st).fit.0

  pub stack_at : (left : ℕ) (plan : Plan) (told : Option Told) (new : List Point) → IsStack nodes s old → IsPlan nodes s goal c mark plan
      → CarriesOut plan c left old told new → IsStack nodes s new
  stack_at left plan told new st p co =
      kept nodes s goal goals c pending mark rest left plan told new
      (subst (λ (ps : List Point). IsStack nodes s ps) is st) p (subst (λ (ps : List Point). CarriesOut plan c left ps told new) is co)

  module _ (start limit steps : ℕ) (was : List Pending) where
    module _ (due : steps < limit) (left : ℕ) (behind : left ≡ limit - (steps + 1)) (cuts : HasCuts nodes (limit - steps) old) (plan : Plan)
        (told : Option Told) (new : List Point)
        (p : IsPlan nodes s goal c mark plan) (q : KeepsScopes nodes goal plan) (co : CarriesOut plan c left old told new) where
      cuts_here : HasCuts nodes (limit - steps) (point_at goal goals c pending mark ∷ rest)
      cuts_here = subst (HasCuts nodes (limit - steps)) is cuts

      carries : CarriesOut plan c (limit - (steps + 1)) (point_at goal goals c pending mark ∷ rest) told new
      carries = subst (λ n. CarriesOut plan c n (point_at goal goals c pending mark ∷ rest) told new) behind
          (subst (λ (ps : List Point). CarriesOut plan c left ps told new) is co)

      pub made_at : AllMarked (below old) → Makes nodes s start limit old steps was told new (steps + 1) was
      made_at m =
          subst (λ (ps : List Point). Makes nodes s start limit ps steps was told new (steps + 1) was) (sym is)
          (carried nodes s goal goals c pending mark rest start limit steps was due (subst (λ (ps : List Point). AllMarked (below ps)) is m) cuts_here
          plan told new p q carries)

      pub cuts_at : HasCuts nodes (limit - (steps + 1)) new
      cuts_at =
          let one_less : limit - steps ≡ suc (limit - (steps + 1)) = omega (arith, due) in
          carried_cuts nodes s goal goals c pending mark rest (limit - (steps + 1))
          (subst (λ n. HasCuts nodes n (point_at goal goals c pending mark ∷ rest)) one_less cuts_here) plan told new p q carries

    -- a step is due and none is left
    pub limit_at : steps ≡ limit → IsDue nodes s goal c mark
        → Makes nodes s start limit old steps was (Some V.Limit) old steps was
    limit_at none due =
        let zero_left : limit - steps ≡ 0 = omega (arith, none) in
        record {
          steps_in = omega (arith, none);
          paid = omega arith;
          grows = omega arith;
          falls = λ e. cc;
          more = λ e. cc;
          asked = tt;
          pending = refl;
          leads = λ answers.
              ap (λ (k : ℕ). remaining nodes s start old answers k) zero_left ∙
              ap (λ (ps : List Point). remaining nodes s start ps answers 0) is ∙ due start goals pending rest answers ∙
              ap (λ (k : ℕ). Gives [] answers k Limit) (sym zero_left);
        }

    -- FENCE is backed into
    pub fence_at : steps ≤ limit → BacksIntoFence nodes s goal c mark → Makes nodes s start limit old steps was (Some V.Aborted) old steps was
    fence_at within p = record {
      steps_in = within;
      paid = omega arith;
      grows = omega arith;
      falls = λ e. cc;
      more = λ e. cc;
      asked = tt;
      pending = refl;
      leads = λ answers. ap (λ (ps : List Point). remaining nodes s start ps answers (limit - steps)) is ∙ p start goals pending rest answers (limit - steps);
    }

    -- FENCE(P) is backed into
    pub dropped_at : steps ≤ limit → AllMarked (below old) → BacksIntoCut nodes s goal c mark → (new : List Point) → new ≡ below old
        → Makes nodes s start limit old steps was None new steps was
    dropped_at within m p new e =
        let under : new ≡ rest = e ∙ ap below is in
        let marked : AllMarked rest = subst (λ (ps : List Point). AllMarked (below ps)) is m in
        let size = ap length is in
        let size' = ap length under in
        record {
          steps_in = within;
          paid = omega arith;
          grows = omega (arith, size, size');
          falls = λ none. omega (arith, size, size');
          more = λ e. cc;
          asked = tt;
          pending = refl;
          leads = λ answers.
              ap (λ (ps : List Point). remaining nodes s start ps answers (limit - steps)) is ∙ p start goals pending rest answers marked (limit - steps) ∙
              ap (λ (ps : List Point). remaining nodes s start ps answers (limit - steps)) (sym under)
              ∙ sym (emit-none (remaining nodes s start new answers (limit - steps)));
        }

-- no goal is left

enter_only : (nodes : List Node) (s : List ℕ) (c : ℕ) (mark : Mark) → MarkFits nodes s mark [] c → mark ≡ Enter
enter_only nodes s c Enter h = refl
enter_only nodes s c (Next i) h = elim h [ ]

module _ (nodes : List Node) (s : List ℕ) (start limit : ℕ) (old new : List Point) (c : ℕ) (pending : List Pending) (mark : Mark) (rest : List Point)
    (is : old ≡ record { goals = []; cursor = c; pending = pending; mark = mark } ∷ rest)
    (st : IsStack nodes s old) (way : List Pending) (f : Finishes old new way) where
  ended : Finishes (record { goals = []; cursor = c; pending = pending; mark = mark } ∷ rest) new way
  ended = subst (λ (ps : List Point). Finishes ps new way) is f

  standing_is : IsStack nodes s (record { goals = []; cursor = c; pending = pending; mark = mark } ∷ rest)
  standing_is = subst (λ (ps : List Point). IsStack nodes s ps) is st

  pub way_stack : IsStack nodes s new
  way_stack = subst (λ (ps : List Point). IsStack nodes s ps) (sym ended.0)
      (below-kept nodes s (record { goals = []; cursor = c; pending = pending; mark = mark } ∷ rest) standing_is.fit standing_is.marked)

  pub way_at : (steps : ℕ) (was : List Pending) → steps ≤ limit → Makes nodes s start limit old steps was (Some (V.Way start c)) new steps way
  way_at steps was within =
      let left = limit - steps in
      let enter = enter_only nodes s c mark standing_is.fit.0.next in
      let size = ap length is in
      let size' = ap length ended.0 in
      record {
        steps_in = within;
        paid = omega arith;
        grows = omega (arith, size, size');
        falls = λ e. cc;
        more = λ e. cc;
        asked = tt;
        pending = refl;
        leads = λ answers.
            ap (λ (ps : List Point). remaining nodes s start ps answers left) is ∙
            ap (λ (m : Mark). remaining nodes s start (record { goals = []; cursor = c; pending = pending; mark = m } ∷ rest) answers left) enter ∙
            resume-emit nodes s start rest ((Way start c pending, left) ∷ []) (Gives [] answers left Exhausted) ∙
            ap (emit ((Way start c pending, left) ∷ [])) (resume-exhausted nodes s start rest answers left standing_is.marked) ∙
            ap (λ (w : List Pending). emit ((Way start c w, left) ∷ []) (remaining nodes s start rest answers left)) (sym ended.1) ∙
            ap (λ (ps : List Point). emit ((Way start c way, left) ∷ []) (remaining nodes s start ps answers left)) (sym ended.0);
      }
