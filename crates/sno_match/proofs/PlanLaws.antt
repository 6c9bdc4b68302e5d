-- Each plan of the matcher is right.
use Rattle.std.proofs.Common.{◌≡◌, ℕ, zero, suc, ◌+◌, ◌≤◌, List, [], ◌∷◌, ◌++◌, Option, Some, None, map, drop, slice_get, length, Contains, refl, sym, ◌∙◌, ap}
use Rattle.std.proofs.Common.{subst, add-one, eq-eqb}
use Rattle.sno_value.specs.declared.value.Name.{Name}
use Rattle.sno_value.specs.declared.kind.PrimitiveKind.{PrimitiveKind}
use Rattle.sno_pattern.specs.Pattern.{Pattern, Primitive, Leaf, Fence, Abort, Succeed, Arbno, Alt, Cat, Cond, Imm, Place, Defer}
use Rattle.sno_pattern.specs.Ends.{ends}
use Rattle.std.proofs.lemmas.Bool.{ne_eqb}
use Rattle.sno_value.specs.declared.ids.PatId.{PatId}
use Rattle.sno_pattern.specs.NextEnd.{ends_of}
use Rattle.sno_pattern.specs.Shape.{HasShape, end_of}
use Rattle.sno_pattern.specs.declared.shape.Shape.{Shape}
use Rattle.sno_pattern.specs.declared.shape.Shape.TheVariants as S
use Rattle.sno_pattern.specs.Table.{Node, tree}
use Rattle.sno_match.specs.declared.goal.Goal.{Goal as Numbered}
use Rattle.sno_match.specs.declared.goal.Goal.TheVariants as N
use Rattle.sno_match.specs.declared.event.Pending.{Pending}
use Rattle.sno_match.specs.declared.goal.Mark.TheVariants.{Enter, Next}
use Rattle.sno_match.specs.Search.{Match, CloseRepeat, Exhausted, Aborted, Limit, Assign, Cursor, Value, Answer, SearchResult, Gives, Search, emit, further}
use Rattle.sno_match.specs.Search.{with_answer, if_moved, first_goal, search, assigns}
use Rattle.sno_match.specs.Point.{Point, with_front, rest_of}
use Rattle.sno_match.specs.Remaining.{ends_from, goals_of, goal_of, body_of, after_pattern, resume, remaining, HasNext}
use Rattle.sno_match.specs.inner.Remaining.{waiting}
use Rattle.sno_match.specs.inner.Plan.{point_at, Goes, IsDue, IsPlan, KeepsScopes, end_plan}
use Rattle.sno_match.specs.declared.goal.Mark.{Mark}
use Rattle.sno_match.specs.Scopes.{opened_at, opened}
use Rattle.sno_pattern.proofs.ShapeLaws.{end_of-range}
use Rattle.sno_pattern.proofs.NextEndLaws.{Contains-end_of, end_of-Contains}
use Rattle.sno_match.proofs.EndsRange.{from_end}
use Rattle.sno_match.proofs.SearchLaws.{search-step, search-falls}
use Rattle.sno_match.proofs.ReadingLaws.{emit-none, resume-emit, resume-stop, resume-exhausted, tries-some, tries-none, next-some, next-limit, next-none}
use Rattle.sno_match.proofs.ReadingLaws.{repeats-enter, repeats-next}

module _ (nodes : List Node) (s : List ℕ) where
  -- a step is due where a goal is to be entered
  pub due-enter : (goal : Numbered) (c : ℕ) → IsDue nodes s goal c Enter
  due-enter goal c start rest pending below answers = resume-stop nodes s start below [] answers zero Limit tt

  module _ (start : ℕ) (rest : List Numbered) (c : ℕ) (pending : List Pending) (below : List Point) (answers : List Answer) (left : ℕ) where
    -- entering a goal
    step : (goal : Numbered) → remaining nodes s start (point_at goal rest c pending Enter ∷ below) answers (suc left) ≡
        resume nodes s start below (first_goal s (search s start) (goal_of nodes goal) (goals_of nodes rest) c pending answers left)
    step goal = ap (resume nodes s start below) (search-step s start (goal_of nodes goal) (goals_of nodes rest) c pending answers left)

    -- entering a pattern whose tree is known
    step_into : (id : PatId) (p : Pattern) → tree nodes id.0 ≡ p
        → remaining nodes s start (point_at (N.Match id) rest c pending Enter ∷ below) answers (suc left) ≡
        resume nodes s start below (first_goal s (search s start) (Match p) (goals_of nodes rest) c pending answers left)
    step_into id p t = step (N.Match id)
        ∙ ap (λ x. resume nodes s start below (first_goal s (search s start) (Match x) (goals_of nodes rest) c pending answers left)) t

    -- taking up a pattern's next alternative
    next_of : (id : PatId) (p : Pattern) (i : ℕ) → tree nodes id.0 ≡ p → (n : ℕ)
        → remaining nodes s start (point_at (N.Match id) rest c pending (Next i) ∷ below) answers n ≡
        resume nodes s start below (after_pattern s start p (goals_of nodes rest) c pending i (Gives [] answers n Exhausted))
    next_of id p i t n = ap (λ x. resume nodes s start below (after_pattern s start x (goals_of nodes rest) c pending i (Gives [] answers n Exhausted))) t

    -- a new point above one that stays
    above : (id : PatId) (p : Pattern) (front : List Numbered) (at i : ℕ) → tree nodes id.0 ≡ p →
        remaining nodes s start (with_front front at (point_at (N.Match id) rest c pending Enter) ∷ point_at (N.Match id) rest c pending
        (Next i) ∷ below) answers left ≡
        resume nodes s start below
        (after_pattern s start p (goals_of nodes rest) c pending i (search s start (goals_of nodes (front ++ rest)) at pending answers left))
    above id p front at i t =
        ap (λ x. resume nodes s start below
        (after_pattern s start x (goals_of nodes rest) c pending i (search s start (goals_of nodes (front ++ rest)) at pending answers left))) t

    -- nothing told
    silent : (points : List Point) → remaining nodes s start points answers left ≡ emit [] (remaining nodes s start points answers left)
    silent points = sym (emit-none (remaining nodes s start points answers left))

  pub cat : (id p q : PatId) (c : ℕ) → tree nodes id.0 ≡ Cat (tree nodes p.0) (tree nodes q.0)
      → Goes nodes s (N.Match id) c Enter (λ left. []) (λ point below. with_front (N.Match p ∷ N.Match q ∷ []) c point ∷ below)
  cat id p q c t start rest pending below answers marked left =
      step_into start rest c pending below answers left id (Cat (tree nodes p.0) (tree nodes q.0)) t ∙ silent start rest c pending below answers left
      (with_front (N.Match p ∷ N.Match q ∷ []) c (point_at (N.Match id) rest c pending Enter) ∷ below)

  pub alt : (id p q : PatId) (c : ℕ) → tree nodes id.0 ≡ Alt (tree nodes p.0) (tree nodes q.0)
      → Goes nodes s (N.Match id) c Enter (λ left. []) (λ point below. with_front (N.Match p ∷ []) c point ∷ record point { mark = Next c } ∷ below)
  alt id p q c t start rest pending below answers marked left =
      step_into start rest c pending below answers left id (Alt (tree nodes p.0) (tree nodes q.0)) t ∙
      sym (above start rest c pending below answers left id (Alt (tree nodes p.0) (tree nodes q.0)) (N.Match p ∷ []) c c t) ∙
      silent start rest c pending below answers left (with_front (N.Match p ∷ []) c (point_at (N.Match id) rest c pending Enter)
      ∷ point_at (N.Match id) rest c pending (Next c) ∷ below)

  -- primitives

  module _ (id : PatId) (a : Primitive) (c : ℕ) (t : tree nodes id.0 ≡ Leaf a) (inside : c ≤ length s) where
    abbrev from_end_of : List Numbered → List Pending → ℕ → ℕ → Search
    from_end_of rest pending start e = search s start (goals_of nodes rest) e pending

    is_end : (i : ℕ) (o : Option ℕ) → end_of (tree nodes id.0) s c i ≡ o → slice_get (ends a s c) i ≡ o
    is_end i o h = subst (λ p. end_of p s c i ≡ o) t h

    pub leaf_fail : end_of (tree nodes id.0) s c 0 ≡ None → Goes nodes s (N.Match id) c Enter (λ left. []) (λ point below. below)
    leaf_fail h start rest pending below answers marked left =
        step_into start rest c pending below answers left id (Leaf a) t ∙
        ap (resume nodes s start below) (tries-none (from_end_of rest pending start) (ends a s c) answers left (is_end 0 None h)) ∙
        resume-exhausted nodes s start below answers left marked ∙ silent start rest c pending below answers left below

    -- the ends behind one with a number
    more_ends : (i next : ℕ) → slice_get (ends a s c) i ≡ Some next → (f : ℕ → Search) (outcome : SearchResult) → further outcome (map f (drop i (ends a s c)))
        ≡ further outcome (map f (ends_from next (ends a s c)))
    more_ends i next h f outcome = ap (λ (es : List ℕ). further outcome (map f es)) (sym (from_end a s c i next inside h))

    only : (e : ℕ) → end_of (tree nodes id.0) s c 0 ≡ Some e → end_of (tree nodes id.0) s c 1 ≡ None
        → Goes nodes s (N.Match id) c Enter (λ left. []) (λ point below. with_front [] e point ∷ below)
    only e h k start rest pending below answers marked left =
        let f = from_end_of rest pending start in
        step_into start rest c pending below answers left id (Leaf a) t ∙
        ap (resume nodes s start below) (tries-some f (ends a s c) e answers left (is_end 0 (Some e) h)
        ∙ next-none f (ends a s c) 1 (f e answers left) (is_end 1 None k)) ∙
        silent start rest c pending below answers left (with_front [] e (point_at (N.Match id) rest c pending Enter) ∷ below)

    more : (e next : ℕ) → end_of (tree nodes id.0) s c 0 ≡ Some e → end_of (tree nodes id.0) s c 1 ≡ Some next →
        Goes nodes s (N.Match id) c Enter (λ left. []) (λ point below. with_front [] e point ∷ record point { mark = Next next } ∷ below)
    more e next h k start rest pending below answers marked left =
        let f = from_end_of rest pending start in
        step_into start rest c pending below answers left id (Leaf a) t ∙
        ap (resume nodes s start below) (tries-some f (ends a s c) e answers left (is_end 0 (Some e) h)
        ∙ more_ends 1 next (is_end 1 (Some next) k) f (f e answers left)) ∙
        sym (above start rest c pending below answers left id (Leaf a) [] e next t) ∙
        silent start rest c pending below answers left (with_front [] e (point_at (N.Match id) rest c pending Enter)
        ∷ point_at (N.Match id) rest c pending (Next next) ∷ below)

    module _ (i e : ℕ) (h : end_of (tree nodes id.0) s c i ≡ Some e) where
      from_here : (f : ℕ → Search) (outcome : SearchResult) → further outcome (map f (ends_from e (ends a s c))) ≡ further outcome (map f (drop i (ends a s c)))
      from_here f outcome = sym (more_ends i e (is_end i (Some e) h) f outcome)

      pub leaf_due : IsDue nodes s (N.Match id) c (Next e)
      leaf_due start rest pending below answers =
          let f = from_end_of rest pending start in
          next_of start rest c pending below answers 0 id (Leaf a) e t 0 ∙
          ap (resume nodes s start below) (from_here f (Gives [] answers 0 Exhausted) ∙ next-limit f (ends a s c) i e answers (is_end i (Some e) h)) ∙
          resume-stop nodes s start below [] answers zero Limit tt

      next_only : end_of (tree nodes id.0) s c (i + 1) ≡ None → Goes nodes s (N.Match id) c (Next e) (λ left. []) (λ point below. with_front [] e point ∷ below)
      next_only k start rest pending below answers marked left =
          let f = from_end_of rest pending start in
          let none = rw add-one at (is_end (i + 1) None k) in
          next_of start rest c pending below answers left id (Leaf a) e t (suc left) ∙
          ap (resume nodes s start below) (from_here f (Gives [] answers (suc left) Exhausted)
          ∙ next-some f (ends a s c) i e answers left (is_end i (Some e) h) ∙
          next-none f (ends a s c) (suc i) (f e answers left) none) ∙
          silent start rest c pending below answers left (with_front [] e (point_at (N.Match id) rest c pending Enter) ∷ below)

      next_more : (next : ℕ) → end_of (tree nodes id.0) s c (i + 1) ≡ Some next
          → Goes nodes s (N.Match id) c (Next e) (λ left. []) (λ point below. with_front [] e point ∷ record point { mark = Next next } ∷ below)
      next_more next k start rest pending below answers marked left =
          let f = from_end_of rest pending start in
          let some = rw add-one at (is_end (i + 1) (Some next) k) in
          next_of start rest c pending below answers left id (Leaf a) e t (suc left) ∙
          ap (resume nodes s start below) (from_here f (Gives [] answers (suc left) Exhausted)
          ∙ next-some f (ends a s c) i e answers left (is_end i (Some e) h) ∙
          more_ends (suc i) next some f (f e answers left)) ∙
          sym (above start rest c pending below answers left id (Leaf a) [] e next t) ∙
          silent start rest c pending below answers left (with_front [] e (point_at (N.Match id) rest c pending Enter)
          ∷ point_at (N.Match id) rest c pending (Next next) ∷ below)

    end_fits : (i e : ℕ) → end_of (tree nodes id.0) s c i ≡ Some e → (e ≤ length s) × HasNext (tree nodes id.0) s c e
    end_fits i e h =
        let within = end_of-range (tree nodes id.0) s c i (Some e) inside (sym h) in
        (within.1, subst (λ (q : Pattern). HasNext q s c e) (sym t) (Contains-end_of (Leaf a) s c i e (subst (λ p. end_of p s c i ≡ Some e) t h)))

    -- the plan at an end, and at the one behind it
    pub leaf_enter : (e : ℕ) → end_of (tree nodes id.0) s c 0 ≡ Some e → (o : Option ℕ) → end_of (tree nodes id.0) s c 1 ≡ o
        → IsPlan nodes s (N.Match id) c Enter (end_plan e o)
    leaf_enter e h None k = (only e h k, due-enter (N.Match id) c, tt, (end_fits 0 e h).0)
    leaf_enter e h (Some next) k = (more e next h k, due-enter (N.Match id) c, tt, (end_fits 0 e h).0, (end_fits 1 next k).1)

    pub leaf_next : (i e : ℕ) → end_of (tree nodes id.0) s c i ≡ Some e → (o : Option ℕ) → end_of (tree nodes id.0) s c (i + 1) ≡ o
        → IsPlan nodes s (N.Match id) c (Next e) (end_plan e o)
    leaf_next i e h None k = (next_only i e h k, leaf_due i e h, tt, (end_fits i e h).0)
    leaf_next i e h (Some next) k = (next_more i e h next k, leaf_due i e h, tt, (end_fits i e h).0, (end_fits (i + 1) next k).1)

  -- one more alternative

  module _ (id : PatId) (c i : ℕ) where
    pub alt_due : (p q : Pattern) → tree nodes id.0 ≡ Alt p q → IsDue nodes s (N.Match id) c (Next i)
    alt_due p q t start rest pending below answers = next_of start rest c pending below answers 0 id (Alt p q) i t 0
        ∙ resume-stop nodes s start below [] answers zero Limit tt

    pub alt_next : (p q : PatId) → tree nodes id.0 ≡ Alt (tree nodes p.0) (tree nodes q.0)
        → Goes nodes s (N.Match id) c (Next i) (λ left. []) (λ point below. with_front (N.Match q ∷ []) c point ∷ below)
    alt_next p q t start rest pending below answers marked left =
        next_of start rest c pending below answers left id (Alt (tree nodes p.0) (tree nodes q.0)) i t (suc left) ∙
        ap (resume nodes s start below) (emit-none (search s start (Match (tree nodes q.0) ∷ goals_of nodes rest) c pending answers left)) ∙
        silent start rest c pending below answers left (with_front (N.Match q ∷ []) c (point_at (N.Match id) rest c pending Enter) ∷ below)

    pub arbno_due : (p : Pattern) → tree nodes id.0 ≡ Arbno p → IsDue nodes s (N.Match id) c (Next i)
    arbno_due p t start rest pending below answers = next_of start rest c pending below answers 0 id (Arbno p) i t 0
        ∙ resume-stop nodes s start below [] answers zero Limit tt

    pub arbno_next : (p : PatId) → tree nodes id.0 ≡ Arbno (tree nodes p.0)
        → Goes nodes s (N.Match id) c (Next i) (λ left. []) (λ point below. with_front (N.Match p ∷ N.CloseRepeat id c ∷ []) c point ∷ below)
    arbno_next p t start rest pending below answers marked left =
        next_of start rest c pending below answers left id (Arbno (tree nodes p.0)) i t (suc left) ∙
        ap (resume nodes s start below)
        (emit-none (search s start (Match (tree nodes p.0) ∷ CloseRepeat (tree nodes p.0) c ∷ goals_of nodes rest) c pending answers left)) ∙
        ap (λ x. resume nodes s start below (search s start (Match (tree nodes p.0) ∷ CloseRepeat (body_of x) c ∷ goals_of nodes rest) c pending answers left))
        (sym t) ∙
        silent start rest c pending below answers left (with_front (N.Match p ∷ N.CloseRepeat id c ∷ []) c (point_at (N.Match id) rest c pending Enter) ∷ below)

    pub succeed_due : tree nodes id.0 ≡ Succeed → IsDue nodes s (N.Match id) c (Next i)
    succeed_due t start rest pending below answers = next_of start rest c pending below answers 0 id Succeed i t 0
        ∙ resume-stop nodes s start below [] answers zero Limit tt

    pub succeed_next : (j : ℕ) → tree nodes id.0 ≡ Succeed
        → Goes nodes s (N.Match id) c (Next i) (λ left. []) (λ point below. with_front [] c point ∷ record point { mark = Next j } ∷ below)
    succeed_next j t start rest pending below answers marked left =
        next_of start rest c pending below answers left id Succeed i t (suc left) ∙
        ap (resume nodes s start below)
        (repeats-next (search s start (goals_of nodes rest) c pending) answers left (search-falls s start (goals_of nodes rest) c pending)) ∙
        sym (above start rest c pending below answers left id Succeed [] c j t) ∙
        silent start rest c pending below answers left (with_front [] c (point_at (N.Match id) rest c pending Enter)
        ∷ point_at (N.Match id) rest c pending (Next j) ∷ below)

    pub back_into_fence : tree nodes id.0 ≡ Fence →
        (start : ℕ) (rest : List Numbered) (pending : List Pending) (below : List Point) (answers : List Answer) (left : ℕ) →
        remaining nodes s start (point_at (N.Match id) rest c pending (Next i) ∷ below) answers left ≡ Gives [] answers left Aborted
    back_into_fence t start rest pending below answers left = next_of start rest c pending below answers left id Fence i t left
        ∙ resume-stop nodes s start below [] answers left Aborted tt

  module _ (id : PatId) (c : ℕ) where
    pub arbno : (p : Pattern) → tree nodes id.0 ≡ Arbno p
        → Goes nodes s (N.Match id) c Enter (λ left. []) (λ point below. with_front [] c point ∷ record point { mark = Next c } ∷ below)
    arbno p t start rest pending below answers marked left =
        step_into start rest c pending below answers left id (Arbno p) t ∙
        sym (above start rest c pending below answers left id (Arbno p) [] c c t) ∙
        silent start rest c pending below answers left (with_front [] c (point_at (N.Match id) rest c pending Enter)
        ∷ point_at (N.Match id) rest c pending (Next c) ∷ below)

    pub succeed : tree nodes id.0 ≡ Succeed
        → Goes nodes s (N.Match id) c Enter (λ left. []) (λ point below. with_front [] c point ∷ record point { mark = Next c } ∷ below)
    succeed t start rest pending below answers marked left =
        step_into start rest c pending below answers left id Succeed t ∙
        ap (resume nodes s start below)
        (repeats-enter (search s start (goals_of nodes rest) c pending) answers left (search-falls s start (goals_of nodes rest) c pending)) ∙
        sym (above start rest c pending below answers left id Succeed [] c c t) ∙
        silent start rest c pending below answers left (with_front [] c (point_at (N.Match id) rest c pending Enter)
        ∷ point_at (N.Match id) rest c pending (Next c) ∷ below)

    pub fence : tree nodes id.0 ≡ Fence
        → Goes nodes s (N.Match id) c Enter (λ left. []) (λ point below. with_front [] c point ∷ record point { mark = Next c } ∷ below)
    fence t start rest pending below answers marked left =
        step_into start rest c pending below answers left id Fence t ∙
        sym (above start rest c pending below answers left id Fence [] c c t) ∙
        silent start rest c pending below answers left (with_front [] c (point_at (N.Match id) rest c pending Enter)
        ∷ point_at (N.Match id) rest c pending (Next c) ∷ below)

    pub abort : tree nodes id.0 ≡ Abort →
        (start : ℕ) (rest : List Numbered) (pending : List Pending) (below : List Point) (answers : List Answer) (left : ℕ) →
        remaining nodes s start (point_at (N.Match id) rest c pending Enter ∷ below) answers (suc left) ≡ Gives [] answers left Aborted
    abort t start rest pending below answers left = step_into start rest c pending below answers left id Abort t
        ∙ resume-stop nodes s start below [] answers left Aborted tt

    pub cond : (p : PatId) (target : Name) → tree nodes id.0 ≡ Cond (tree nodes p.0) target
        → Goes nodes s (N.Match id) c Enter (λ left. []) (λ point below. with_front (N.Match p ∷ N.CloseCond target c ∷ []) c point ∷ below)
    cond p target t start rest pending below answers marked left =
        step_into start rest c pending below answers left id (Cond (tree nodes p.0) target) t ∙ silent start rest c pending below answers left
        (with_front (N.Match p ∷ N.CloseCond target c ∷ []) c (point_at (N.Match id) rest c pending Enter) ∷ below)

    pub imm : (p : PatId) (target : Name) → tree nodes id.0 ≡ Imm (tree nodes p.0) target
        → Goes nodes s (N.Match id) c Enter (λ left. []) (λ point below. with_front (N.Match p ∷ N.CloseImm target c ∷ []) c point ∷ below)
    imm p target t start rest pending below answers marked left =
        step_into start rest c pending below answers left id (Imm (tree nodes p.0) target) t ∙ silent start rest c pending below answers left
        (with_front (N.Match p ∷ N.CloseImm target c ∷ []) c (point_at (N.Match id) rest c pending Enter) ∷ below)

    pub place : (target : Name) → tree nodes id.0 ≡ Place target → Goes nodes s (N.Match id) c Enter (λ left. (Cursor target c, left) ∷ [])
        (λ point below. with_front [] c point ∷ below)
    place target t start rest pending below answers marked left =
        step_into start rest c pending below answers left id (Place target) t ∙
        resume-emit nodes s start below ((Cursor target c, left) ∷ []) (search s start (goals_of nodes rest) c pending answers left)

    pub defer : (primitive : Option PrimitiveKind) (expression : ℕ) → tree nodes id.0 ≡ Defer primitive expression →
        (start : ℕ) (rest : List Numbered) (pending : List Pending) (below : List Point) (answers : List Answer) (left : ℕ) →
        remaining nodes s start (point_at (N.Match id) rest c pending Enter ∷ below) answers (suc left) ≡
        emit ((Value primitive expression, left) ∷ []) (waiting nodes s start (point_at (N.Match id) rest c pending Enter ∷ below) answers left)
    defer primitive expression t start rest pending below answers left =
        step_into start rest c pending below answers left id (Defer primitive expression) t ∙
        resume-emit nodes s start below ((Value primitive expression, left) ∷ []) (with_answer (search s start) (goals_of nodes rest) c pending answers left)

  -- the ends of compound patterns

  pub close_cond : (target : Name) (from c : ℕ) → Goes nodes s (N.CloseCond target from) c Enter (λ left. [])
      (λ point below. record { goals = rest_of point.goals; cursor = point.cursor; pending = point.pending ++ assigns target from c ∷ []; mark = Enter }
      ∷ below)
  close_cond target from c start rest pending below answers marked left =
      step start rest c pending below answers left (N.CloseCond target from) ∙
      silent start rest c pending below answers left
      (record { goals = rest; cursor = c; pending = pending ++ assigns target from c ∷ []; mark = Enter } ∷ below)

  pub close_imm : (target : Name) (from c : ℕ) → Goes nodes s (N.CloseImm target from) c Enter (λ left. (Assign target from c, left) ∷ [])
      (λ point below. with_front [] c point ∷ below)
  close_imm target from c start rest pending below answers marked left =
      step start rest c pending below answers left (N.CloseImm target from) ∙
      resume-emit nodes s start below ((Assign target from c, left) ∷ []) (search s start (goals_of nodes rest) c pending answers left)

  module _ (id : PatId) (from c : ℕ) where
    pub repeat_fail : c ≡ from → Goes nodes s (N.CloseRepeat id from) c Enter (λ left. []) (λ point below. below)
    repeat_fail h start rest pending below answers marked left =
        step start rest c pending below answers left (N.CloseRepeat id from) ∙
        ap (λ b. resume nodes s start below (if_moved b (search s start (Match (Arbno (body_of (tree nodes id.0))) ∷ goals_of nodes rest) c pending) answers
        left)) (eq-eqb c from h) ∙
        resume-exhausted nodes s start below answers left marked ∙ silent start rest c pending below answers left below

    pub repeat : (c ≡ from → ⊥) → tree nodes id.0 ≡ Arbno (body_of (tree nodes id.0)) → Goes nodes s (N.CloseRepeat id from) c Enter (λ left. [])
        (λ point below. with_front (N.Match id ∷ []) c point ∷ below)
    repeat h t start rest pending below answers marked left =
        step start rest c pending below answers left (N.CloseRepeat id from) ∙
        ap (λ b. resume nodes s start below (if_moved b (search s start (Match (Arbno (body_of (tree nodes id.0))) ∷ goals_of nodes rest) c pending) answers
        left)) (ne_eqb c from h) ∙
        ap (λ x. resume nodes s start below (search s start (Match x ∷ goals_of nodes rest) c pending answers left)) (sym t) ∙
        silent start rest c pending below answers left (with_front (N.Match id ∷ []) c (point_at (N.CloseRepeat id from) rest c pending Enter) ∷ below)

-- an end that is there is one of the ends, and one of the ends is there
pub end_in : (nodes : List Node) (id : ℕ) (s : List ℕ) (c i e : ℕ) → end_of (tree nodes id) s c i ≡ Some e → Contains (ends_of (tree nodes id) s c) e
end_in nodes id s c i e h = Contains-end_of (tree nodes id) s c i e h

pub ends_in : (nodes : List Node) (id : ℕ) (a : Primitive) (s : List ℕ) (c e : ℕ) → tree nodes id ≡ Leaf a → HasNext (tree nodes id) s c e
    → Contains (ends_of (tree nodes id) s c) e
ends_in nodes id a s c e t h =
    subst (λ (q : Pattern). Contains (ends_of q s c) e) (sym t) (subst (λ (q : Pattern). HasNext q s c e) t h)

pub number_of : (nodes : List Node) (id : ℕ) (s : List ℕ) (c e : ℕ) → Contains (ends_of (tree nodes id) s c) e → (i : ℕ)
    × (end_of (tree nodes id) s c i ≡ Some e)
number_of nodes id s c e h = end_of-Contains (tree nodes id) s c e h

-- a shape without a further alternative
pub no_next : (nodes : List Node) (id : ℕ) (s : List ℕ) (c i : ℕ) (shape : Shape) → HasShape nodes id shape → HasNext (tree nodes id) s c i →
    (shape ≡ S.Primitive → ⊥) → ((p q : PatId) → shape ≡ S.Alt p q → ⊥) → ((p : PatId) → shape ≡ S.Arbno p → ⊥) → (shape ≡ S.Succeed → ⊥)
    → (shape ≡ S.Fence → ⊥) → ((p : PatId) → shape ≡ S.Cut p → ⊥) → ⊥
no_next nodes id s c i (S.Cut p) h n a b d e f g = g p refl
no_next nodes id s c i S.Primitive h n a b d e f g = a refl
no_next nodes id s c i (S.Alt p q) h n a b d e f g = b p q refl
no_next nodes id s c i (S.Arbno p) h n a b d e f g = d p refl
no_next nodes id s c i S.Succeed h n a b d e f g = e refl
no_next nodes id s c i S.Fence h n a b d e f g = f refl
no_next nodes id s c i (S.Cat p q) h n a b d e f g = subst (λ (t : Pattern). HasNext t s c i) h.2 n
no_next nodes id s c i (S.Cond p target) h n a b d e f g = subst (λ (t : Pattern). HasNext t s c i) h.1 n
no_next nodes id s c i (S.Imm p target) h n a b d e f g = subst (λ (t : Pattern). HasNext t s c i) h.1 n
no_next nodes id s c i (S.Cursor target) h n a b d e f g = subst (λ (t : Pattern). HasNext t s c i) h n
no_next nodes id s c i S.Abort h n a b d e f g = subst (λ (t : Pattern). HasNext t s c i) h n
no_next nodes id s c i (S.Defer expression) h n a b d e f g = subst (λ (t : Pattern). HasNext t s c i) h n
no_next nodes id s c i (S.DeferPrim primitive expression) h n a b d e f g = subst (λ (t : Pattern). HasNext t s c i) h n

-- a pattern with an alternative of its own has it at any number
pub next_in : (nodes : List Node) (id : ℕ) (q : Pattern) (s : List ℕ) (c i : ℕ) → tree nodes id ≡ q → HasNext q s c i → HasNext (tree nodes id) s c i
next_in nodes id q s c i e h = subst (λ (t : Pattern). HasNext t s c i) (sym e) h

-- a primitive opens no cut
leaf_plain : (nodes : List Node) (id : PatId) (a : Primitive) → tree nodes id.0 ≡ Leaf a → (rest : List Numbered) (mark : Mark) (depth : ℕ)
    → opened nodes (N.Match id ∷ rest) mark depth ≡ []
leaf_plain nodes id a t rest Enter depth = refl
leaf_plain nodes id a t rest (Next left) depth = ap (λ p. opened_at p left depth) t

pub leaf_scopes : (nodes : List Node) (id : PatId) (a : Primitive) → tree nodes id.0 ≡ Leaf a → (e : ℕ) (o : Option ℕ)
    → KeepsScopes nodes (N.Match id) (end_plan e o)
leaf_scopes nodes id a t e None = (refl, refl)
leaf_scopes nodes id a t e (Some next) = ((refl, leaf_plain nodes id a t), refl)
