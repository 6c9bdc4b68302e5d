-- A table that grows leaves the reading of a stack.
use Rattle.std.proofs.Common.{◌≡◌, ℕ, ◌-◌, ◌<◌, List, [], ◌∷◌, ◌++◌, Option, Some, None, length, map, refl, sym, ◌∙◌, ap, subst, arith, length-append}
use Rattle.sno_value.specs.declared.ids.PatId.{PatId}
use Rattle.sno_pattern.specs.Pattern.{Pattern, Arbno}
use Rattle.sno_pattern.specs.Table.{Node, tree}
use Rattle.sno_pattern.proofs.TableLaws.{tree-append}
use Rattle.sno_match.specs.declared.goal.Goal.{Goal as Numbered}
use Rattle.sno_match.specs.declared.goal.Goal.TheVariants as N
use Rattle.sno_match.specs.declared.goal.Mark.{Mark}
use Rattle.sno_match.specs.declared.goal.Mark.TheVariants.{Enter, Next}
use Rattle.sno_match.specs.declared.engine.State.{State}
use Rattle.sno_match.specs.declared.engine.State.TheVariants as S
use Rattle.sno_match.specs.Search.{Match, CloseRepeat, Answer, SearchResult, emit, further, search, with_answer, whole, trace}
use Rattle.sno_match.specs.Point.{Point, rest_of}
use Rattle.sno_match.specs.Remaining.{body_of, goal_of, goals_of, behind, behind_mark, from_mark, resume, remaining, IsKnown, AllKnown, AllFit}
use Rattle.sno_match.specs.inner.Remaining.{waiting}
use Rattle.sno_match.specs.Remaining.{MarkFits}
use Rattle.sno_match.specs.Remaining.{HasNext}
use Rattle.sno_match.specs.Scopes.{opened_at, opened, opens, AllScoped, RiseFrom, HasCuts}
use Rattle.sno_match.specs.Matching.{Matching, answers_of, trace_of, Begins}
use Rattle.sno_match.specs.inner.Running.{later, later_starts, to_come, AnswersIn, IsMatch}

module _ (nodes more : List Node) where
  goal_of-grow : (g : Numbered) → IsKnown nodes g → goal_of (nodes ++ more) g ≡ goal_of nodes g
  goal_of-grow (N.Match id) h = ap Match (tree-append nodes more id.0 h)
  goal_of-grow (N.CloseCond target from) h = refl
  goal_of-grow (N.CloseImm target from) h = refl
  goal_of-grow (N.CloseCut left depth) h = refl
  goal_of-grow (N.CloseRepeat id from) h = ap (λ t. CloseRepeat (body_of t) from) (tree-append nodes more id.0 h.0)

  goals_of-grow : (gs : List Numbered) → AllKnown nodes gs → goals_of (nodes ++ more) gs ≡ goals_of nodes gs
  goals_of-grow [] h = refl
  goals_of-grow (g ∷ gs) h = ap (λ x. x ∷ goals_of (nodes ++ more) gs) (goal_of-grow g h.0) ∙ ap (λ xs. goal_of nodes g ∷ xs) (goals_of-grow gs h.1)

  known-grow : (g : Numbered) → IsKnown nodes g → IsKnown (nodes ++ more) g
  known-grow (N.Match id) h = omega (arith, length-append nodes more, h)
  known-grow (N.CloseCond target from) h = tt
  known-grow (N.CloseImm target from) h = tt
  known-grow (N.CloseCut left depth) h = tt
  known-grow (N.CloseRepeat id from) h = (
    omega (arith, length-append nodes more, h.0),
    tree-append nodes more id.0 h.0 ∙ h.1
        ∙ ap (λ t. Arbno (body_of t)) (sym (tree-append nodes more id.0 h.0)),
  )

  all_known-grow : (gs : List Numbered) → AllKnown nodes gs → AllKnown (nodes ++ more) gs
  all_known-grow [] h = tt
  all_known-grow (g ∷ gs) h = (known-grow g h.0, all_known-grow gs h.1)

  mark-grow : (s : List ℕ) (mark : Mark) (gs : List Numbered) (c : ℕ) → AllKnown nodes gs → MarkFits nodes s mark gs c → MarkFits (nodes ++ more) s mark gs c
  mark-grow s Enter gs c k h = tt
  mark-grow s (Next i) [] c k h = h
  mark-grow s (Next i) (N.Match id ∷ gs) c k h = subst (λ (p : Pattern). HasNext p s c i) (sym (tree-append nodes more id.0 k.0)) h
  mark-grow s (Next i) (N.CloseCond target from ∷ gs) c k h = h
  mark-grow s (Next i) (N.CloseImm target from ∷ gs) c k h = h
  mark-grow s (Next i) (N.CloseCut left depth ∷ gs) c k h = h
  mark-grow s (Next i) (N.CloseRepeat id from ∷ gs) c k h = h

  fit-grow : (s : List ℕ) (points : List Point) → AllFit nodes s points → AllFit (nodes ++ more) s points
  fit-grow s [] h = tt
  fit-grow s (p ∷ ps) h = (
    record {
      known = all_known-grow p.goals h.0.known;
      inside = h.0.inside;
      next = mark-grow s p.mark p.goals p.cursor h.0.known h.0.next;
    },
    fit-grow s ps h.1,
  )

  opened-grow : (gs : List Numbered) (mark : Mark) (depth : ℕ) → AllKnown nodes gs → opened (nodes ++ more) gs mark depth ≡ opened nodes gs mark depth
  opened-grow gs Enter depth k = refl
  opened-grow [] (Next left) depth k = refl
  opened-grow (N.Match id ∷ gs) (Next left) depth k = ap (λ t. opened_at t left depth) (tree-append nodes more id.0 k.0)
  opened-grow (N.CloseCond target from ∷ gs) (Next left) depth k = refl
  opened-grow (N.CloseImm target from ∷ gs) (Next left) depth k = refl
  opened-grow (N.CloseCut m d ∷ gs) (Next left) depth k = refl
  opened-grow (N.CloseRepeat id from ∷ gs) (Next left) depth k = refl

  opens-grow : (s : List ℕ) (points : List Point) → AllFit nodes s points → opens (nodes ++ more) points ≡ opens nodes points
  opens-grow s [] h = refl
  opens-grow s (p ∷ ps) h =
      ap (λ ss. ss ++ opens (nodes ++ more) ps) (opened-grow p.goals p.mark (length ps) h.0.known)
      ∙ ap (λ ss. opened nodes p.goals p.mark (length ps) ++ ss) (opens-grow s ps h.1)

  scoped-grow : (s : List ℕ) (points : List Point) → AllFit nodes s points → AllScoped nodes points → AllScoped (nodes ++ more) points
  scoped-grow s [] h k = tt
  scoped-grow s (p ∷ ps) h k = (k.0 ∙ sym (opens-grow s ps h.1), scoped-grow s ps h.1 k.1)

  cuts-grow : (s : List ℕ) (left : ℕ) (points : List Point) → AllFit nodes s points → HasCuts nodes left points → HasCuts (nodes ++ more) left points
  cuts-grow s left points h k = record { scoped = scoped-grow s points h k.scoped; rising = subst (RiseFrom left) (sym (opens-grow s points h)) k.rising }

  module _ (s : List ℕ) (start : ℕ) where
    resume-grow : (points : List Point) (outcome : SearchResult) → AllFit nodes s points → resume (nodes ++ more) s start points outcome
        ≡ resume nodes s start points outcome
    resume-grow [] outcome h = refl
    resume-grow (p ∷ ps) outcome h =
        resume-grow ps (behind (nodes ++ more) s start p outcome) h.1 ∙
        ap (λ gs. resume nodes s start ps (behind_mark s start p.mark gs p.cursor p.pending outcome)) (goals_of-grow p.goals h.0.known)

    reading-grow : (points : List Point) (answers : List Answer) (left : ℕ) → AllFit nodes s points → remaining (nodes ++ more) s start points answers left
        ≡ remaining nodes s start points answers left
    reading-grow [] answers left h = refl
    reading-grow (p ∷ ps) answers left h =
        resume-grow ps (from_mark s start p.mark (goals_of (nodes ++ more) p.goals) p.cursor p.pending answers left) h.1 ∙
        ap (λ gs. resume nodes s start ps (from_mark s start p.mark gs p.cursor p.pending answers left)) (goals_of-grow p.goals h.0.known)

    rest-known : (gs : List Numbered) → AllKnown nodes gs → AllKnown nodes (rest_of gs)
    rest-known [] h = tt
    rest-known (g ∷ gs) h = h.1

    waiting-grow : (points : List Point) (answers : List Answer) (left : ℕ) → AllFit nodes s points → waiting (nodes ++ more) s start points answers left
        ≡ waiting nodes s start points answers left
    waiting-grow [] answers left h = refl
    waiting-grow (p ∷ ps) answers left h =
        resume-grow ps (with_answer (search s start) (goals_of (nodes ++ more) (rest_of p.goals)) p.cursor p.pending answers left) h.1 ∙
        ap (λ gs. resume nodes s start ps (with_answer (search s start) gs p.cursor p.pending answers left))
        (goals_of-grow (rest_of p.goals) (rest-known p.goals h.0.known))

  module _ (m : Matching) (is : nodes ≡ m.nodes) (h : m.pattern.0 < length nodes) where
    abbrev wider : Matching
    wider = record m { nodes = nodes ++ more }

    later-grow : (start : ℕ) → later wider start ≡ later m start
    later-grow start =
        ap (λ t. map (λ b. search m.subject b (Match t ∷ []) b []) (later_starts m.anchored m.subject start)) (tree-append nodes more m.pattern.0 h) ∙
        ap (λ (n : List Node). map (λ b. search m.subject b (Match (tree n m.pattern.0) ∷ []) b []) (later_starts m.anchored m.subject start)) is

    to_come-grow : (state : State) (start : ℕ) (points : List Point) (answers : List Answer) (left : ℕ) → AllFit nodes m.subject points →
        to_come state wider start points answers left ≡ to_come state m start points answers left
    to_come-grow S.Going start points answers left f =
        ap (λ r. further r (later wider start)) (reading-grow m.subject start points answers left f
        ∙ ap (λ (n : List Node). remaining n m.subject start points answers left) is) ∙
        ap (further (remaining m.nodes m.subject start points answers left)) (later-grow start)
    to_come-grow S.Waiting start points answers left f =
        ap (λ r. further r (later wider start)) (waiting-grow m.subject start points answers left f
        ∙ ap (λ (n : List Node). waiting n m.subject start points answers left) is) ∙
        ap (further (waiting m.nodes m.subject start points answers left)) (later-grow start)
    to_come-grow (S.Ended event) start points answers left f = refl

  answers-grow : (answers : List (Option PatId)) → AnswersIn nodes answers → answers_of (nodes ++ more) answers ≡ answers_of nodes answers
  answers-grow [] h = refl
  answers-grow (None ∷ tail) h = ap (λ xs. None ∷ xs) (answers-grow tail h)
  answers-grow (Some id ∷ tail) h = ap (λ t. Some t ∷ answers_of (nodes ++ more) tail) (tree-append nodes more id.0 h.0)
      ∙ ap (λ xs. Some (tree nodes id.0) ∷ xs) (answers-grow tail h.1)

  answers_in-grow : (answers : List (Option PatId)) → AnswersIn nodes answers → AnswersIn (nodes ++ more) answers
  answers_in-grow [] h = tt
  answers_in-grow (None ∷ tail) h = answers_in-grow tail h
  answers_in-grow (Some id ∷ tail) h = (omega (arith, length-append nodes more, h.0), answers_in-grow tail h.1)

-- the table that is lent begins with the one before

module _ (m : Matching) (lent : List Node) (b : Begins m.nodes lent) where
  abbrev over_lent : List Node → Matching
  over_lent nodes = record m { nodes = nodes }

  pub grown_trace : m.pattern.0 < length m.nodes → AnswersIn m.nodes m.answers → trace_of (over_lent lent) ≡ trace_of m
  grown_trace h k =
      ap (λ (n : List Node). trace_of (over_lent n)) b.1 ∙
      ap (λ t. trace t m.subject m.anchored m.limit (answers_of (m.nodes ++ b.0) m.answers)) (tree-append m.nodes b.0 m.pattern.0 h) ∙
      ap (trace (tree m.nodes m.pattern.0) m.subject m.anchored m.limit) (answers-grow m.nodes b.0 m.answers k)

  pub grown : (start : ℕ) (points : List Point) (state : State) → IsMatch m start points state → IsMatch (over_lent lent) start points state
  grown start points state inv =
      subst (λ (n : List Node). IsMatch (over_lent n) start points state) (sym b.1)
      (record {
        pattern_in = omega (arith, length-append m.nodes b.0, inv.pattern_in);
        answers_in = answers_in-grow m.nodes b.0 m.answers inv.answers_in;
        steps_in = inv.steps_in;
        start_in = inv.start_in;
        stack = record { fit = fit-grow m.nodes b.0 m.subject points inv.stack.fit; marked = inv.stack.marked };
        cuts = cuts-grow m.nodes b.0 m.subject (m.limit - m.steps) points inv.stack.fit inv.cuts;
        asked = inv.asked;
        last_in = inv.last_in;
        points_in = inv.points_in;
        records_in = inv.records_in;
        events = inv.events;
        told = inv.told;
        pending = inv.pending;
        since = inv.since;
        story = λ more.
            ap (λ t. whole t m.subject m.anchored (answers_of (m.nodes ++ b.0) m.answers ++ more) m.limit)
            (tree-append m.nodes b.0 m.pattern.0 inv.pattern_in) ∙
            ap (λ given. whole (tree m.nodes m.pattern.0) m.subject m.anchored (given ++ more) m.limit) (answers-grow m.nodes b.0 m.answers inv.answers_in) ∙
            inv.story more ∙
            ap (emit inv.events) (sym (to_come-grow m.nodes b.0 m refl inv.pattern_in state start points more (m.limit - m.steps) inv.stack.fit));
      })
