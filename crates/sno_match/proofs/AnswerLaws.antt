-- An answer takes the place of the deferred part.
use Rattle.std.proofs.Common.{◌≡◌, ℕ, ◌+◌, ◌-◌, ◌≤◌, ◌<◌, Bool, true, List, [], ◌∷◌, ◌++◌, Option, Some, None, length, take, IfSome, refl, sym, ◌∙◌, ap, subst}
use Rattle.std.proofs.Common.{arith, append_assoc, length-append}
use Rattle.std.proofs.lemmas.List.{map-append}
use Rattle.std.proofs.Math.Seq.{take-append_seam}
use Rattle.std.specs.Option.{option_map}
use Rattle.sno_value.specs.declared.ids.PatId.{PatId}
use Rattle.sno_pattern.specs.Table.{Node, tree}
use Rattle.sno_match.specs.declared.goal.Goal.{Goal as Numbered}
use Rattle.sno_match.specs.declared.goal.Goal.TheVariants as N
use Rattle.sno_match.specs.declared.event.Pending.{Pending}
use Rattle.sno_match.specs.declared.engine.State.{State}
use Rattle.sno_match.specs.declared.engine.State.TheVariants as S
use Rattle.sno_match.specs.Search.{Answer, emit, further, whole}
use Rattle.sno_match.specs.Point.{Point, with_front, rest_of, below, HasFirst}
use Rattle.sno_match.specs.Remaining.{AllKnown, AllMarked, Fits, IsStack}
use Rattle.sno_match.specs.Scopes.{HasCuts}
use Rattle.sno_match.specs.inner.Scopes.{FirstIsPlain}
use Rattle.sno_match.specs.inner.State.{waits}
use Rattle.sno_match.specs.inner.Move.{answered}
use Rattle.sno_match.specs.Matching.{Matching, answers_of, told_of, IsCounted, Begins}
use Rattle.sno_match.specs.inner.Running.{to_come, later, seen, IsMatch, AnswersIn}
use Rattle.sno_match.proofs.ReadingLaws.{resume-exhausted}
use Rattle.sno_match.proofs.MoveLaws.{below-kept}
use Rattle.sno_match.proofs.CutMoves.{cuts-below}
use Rattle.sno_match.proofs.CountLaws.{told_is, match_counted}
use Rattle.sno_match.proofs.GrowLaws.{grown, grown_trace}

abbrev pub answer_of : List Node → Option PatId → Answer
answer_of nodes given = option_map (λ (id : PatId). tree nodes id.0) given

pub AnswersIn-append : (nodes : List Node) (answers : List (Option PatId)) (given : Option PatId) → AnswersIn nodes answers
    → IfSome given (λ id. id.0 < length nodes) → AnswersIn nodes (answers ++ given ∷ [])
AnswersIn-append nodes [] None h k = tt
AnswersIn-append nodes [] (Some id) h k = (k, tt)
AnswersIn-append nodes (None ∷ rest) given h k = AnswersIn-append nodes rest given h k
AnswersIn-append nodes (Some x ∷ rest) given h k = (h.0, AnswersIn-append nodes rest given h.1 k)

pub answers_of-append : (nodes : List Node) (answers : List (Option PatId)) (given : Option PatId) (more : List Answer)
    → answers_of nodes (answers ++ given ∷ []) ++ more ≡ answers_of nodes answers ++ (answer_of nodes given ∷ more)
answers_of-append nodes answers given more =
    ap (λ (as' : List Answer). as' ++ more) (map-append (answer_of nodes) answers (given ∷ [])) ∙ append_assoc (answers_of nodes answers)
    (answer_of nodes given ∷ []) more

pub answered_come : (m : Matching) (start : ℕ) (points : List Point) (given : Option PatId) → HasFirst points → AllMarked (below points)
    → (more : List Answer) (left : ℕ) →
    to_come S.Waiting m start points (answer_of m.nodes given ∷ more) left ≡ to_come S.Going m start (answered given points) more left
answered_come m start [] given h k more left = elim h [ ]
answered_come m start (point ∷ rest) None h k more left = ap (λ r. further r (later m start)) (resume-exhausted m.nodes m.subject start rest more left k)
answered_come m start (point ∷ rest) (Some id) h k more left = refl

rest-known : (nodes : List Node) (s : List ℕ) (id : PatId) (point : Point) → id.0 < length nodes → Fits nodes s point
    → Fits nodes s (with_front (N.Match id ∷ []) point.cursor point)
rest-known nodes s id point h f = record { known = (h, known-rest point.goals f.known); inside = f.inside; next = tt }
  where
    known-rest : (gs : List Numbered) → AllKnown nodes gs → AllKnown nodes (rest_of gs)
    known-rest [] k = tt
    known-rest (g ∷ gs) k = k.1

pub answered-stack : (nodes : List Node) (s : List ℕ) (points : List Point) (given : Option PatId) → IfSome given (λ id. id.0 < length nodes) → HasFirst points
    → IsStack nodes s points → IsStack nodes s (answered given points)
answered-stack nodes s [] given k h st = elim h [ ]
answered-stack nodes s (point ∷ rest) None k h st = below-kept nodes s (point ∷ rest) st.fit st.marked
answered-stack nodes s (point ∷ rest) (Some id) k h st = record { fit = (rest-known nodes s id point k st.fit.0, st.fit.1); marked = st.marked }

pub answered-cuts : (nodes : List Node) (left : ℕ) (points : List Point) (given : Option PatId) → FirstIsPlain points → HasCuts nodes left points
    → HasCuts nodes left (answered given points)
answered-cuts nodes left points None h k = cuts-below nodes left points k
answered-cuts nodes left [] (Some id) h k = k
answered-cuts nodes left (point ∷ rest) (Some id) h k =
    record { scoped = (h ∙ k.scoped.0, k.scoped.1); rising = (cuts-below nodes left (point ∷ rest) k).rising }

pub answered-few : (points : List Point) (given : Option PatId) → length (answered given points) ≤ length points
answered-few [] None = omega arith
answered-few [] (Some id) = omega arith
answered-few (point ∷ rest) None = omega arith
answered-few (point ∷ rest) (Some id) = omega arith

module _ (m : Matching) (start : ℕ) (points : List Point) (inv : IsMatch m start points S.Waiting) (given : Option PatId)
    (known : IfSome given (λ id. id.0 < length m.nodes)) (new : List Point) (is : new ≡ answered given points) (records : ℕ)
    (few : records ≤ m.records + 1) where
  abbrev answered_so : Matching
  answered_so = seen m.nodes m.pattern m.subject m.anchored m.limit (m.answers ++ given ∷ []) m.told m.steps S.Going m.way new records

  abbrev pub answered_match : IsMatch answered_so start new S.Going
  answered_match = record {
    pattern_in = inv.pattern_in;
    answers_in = AnswersIn-append m.nodes m.answers given inv.answers_in known;
    steps_in = inv.steps_in;
    start_in = inv.start_in;
    stack = subst (λ (ps : List Point). IsStack m.nodes m.subject ps) (sym is) (answered-stack m.nodes m.subject points given known inv.asked.0 inv.stack);
    cuts = subst (HasCuts m.nodes (m.limit - m.steps)) (sym is) (answered-cuts m.nodes (m.limit - m.steps) points given inv.asked.1 inv.cuts);
    asked = tt;
    last_in = tt;
    points_in = omega (arith, inv.points_in, answered-few points given, ap length is);
    records_in = omega (arith, inv.records_in, few);
    events = inv.events;
    told = inv.told;
    pending = inv.pending;
    since = inv.since;
    story = λ more.
        ap (λ (as' : List Answer). whole (tree m.nodes m.pattern.0) m.subject m.anchored as' m.limit) (answers_of-append m.nodes m.answers given more) ∙
        inv.story (answer_of m.nodes given ∷ more) ∙
        ap (emit inv.events) (answered_come m start points given inv.asked.0 inv.stack.marked more (m.limit - m.steps)
        ∙ ap (λ (ps : List Point). to_come S.Going m start ps more (m.limit - m.steps)) (sym is));
  }

  -- no event that was told changes
  pub answered_told : told_of answered_so ≡ told_of m
  answered_told = told_is answered_so start new S.Going answered_match ∙ sym (told_is m start points S.Waiting inv)

-- an element that was pushed is taken back
pub taken_back : {X : Type 0} (xs ys zs : List X) (x : X) (n : ℕ) → ys ≡ xs ++ x ∷ [] → n ≡ length ys → zs ≡ take (n - 1) ys → zs ≡ xs
taken_back xs ys zs x n e f g =
    let size : n - 1 ≡ length xs = omega (arith, f, ap length e, length-append xs (x ∷ [])) in
    g ∙ ap (λ (k : ℕ). take k ys) size ∙ ap (take (length xs)) e ∙ take-append_seam xs (x ∷ [])

waiting_of : (state : State) → waits state ≡ true → state ≡ S.Waiting
waiting_of S.Going h = absurd (cc)
waiting_of S.Waiting h = refl
waiting_of (S.Ended event) h = absurd (cc)

-- a match that waits, seen as o, is lent the table of this call

module _ (o : Matching) (nodes : List Node) (pattern : PatId) (s : List ℕ) (anchored : Bool) (limit : ℕ) (answers : List (Option PatId)) (told steps : ℕ)
    (state : State) (way : List Pending) (points : List Point) (records start : ℕ)
    (view : seen nodes pattern s anchored limit answers told steps state way points records ≡ o)
    (inv : IsMatch (seen nodes pattern s anchored limit answers told steps state way points records) start points state)
    (lent patterns : List Node) (is : lent ≡ patterns) (table : Begins o.nodes patterns) (asked : o.waits ≡ true) where
  abbrev over_table : List Node → State → Matching
  over_table n st = seen n pattern s anchored limit answers told steps st way points records

  begins_with : Begins nodes lent
  begins_with = (table.0, is ∙ table.1 ∙ ap (λ (x : Matching). x.nodes ++ table.0) (sym view))

  pub waiting_state : state ≡ S.Waiting
  waiting_state = waiting_of state (ap (λ (x : Matching). x.waits) view ∙ asked)

  lent_match : IsMatch (over_table lent state) start points state
  lent_match = grown (over_table nodes state) lent begins_with start points state inv

  inv_waiting : IsMatch (over_table lent S.Waiting) start points S.Waiting
  inv_waiting = subst (λ (st : State). IsMatch (over_table lent st) start points st) waiting_state lent_match

  pub first_point_waits : HasFirst points
  first_point_waits = inv_waiting.asked.0

  -- nothing was answered
  pub unanswered : IsMatch (over_table lent state) start points state × (told_of (over_table lent state) ≡ told_of o) × IsCounted (over_table lent state)
  unanswered = (
    lent_match,
    ap (take told) (grown_trace (over_table nodes state) lent begins_with inv.pattern_in inv.answers_in) ∙ ap told_of view,
    match_counted (over_table lent state) start points state lent_match refl,
  )

  module _ (given : Option PatId) (known : IfSome given (λ id. id.0 < length patterns)) (new : List Point) (after : new ≡ answered given points)
      (new_records : ℕ) (few : new_records ≤ records + 1) where
    known_here : IfSome given (λ id. id.0 < length lent)
    known_here = subst (λ (n : List Node). IfSome given (λ id. id.0 < length n)) (sym is) known

    abbrev answered_as : Matching
    answered_as = seen lent pattern s anchored limit (answers ++ given ∷ []) told steps S.Going way new new_records

    pub answered_all : IsMatch answered_as start new S.Going × (told_of answered_as ≡ told_of o) × IsCounted answered_as
    answered_all =
        let kept = answered_match (over_table lent S.Waiting) start points inv_waiting given known_here new after new_records few in (
          kept,
          answered_told (over_table lent S.Waiting) start points inv_waiting given known_here new after new_records few ∙
              ap (take told) (grown_trace (over_table nodes state) lent begins_with inv.pattern_in inv.answers_in) ∙ ap told_of view,
          match_counted answered_as start new S.Going kept refl,
        )
