-- What stands behind an ARB, and how its next ends are passed.
use Rattle.std.proofs.Common.{◌≡◌, ℕ, suc, ◌+◌, ◌*◌, ◌-◌, ◌<◌, ◌≤◌, false, List, [], ◌∷◌, ◌++◌, Option, Some, length, map, reverse, take, refl, sym, ◌∙◌, ap, subst, arith}
use Rattle.sno_value.specs.declared.ids.PatId.{PatId}
use Rattle.sno_value.specs.declared.value.Name.{Name}
use Rattle.sno_pattern.specs.Pattern.{Pattern, Leaf, Arb}
use Rattle.sno_pattern.specs.Places.{has_end, stands_at, BeginsWith}
use Rattle.sno_pattern.specs.Shape.{IsPrimitive}
use Rattle.sno_pattern.specs.Table.{Node, tree}
use Rattle.sno_pattern.proofs.NextEndLaws.{ends_of-within}
use Rattle.sno_match.specs.declared.arb.Behind.{Behind}
use Rattle.sno_match.specs.declared.arb.Jump.{Jump}
use Rattle.sno_match.specs.declared.event.Pending.{Pending}
use Rattle.sno_match.specs.declared.goal.Goal.{Goal}
use Rattle.sno_match.specs.declared.goal.Goal.TheVariants as N
use Rattle.sno_match.specs.declared.goal.Mark.{Mark}
use Rattle.sno_match.specs.declared.goal.Mark.TheVariants.{Next}
use Rattle.sno_match.specs.declared.records.GoalRecord.{GoalRecord}
use Rattle.sno_match.specs.declared.shared.Held.{Held}
use Rattle.sno_match.specs.Point.{Point}
use Rattle.sno_match.specs.Search.{CloseCond, search}
use Rattle.sno_match.specs.Remaining.{AllKnown, HasNext, IsStack, goals_of}
use Rattle.sno_match.specs.Scopes.{HasCuts}
use Rattle.sno_match.specs.Silent.{LeadsOn}
use Rattle.sno_match.specs.inner.Arb.{StandsBehind, JumpsOver, PassesEnds}
use Rattle.sno_match.specs.inner.Plan.{point_at}
use Rattle.sno_match.specs.inner.Shared.{goals_of as goals_in, Holds, marked, point_of, points_of}
use Rattle.sno_match.specs.inner.Starts.{FailsAt, FailsWith, GoalsFail}
use Rattle.sno_match.proofs.ArbLaws.{ends_passed}
use Rattle.sno_match.proofs.PartLaws.{no_step}
use Rattle.sno_match.proofs.SearchLaws.{search-step}
use Rattle.sno_match.proofs.StartLaws.{begins_outside, head_fails, outside_under}

module _ (nodes : List Node) where
  match_fails : (id : PatId) (rest : List Goal) (s : List ℕ) (price e : ℕ) → FailsAt (tree nodes id.0) s price e
      → GoalsFail s (goals_of nodes (N.Match id ∷ rest)) (price + 0) e
  match_fails id rest s price e vain = record {
    fails = λ start pending answers due left paid. vain.fails start (goals_of nodes rest) pending answers due left (omega (arith, paid));
  }

  close_fails : (target : Name) (from : ℕ) (id : PatId) (rest : List Goal) (s : List ℕ) (price e : ℕ) → FailsAt (tree nodes id.0) s price e
      → GoalsFail s (goals_of nodes (N.CloseCond target from ∷ N.Match id ∷ rest)) (price + 1) e
  close_fails target from id rest s price e vain = record {
    fails = λ start pending answers due left paid.
        let goals = goals_of nodes (N.Match id ∷ rest) in
        let same : due ≡ suc (left + price) = omega (arith, paid) in
        ap (λ n. search s start (CloseCond target from ∷ goals) e pending answers n) same
        ∙ search-step s start (CloseCond target from) goals e pending answers (left + price)
        ∙ vain.fails start (goals_of nodes rest) (pending ++ record { target = target; start = from; end = e } ∷ []) answers (left + price) left refl;
  }

  pub match_behind : (goals rest more : List Goal) (arb id : PatId) → goals ≡ N.Match arb ∷ rest → rest ≡ N.Match id ∷ more
      → tree nodes arb.0 ≡ Leaf Arb → AllKnown nodes goals → StandsBehind nodes goals (record { id = id; closes = 0 })
  match_behind goals rest more arb id first next is known =
      let all = subst (AllKnown nodes) (first ∙ ap (λ gs. N.Match arb ∷ gs) next) known in
      (arb, rest, first, is, all.1.0, omega arith, λ s price e vain. subst (λ gs. GoalsFail s (goals_of nodes gs) (price + 0) e) (sym next) (match_fails id more s price e vain))

  pub close_behind : (goals rest more others : List Goal) (arb id : PatId) (target : Name) (from : ℕ) → goals ≡ N.Match arb ∷ rest
      → rest ≡ N.CloseCond target from ∷ more → more ≡ N.Match id ∷ others → tree nodes arb.0 ≡ Leaf Arb → AllKnown nodes goals
      → StandsBehind nodes goals (record { id = id; closes = 1 })
  close_behind goals rest more others arb id target from first next last is known =
      let behind = next ∙ ap (λ gs. N.CloseCond target from ∷ gs) last in
      let all = subst (AllKnown nodes) (first ∙ ap (λ gs. N.Match arb ∷ gs) behind) known in (
        arb,
        rest,
        first,
        is,
        all.1.1.0,
        omega arith,
        λ s price e vain. subst (λ gs. GoalsFail s (goals_of nodes gs) (price + 1) e) (sym behind) (close_fails target from id others s price e vain),
      )

  module _ (s : List ℕ) (records : List GoalRecord) (pending : List Pending) (below : List Held) (point : Held) where
    abbrev shown : List Goal → Mark → Point
    shown goals mark = record { goals = goals; cursor = point.cursor; pending = take point.assigned pending; mark = mark }

    there : (next : Option ℕ) (at : ℕ) (arb : PatId) (rest : List Goal) → goals_in records point.goals ≡ N.Match arb ∷ rest → next ≡ Some at
        → points_of records pending (Some (record point { next = next })) below
        ≡ point_at (N.Match arb) rest point.cursor (take point.assigned pending) (Next at) ∷ map (point_of records pending) (reverse below)
    there next at arb rest first is =
        let one : shown (goals_in records point.goals) (marked next) ≡ shown (N.Match arb ∷ rest) (Next at) =
        ap (λ goals. shown goals (marked next)) first ∙ ap (λ n. shown (N.Match arb ∷ rest) (marked n)) is in
        ap (λ p. p ∷ map (point_of records pending) (reverse below)) one

    pub arb_passes : (at place : ℕ) (b : Behind) (each left price : ℕ) → Holds records pending (Some point) below
        → IsStack nodes s (points_of records pending (Some point) below) → point.next ≡ Some at → StandsBehind nodes (goals_in records point.goals) b
        → at ≤ place → place ≤ length s → ((e : ℕ) → at ≤ e → e < place → FailsAt (tree nodes b.id.0) s each e)
        → price ≡ (place - at) * (each + b.closes + 1) → price ≤ left
        → PassesEnds nodes s records pending below (Some point) (Some (record point { next = Some place })) left price
    arb_passes at place b each left price holds st is stands from until vain paid room =
        let arb = stands.0 in
        let rest = stands.1 in
        let old = there point.next at arb rest stands.2 is in
        let new = there (Some place) place arb rest stands.2 refl in
        let under = map (point_of records pending) (reverse below) in
        let here = subst (IsStack nodes s) old st in
        let next = subst (λ q. HasNext q s point.cursor at) stands.3 here.fit.0.next in
        let within = ends_of-within (Leaf Arb) s point.cursor at here.fit.0.inside next in (
          record { falls = holds.falls; fits = holds.fits },
          λ limit steps same inside cuts.
              subst (λ ps. LeadsOn nodes s limit ps steps (points_of records pending (Some (record point { next = Some place })) below) (steps + price)) (sym old)
              (subst (λ ps. LeadsOn nodes s limit (point_at (N.Match arb) rest point.cursor (take point.assigned pending) (Next at) ∷ under) steps ps (steps + price)) (sym new)
              (ends_passed nodes s limit steps arb rest point.cursor (take point.assigned pending) under at place (each + b.closes) price stands.3
              (omega (arith, within.0)) from until (λ e low high. stands.6 s each e (vain e low high)) paid (omega (arith, room, same, inside)) here
              (subst (HasCuts nodes (limit - steps)) old cuts))),
        )

-- what the beginning of a pattern tells
module _ (p head : Pattern) (s : List ℕ) (above closes at left most : ℕ) (jump : Jump) (with_head : FailsWith p head above) where
  pub primitive_jumps : IsPrimitive head → JumpsOver (λ e. has_end head s e ≡ false) at (above + 2 + closes) left most jump
      → JumpsOver (FailsAt p s (1 + above)) at (1 + above + closes + 1) left most jump
  primitive_jumps leaf j =
      let each : above + 2 + closes ≡ 1 + above + closes + 1 = omega arith in
      (j.0, j.1, λ e low high. head_fails p head s above e leaf with_head (j.2 e low high), j.3 ∙ ap (λ n. (jump.place - at) * n) each, j.4)

  pub choice_jumps : (set : List ℕ) (steps : ℕ) → BeginsWith set steps head → JumpsOver (λ e. stands_at set s e ≡ false) at (steps + above + 1 + closes) left most jump
      → JumpsOver (FailsAt p s (steps + above)) at (steps + above + closes + 1) left most jump
  choice_jumps set steps begins j =
      let each : steps + above + 1 + closes ≡ steps + above + closes + 1 = omega arith in
      let outside = outside_under p head set steps above with_head (begins_outside set head steps begins) in
      (j.0, j.1, λ e low high. outside.outside s e (j.2 e low high), j.3 ∙ ap (λ n. (jump.place - at) * n) each, j.4)

-- nothing is passed
pub none_passed : (nodes : List Node) (s : List ℕ) (records : List GoalRecord) (pending : List Pending) (below : List Held) (top : Option Held) (left : ℕ)
    → Holds records pending top below → IsStack nodes s (points_of records pending top below) → PassesEnds nodes s records pending below top top left 0
none_passed nodes s records pending below top left holds st = (
  holds,
  λ limit steps same inside cuts.
      let here : steps ≡ steps + 0 = omega arith in
      subst (λ n. LeadsOn nodes s limit (points_of records pending top below) steps (points_of records pending top below) n) here
      (no_step nodes s limit (points_of records pending top below) steps inside st cuts),
)
