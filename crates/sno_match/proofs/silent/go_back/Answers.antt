use Rattle.std.proofs.Common.{arith, ◌≡◌, ◌<◌, ◌+◌, length, ap, refl, sym, ◌∙◌}
use Rattle.sno_pattern.specs.Pattern.{Arbno}
use Rattle.sno_pattern.specs.Table.{tree}
use Rattle.sno_pattern.proofs.ShapeLaws.{end_of-range, IfSome-to}
use Rattle.sno_match.specs.declared.goal.Goal.TheVariants as N
use Rattle.sno_match.specs.declared.plan.Front.TheVariants.{One, Two}
use Rattle.sno_match.specs.declared.plan.Plan.TheVariants as P
use Rattle.sno_match.specs.inner.Plan.{end_plan}
use Rattle.sno_match.specs.Remaining.{body_of}
use Rattle.sno_match.proofs.PlanLaws as plans
use Rattle.sno_match.proofs.HandLaws.{did}
use Rattle.sno_match.proofs.silent.go_back.Goals as goal

pub take_end-requires-clause-next : goal.take_end-requires-clause-next
take_end-requires-clause-next c =
    let is_end = plans.ends_in c.args.patterns.now c.args.id.0 c.in-Ends.ensures.0.0 c.args.subject.now c.args.point.cursor c.args.at c.in-Ends.ensures.0.1
    c.requires.next in
    let number = plans.number_of c.args.patterns.now c.args.id.0 c.args.subject.now c.args.point.cursor c.args.at is_end in
    IfSome-to _ _ c.in-Ends.next (λ e within. omega (arith, within.1, c.requires.inside.1))
    (end_of-range (tree c.args.patterns.now c.args.id.0) c.args.subject.now c.args.point.cursor (number.0 + 1) c.in-Ends.next c.requires.inside.0
    (sym (c.in-Ends.ensures.1 c.args.point.cursor number.0 c.requires.inside.0 number.1)))

pub returns-else-not-has : goal.returns-else-not-has
returns-else-not-has c = λ pending holds.
    let is_end = plans.ends_in c.args.patterns.now c.args.id.0 c.in-Ends.ensures.0.0 c.args.subject.now c.args.point.cursor c.args.at c.in-Ends.ensures.0.1
    c.requires.next in
    let number = plans.number_of c.args.patterns.now c.args.id.0 c.args.subject.now c.args.point.cursor c.args.at is_end in
    did _ _ _ _ _ _ _ _ _ _ _ _ _ _ (end_plan c.args.at c.in-Ends.next)
    (plans.leaf_next c.args.patterns.now c.args.subject.now c.args.id c.in-Ends.ensures.0.0 c.args.point.cursor c.in-Ends.ensures.0.1 c.requires.inside.0
    number.0 c.args.at number.1 c.in-Ends.next (c.in-Ends.ensures.1 c.args.point.cursor number.0 c.requires.inside.0 number.1))
    (plans.leaf_scopes c.args.patterns.now c.args.id c.in-Ends.ensures.0.0 c.in-Ends.ensures.0.1 c.args.at c.in-Ends.next)
    (c.take_end.ensures pending holds)

pub returns-in-Alt : goal.returns-in-Alt
returns-in-Alt c = λ pending holds.
    let shape = rw c.in-Alt.is at c.in-Other.ensures in
    let q : c.in-Alt.q.0 < length c.args.patterns.now = omega (arith, shape.1, c.requires.known) in
    did _ _ _ _ _ _ _ _ _ _ _ _ _ _ (P.Replace (One (N.Match c.in-Alt.q)) c.args.point.cursor) (
      plans.alt_next c.args.patterns.now c.args.subject.now c.args.id c.args.point.cursor c.args.at c.in-Alt._p c.in-Alt.q shape.2,
      plans.alt_due c.args.patterns.now c.args.subject.now c.args.id c.args.point.cursor c.args.at (tree c.args.patterns.now c.in-Alt._p.0)
          (tree c.args.patterns.now c.in-Alt.q.0) shape.2,
      (q, tt),
      c.requires.inside.0,
    ) (refl, refl) (c.put_one.ensures pending c.args.below.now.items holds)

pub returns-in-Arbno : goal.returns-in-Arbno
returns-in-Arbno c = λ pending holds.
    let shape = rw c.in-Arbno.is at c.in-Other.ensures in
    let p : c.in-Arbno.p.0 < length c.args.patterns.now = omega (arith, shape.0, c.requires.known) in
    let is : tree c.args.patterns.now c.args.id.0 ≡ Arbno (body_of (tree c.args.patterns.now c.args.id.0)) =
    shape.1 ∙ ap (λ x. Arbno (body_of x)) (sym shape.1) in
    did _ _ _ _ _ _ _ _ _ _ _ _ _ _ (P.Replace (Two (N.Match c.in-Arbno.p) (N.CloseRepeat c.args.id c.args.point.cursor)) c.args.point.cursor) (
      plans.arbno_next c.args.patterns.now c.args.subject.now c.args.id c.args.point.cursor c.args.at c.in-Arbno.p shape.1,
      plans.arbno_due c.args.patterns.now c.args.subject.now c.args.id c.args.point.cursor c.args.at (tree c.args.patterns.now c.in-Arbno.p.0) shape.1,
      (p, ((c.requires.known, is), tt)),
      c.requires.inside.0,
    ) (refl, refl) (c.put_two.ensures pending c.args.below.now.items holds)
