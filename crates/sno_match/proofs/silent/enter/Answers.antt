use Rattle.std.proofs.Common.{arith, ◌<◌, length, Some, None, refl, sym, ◌∙◌}
use Rattle.sno_pattern.specs.Pattern.{Alt, Arbno}
use Rattle.sno_pattern.specs.Table.{tree}
use Rattle.sno_pattern.proofs.ShapeLaws.{end_of-range, IfSome-to}
use Rattle.sno_match.specs.declared.goal.Goal.TheVariants as N
use Rattle.sno_match.specs.declared.plan.Front.TheVariants.{Nothing, One, Two}
use Rattle.sno_match.specs.declared.plan.Plan.TheVariants as P
use Rattle.sno_match.specs.inner.Plan.{end_plan}
use Rattle.sno_match.proofs.PlanLaws as plans
use Rattle.sno_match.proofs.StepLaws.{plain}
use Rattle.sno_match.proofs.HandLaws.{did}
use Rattle.sno_match.proofs.silent.enter.Goals as goal

pub take_end-requires-clause-end : goal.take_end-requires-clause-end
take_end-requires-clause-end c =
    let within = end_of-range (tree c.args.patterns.now c.args.id.0) c.args.subject.now c.args.point.cursor 0 (Some c.in-Some.end) c.requires.inside.0
    (sym (c.in-Ends.ensures.1 ∙ c.in-Some.is)) in
    omega (arith, within.1, c.requires.inside.1)

pub take_end-requires-clause-next : goal.take_end-requires-clause-next
take_end-requires-clause-next c =
    IfSome-to _ _ c.in-Ends.next (λ e within. omega (arith, within.1, c.requires.inside.1))
    (end_of-range (tree c.args.patterns.now c.args.id.0) c.args.subject.now c.args.point.cursor 1 c.in-Ends.next c.requires.inside.0
    (sym c.in-Ends.ensures.2))

pub returns-in-None-clause-enters : goal.returns-in-None-clause-enters
returns-in-None-clause-enters c = λ pending holds. did _ _ _ _ _ _ _ _ _ _ _ _ _ _ P.Fail (
  plans.leaf_fail c.args.patterns.now c.args.subject.now c.args.id c.in-Ends.ensures.0.0 c.args.point.cursor c.in-Ends.ensures.0.1 c.requires.inside.0
      (c.in-Ends.ensures.1 ∙ c.in-None.is),
  plans.due-enter c.args.patterns.now c.args.subject.now (N.Match c.args.id) c.args.point.cursor,
) tt (c.drop_point.ensures pending holds)

pub returns-in-Some-clause-enters : goal.returns-in-Some-clause-enters
returns-in-Some-clause-enters c = λ pending holds. did _ _ _ _ _ _ _ _ _ _ _ _ _ _ (end_plan c.in-Some.end c.in-Ends.next)
    (plans.leaf_enter c.args.patterns.now c.args.subject.now c.args.id c.in-Ends.ensures.0.0 c.args.point.cursor c.in-Ends.ensures.0.1 c.requires.inside.0
    c.in-Some.end (c.in-Ends.ensures.1 ∙ c.in-Some.is) c.in-Ends.next c.in-Ends.ensures.2)
    (plans.leaf_scopes c.args.patterns.now c.args.id c.in-Ends.ensures.0.0 c.in-Ends.ensures.0.1 c.in-Some.end c.in-Ends.next)
    (c.take_end.ensures pending holds)

pub returns-in-None-look-clause-enters : goal.returns-in-None-look-clause-enters
returns-in-None-look-clause-enters c = λ pending holds.
    let shape = rw c.in-Primitive.is at c.in-Other.ensures in
    did _ _ _ _ _ _ _ _ _ _ _ _ _ _ P.Fail (
      plans.leaf_fail c.args.patterns.now c.args.subject.now c.args.id shape.0 c.args.point.cursor shape.1 c.requires.inside.0
          (sym c.look.ensures.value ∙ c.in-None-look.is),
      plans.due-enter c.args.patterns.now c.args.subject.now (N.Match c.args.id) c.args.point.cursor,
    ) tt (c.drop_point-in-None-look.ensures pending holds)

pub returns-in-Some-look-clause-enters : goal.returns-in-Some-look-clause-enters
returns-in-Some-look-clause-enters c = λ pending holds.
    let shape = rw c.in-Primitive.is at c.in-Other.ensures in
    let last = c.has_one_end.ensures c.if-not-has_one_end.false c.args.subject.now c.args.point.cursor in
    did _ _ _ _ _ _ _ _ _ _ _ _ _ _ (end_plan c.in-Some-look.end None)
    (plans.leaf_enter c.args.patterns.now c.args.subject.now c.args.id shape.0 c.args.point.cursor shape.1 c.requires.inside.0
    c.in-Some-look.end (sym c.look.ensures.value ∙ c.in-Some-look.is) None last)
    (plans.leaf_scopes c.args.patterns.now c.args.id shape.0 shape.1 c.in-Some-look.end None)
    (c.take_end-in-Some-look.ensures pending holds)

pub returns-in-Cat-clause-enters : goal.returns-in-Cat-clause-enters
returns-in-Cat-clause-enters c = λ pending holds.
    let shape = rw c.in-Cat.is at c.in-Other.ensures in
    let p : c.in-Cat.p.0 < length c.args.patterns.now = omega (arith, shape.0, c.requires.known) in
    let q : c.in-Cat.q.0 < length c.args.patterns.now = omega (arith, shape.1, c.requires.known) in
    did _ _ _ _ _ _ _ _ _ _ _ _ _ _ (P.Replace (Two (N.Match c.in-Cat.p) (N.Match c.in-Cat.q)) c.args.point.cursor) (
      plans.cat c.args.patterns.now c.args.subject.now c.args.id c.in-Cat.p c.in-Cat.q c.args.point.cursor shape.2,
      plans.due-enter c.args.patterns.now c.args.subject.now (N.Match c.args.id) c.args.point.cursor,
      (p, (q, tt)),
      c.requires.inside.0,
    ) (refl, refl) (c.put_two.ensures pending c.args.below.now.items holds)

pub returns-in-Cond-clause-enters : goal.returns-in-Cond-clause-enters
returns-in-Cond-clause-enters c = λ pending holds.
    let shape = rw c.in-Cond.is at c.in-Other.ensures in
    let p : c.in-Cond.p.0 < length c.args.patterns.now = omega (arith, shape.0, c.requires.known) in
    did _ _ _ _ _ _ _ _ _ _ _ _ _ _
    (P.Replace (Two (N.Match c.in-Cond.p) (N.CloseCond c.in-Cond.target c.args.point.cursor)) c.args.point.cursor) (
      plans.cond c.args.patterns.now c.args.subject.now c.args.id c.args.point.cursor c.in-Cond.p c.in-Cond.target shape.1,
      plans.due-enter c.args.patterns.now c.args.subject.now (N.Match c.args.id) c.args.point.cursor,
      (p, (tt, tt)),
      c.requires.inside.0,
    ) (refl, refl) (c.put_two-in-Cond.ensures pending c.args.below.now.items holds)

pub returns-else-is_empty-clause-enters : goal.returns-else-is_empty-clause-enters
returns-else-is_empty-clause-enters c = λ pending holds.
    let shape = rw c.in-Alt.is at c.in-Other.ensures in
    let p : c.in-Alt.p.0 < length c.args.patterns.now = omega (arith, shape.0, c.requires.known) in
    did _ _ _ _ _ _ _ _ _ _ _ _ _ _ (P.Branch (One (N.Match c.in-Alt.p)) c.args.point.cursor c.args.point.cursor) (
      plans.alt c.args.patterns.now c.args.subject.now c.args.id c.in-Alt.p c.in-Alt._q c.args.point.cursor shape.2,
      plans.due-enter c.args.patterns.now c.args.subject.now (N.Match c.args.id) c.args.point.cursor,
      (p, tt),
      c.requires.inside.0,
      plans.next_in c.args.patterns.now c.args.id.0 (Alt (tree c.args.patterns.now c.in-Alt.p.0) (tree c.args.patterns.now c.in-Alt._q.0)) c.args.subject.now
          c.args.point.cursor c.args.point.cursor shape.2 tt,
    ) (plain c.args.patterns.now c.args.id _ shape.2 (λ left depth. refl), refl) (c.stay_and_put.ensures pending holds)

pub returns-in-Arbno-clause-enters : goal.returns-in-Arbno-clause-enters
returns-in-Arbno-clause-enters c = λ pending holds.
    let shape = rw c.in-Arbno.is at c.in-Other.ensures in
    did _ _ _ _ _ _ _ _ _ _ _ _ _ _ (P.Branch Nothing c.args.point.cursor c.args.point.cursor) (
      plans.arbno c.args.patterns.now c.args.subject.now c.args.id c.args.point.cursor (tree c.args.patterns.now c.in-Arbno._p.0) shape.1,
      plans.due-enter c.args.patterns.now c.args.subject.now (N.Match c.args.id) c.args.point.cursor,
      tt,
      c.requires.inside.0,
      plans.next_in c.args.patterns.now c.args.id.0 (Arbno (tree c.args.patterns.now c.in-Arbno._p.0)) c.args.subject.now c.args.point.cursor
          c.args.point.cursor shape.1 tt,
    ) (plain c.args.patterns.now c.args.id _ shape.1 (λ left depth. refl), refl) (c.stay.ensures pending holds)
