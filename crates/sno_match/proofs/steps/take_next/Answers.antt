use Rattle.std.proofs.Common.{arith, ◌≡◌, ◌<◌, length, ap, sym, ◌∙◌, refl}
use Rattle.sno_pattern.specs.Pattern.{Arbno, Succeed}
use Rattle.sno_pattern.specs.Table.{tree}
use Rattle.sno_match.specs.declared.goal.Goal.TheVariants as N
use Rattle.sno_match.specs.declared.plan.Front.TheVariants.{Nothing, One, Two}
use Rattle.sno_match.specs.declared.plan.Plan.TheVariants as P
use Rattle.sno_match.specs.Remaining.{body_of}
use Rattle.sno_match.proofs.PlanLaws as plans
use Rattle.sno_match.proofs.StepLaws.{stepped, plain}
use Rattle.sno_match.proofs.steps.take_next.Goals as goal

pub returns-in-Alt-clause-ok : goal.returns-in-Alt-clause-ok
returns-in-Alt-clause-ok g c =
    let q : c.in-Alt.q.0 < length c.args.patterns.now = omega (arith, c.in-Alt.ensures.1) in
    stepped _ _ _ _ _ _ _ _ _ c.carry_out.result (P.Replace (One (N.Match c.in-Alt.q)) c.args.cursor) (
      plans.alt_next c.args.patterns.now c.args.subject.now c.args.id c.args.cursor c.args.at c.in-Alt._p c.in-Alt.q c.in-Alt.ensures.2,
      plans.alt_due c.args.patterns.now c.args.subject.now c.args.id c.args.cursor c.args.at (tree c.args.patterns.now c.in-Alt._p.0)
          (tree c.args.patterns.now c.in-Alt.q.0) c.in-Alt.ensures.2,
      (q, tt),
      c.requires.inside.0,
    ) (refl, refl) c.carry_out.ensures.ok

pub returns-in-Arbno-clause-ok : goal.returns-in-Arbno-clause-ok
returns-in-Arbno-clause-ok g c =
    let p : c.in-Arbno.p.0 < length c.args.patterns.now = omega (arith, c.in-Arbno.ensures.0) in
    let is : tree c.args.patterns.now c.args.id.0 ≡ Arbno (body_of (tree c.args.patterns.now c.args.id.0)) =
    c.in-Arbno.ensures.1 ∙ ap (λ x. Arbno (body_of x)) (sym c.in-Arbno.ensures.1) in
    stepped _ _ _ _ _ _ _ _ _ c.carry_out-in-Arbno.result (P.Replace (Two (N.Match c.in-Arbno.p) (N.CloseRepeat c.args.id c.args.cursor)) c.args.cursor) (
      plans.arbno_next c.args.patterns.now c.args.subject.now c.args.id c.args.cursor c.args.at c.in-Arbno.p c.in-Arbno.ensures.1,
      plans.arbno_due c.args.patterns.now c.args.subject.now c.args.id c.args.cursor c.args.at (tree c.args.patterns.now c.in-Arbno.p.0) c.in-Arbno.ensures.1,
      (p, ((c.requires.step.known, is), tt)),
      c.requires.inside.0,
    ) (refl, refl) c.carry_out-in-Arbno.ensures.ok

pub returns-in-Succeed-clause-ok : goal.returns-in-Succeed-clause-ok
returns-in-Succeed-clause-ok g c =
    stepped _ _ _ _ _ _ _ _ _ c.stay_and_go_on.result (P.Branch Nothing c.args.cursor c.args.cursor) (
      plans.succeed_next c.args.patterns.now c.args.subject.now c.args.id c.args.cursor c.args.at c.args.cursor c.in-Succeed.ensures,
      plans.succeed_due c.args.patterns.now c.args.subject.now c.args.id c.args.cursor c.args.at c.in-Succeed.ensures,
      tt,
      c.requires.inside.0,
      plans.next_in c.args.patterns.now c.args.id.0 Succeed c.args.subject.now c.args.cursor c.args.cursor c.in-Succeed.ensures tt,
    ) (plain c.args.patterns.now c.args.id _ c.in-Succeed.ensures (λ left depth. refl), refl) c.stay_and_go_on.ensures.ok

pub unreachable-requires : goal.unreachable-requires
unreachable-requires g c =
    plans.no_next c.args.patterns.now c.args.id.0 c.args.subject.now c.args.cursor c.args.at c.shape.result c.shape.ensures c.requires.step.next
    c.in_default.not-Primitive c.in_default.not-Alt c.in_default.not-Arbno c.in_default.not-Succeed
    (λ e. c.requires.step.due.0 (rw e at c.shape.ensures)) (λ p e. c.requires.step.due.1 _ (rw e at c.shape.ensures).1)

pub take_end-requires-clause-end : goal.take_end-requires-clause-end
take_end-requires-clause-end g c = (
  c.requires.step.known,
  plans.ends_in c.args.patterns.now c.args.id.0 c.in-Primitive.ensures.0 c.args.subject.now c.args.cursor c.args.at c.in-Primitive.ensures.1
      c.requires.step.next,
)

pub returns-in-Primitive-clause-ok : goal.returns-in-Primitive-clause-ok
returns-in-Primitive-clause-ok g c =
    let is_end = plans.ends_in c.args.patterns.now c.args.id.0 c.in-Primitive.ensures.0 c.args.subject.now c.args.cursor c.args.at
    c.in-Primitive.ensures.1 c.requires.step.next in
    let number = plans.number_of c.args.patterns.now c.args.id.0 c.args.subject.now c.args.cursor c.args.at is_end in
    stepped _ _ _ _ _ _ _ _ _ c.take_end.result _
    (plans.leaf_next c.args.patterns.now c.args.subject.now c.args.id c.in-Primitive.ensures.0 c.args.cursor c.in-Primitive.ensures.1 c.requires.inside.0
    number.0 c.args.at number.1 _ refl)
    (plans.leaf_scopes c.args.patterns.now c.args.id c.in-Primitive.ensures.0 c.in-Primitive.ensures.1 c.args.at _)
    (c.take_end.ensures.ok number.0 number.1)
