use Rattle.std.proofs.Common.{sym, ◌∙◌, refl, None}
use Rattle.sno_match.specs.declared.goal.Goal.TheVariants as N
use Rattle.sno_match.specs.declared.plan.Plan.TheVariants as P
use Rattle.sno_match.specs.inner.Plan.{end_plan}
use Rattle.sno_match.proofs.PlanLaws as plans
use Rattle.sno_match.proofs.StepLaws.{stepped}
use Rattle.sno_match.proofs.steps.enter_primitive.Goals as goal

pub take_end-requires-clause-end : goal.take_end-requires-clause-end
take_end-requires-clause-end g c = (
  c.requires.known,
  plans.end_in c.args.patterns.now c.args.id.0 c.args.subject.now c.args.cursor 0 c.in-Some.end (sym c.look.ensures.value ∙ c.in-Some.is),
)

pub returns-in-None-clause-ok : goal.returns-in-None-clause-ok
returns-in-None-clause-ok g c =
    stepped _ _ _ _ _ _ _ _ _ c.carry_out.result P.Fail (
      plans.leaf_fail c.args.patterns.now c.args.subject.now c.args.id c.requires.primitive.0 c.args.cursor c.requires.primitive.1 c.requires.inside
          (sym c.look.ensures.value ∙ c.in-None.is),
      plans.due-enter c.args.patterns.now c.args.subject.now (N.Match c.args.id) c.args.cursor,
    ) tt c.carry_out.ensures.ok

pub returns-then-has_one_end-clause-ok : goal.returns-then-has_one_end-clause-ok
returns-then-has_one_end-clause-ok g c =
    let here = sym c.look.ensures.value ∙ c.in-Some.is in
    let last = c.has_one_end.ensures c.if-has_one_end.true c.args.subject.now c.args.cursor in
    stepped _ _ _ _ _ _ _ _ _ c.carry_out-then-has_one_end.result (end_plan c.in-Some.end None)
    (plans.leaf_enter c.args.patterns.now c.args.subject.now c.args.id c.requires.primitive.0 c.args.cursor c.requires.primitive.1 c.requires.inside
    c.in-Some.end here None last)
    (plans.leaf_scopes c.args.patterns.now c.args.id c.requires.primitive.0 c.requires.primitive.1 c.in-Some.end None)
    c.carry_out-then-has_one_end.ensures.ok

pub returns-else-has_one_end-clause-ok : goal.returns-else-has_one_end-clause-ok
returns-else-has_one_end-clause-ok g c =
    let here = sym c.look.ensures.value ∙ c.in-Some.is in
    stepped _ _ _ _ _ _ _ _ _ c.take_end.result _
    (plans.leaf_enter c.args.patterns.now c.args.subject.now c.args.id c.requires.primitive.0 c.args.cursor c.requires.primitive.1 c.requires.inside
    c.in-Some.end here _ refl)
    (plans.leaf_scopes c.args.patterns.now c.args.id c.requires.primitive.0 c.requires.primitive.1 c.in-Some.end _)
    (c.take_end.ensures.ok 0 here)
