use Rattle.sno_match.specs.declared.goal.Goal.TheVariants as N
use Rattle.sno_match.specs.declared.plan.Front.TheVariants.{One}
use Rattle.sno_match.specs.declared.plan.Plan.TheVariants as P
use Rattle.sno_match.proofs.PlanLaws as plans
use Rattle.sno_match.proofs.StepLaws.{stepped}
use Rattle.std.proofs.Common.{suc, refl, subst}
use Rattle.sno_match.specs.Scopes.{RiseFrom}
use Rattle.sno_match.proofs.CutLaws.{close-cut}
use Rattle.sno_match.proofs.steps.enter_goal.Goals as goal

pub returns-in-CloseCond-clause-ok : goal.returns-in-CloseCond-clause-ok
returns-in-CloseCond-clause-ok g c =
    rw c.in-CloseCond.is (stepped _ _ _ _ _ _ _ _ _ c.carry_out.result
    (P.Close (record { target = c.in-CloseCond.target; start = c.in-CloseCond.start; end = c.args.cursor })) (
      plans.close_cond c.args.patterns.now c.args.subject.now c.in-CloseCond.target c.in-CloseCond.start c.args.cursor,
      plans.due-enter c.args.patterns.now c.args.subject.now (N.CloseCond c.in-CloseCond.target c.in-CloseCond.start) c.args.cursor,
    ) refl c.carry_out.ensures.ok)

pub returns-in-CloseImm-clause-ok : goal.returns-in-CloseImm-clause-ok
returns-in-CloseImm-clause-ok g c =
    rw c.in-CloseImm.is (stepped _ _ _ _ _ _ _ _ _ c.carry_out-in-CloseImm.result
    (P.Assign (record { target = c.in-CloseImm.target; start = c.in-CloseImm.start; end = c.args.cursor })) (
      plans.close_imm c.args.patterns.now c.args.subject.now c.in-CloseImm.target c.in-CloseImm.start c.args.cursor,
      plans.due-enter c.args.patterns.now c.args.subject.now (N.CloseImm c.in-CloseImm.target c.in-CloseImm.start) c.args.cursor,
    ) refl c.carry_out-in-CloseImm.ensures.ok)

pub returns-then-cursor-start-clause-ok : goal.returns-then-cursor-start-clause-ok
returns-then-cursor-start-clause-ok g c =
    rw c.in-CloseRepeat.is (stepped _ _ _ _ _ _ _ _ _ c.carry_out-then-cursor-start.result P.Fail (
      plans.repeat_fail c.args.patterns.now c.args.subject.now c.in-CloseRepeat.arbno c.in-CloseRepeat.start c.args.cursor c.if-cursor-start.true,
      plans.due-enter c.args.patterns.now c.args.subject.now (N.CloseRepeat c.in-CloseRepeat.arbno c.in-CloseRepeat.start) c.args.cursor,
    ) tt c.carry_out-then-cursor-start.ensures.ok)

pub returns-else-cursor-start-clause-ok : goal.returns-else-cursor-start-clause-ok
returns-else-cursor-start-clause-ok g c =
    let known = rw c.in-CloseRepeat.is at c.requires.known in
    rw c.in-CloseRepeat.is (stepped _ _ _ _ _ _ _ _ _ c.carry_out-else-cursor-start.result (P.Replace (One (N.Match c.in-CloseRepeat.arbno)) c.args.cursor) (
      plans.repeat c.args.patterns.now c.args.subject.now c.in-CloseRepeat.arbno c.in-CloseRepeat.start c.args.cursor c.if-cursor-start.false known.1,
      plans.due-enter c.args.patterns.now c.args.subject.now (N.CloseRepeat c.in-CloseRepeat.arbno c.in-CloseRepeat.start) c.args.cursor,
      (known.0, tt),
      c.requires.inside.0,
    ) (refl, refl) c.carry_out-else-cursor-start.ensures.ok)

pub returns-in-CloseCut-clause-ok : goal.returns-in-CloseCut-clause-ok
returns-in-CloseCut-clause-ok g c =
    rw c.in-CloseCut.is (stepped _ _ _ _ _ _ _ _ _ c.carry_out-in-CloseCut.result (P.CloseCut c.in-CloseCut.depth) (
      (λ start left rest pending below answers h r.
          close-cut c.args.subject.now start c.args.patterns.now c.in-CloseCut._left c.in-CloseCut.depth rest c.args.cursor pending below answers left h
          (subst (RiseFrom (suc left)) h r).1),
      plans.due-enter c.args.patterns.now c.args.subject.now (N.CloseCut c.in-CloseCut._left c.in-CloseCut.depth) c.args.cursor,
      (c.in-CloseCut._left, refl),
    ) tt c.carry_out-in-CloseCut.ensures.ok)
