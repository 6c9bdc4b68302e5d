use Rattle.std.proofs.Common.{refl}
use Rattle.sno_match.specs.declared.goal.Goal.TheVariants as N
use Rattle.sno_match.specs.declared.plan.Front.TheVariants.{One}
use Rattle.sno_match.specs.declared.plan.Plan.TheVariants as P
use Rattle.sno_match.proofs.PlanLaws as plans
use Rattle.sno_match.proofs.HandLaws.{did}
use Rattle.sno_match.proofs.silent.enter_goal.Goals as goal

pub returns-in-CloseCond-clause-enters : goal.returns-in-CloseCond-clause-enters
returns-in-CloseCond-clause-enters c =
    rw c.in-CloseCond.is (did _ _ _ _ _ _ _ _ _ _ _ _ _ _
    (P.Close (record { target = c.in-CloseCond.target; start = c.in-CloseCond.start; end = c.args.point.cursor })) (
      plans.close_cond c.args.patterns.now c.args.subject.now c.in-CloseCond.target c.in-CloseCond.start c.args.point.cursor,
      plans.due-enter c.args.patterns.now c.args.subject.now (N.CloseCond c.in-CloseCond.target c.in-CloseCond.start) c.args.point.cursor,
    ) refl (c.close.ensures c.args.records.now.items c.args.below.now.items c.requires.behind c.requires.holds))

pub returns-then-point-start-clause-enters : goal.returns-then-point-start-clause-enters
returns-then-point-start-clause-enters c =
    rw c.in-CloseRepeat.is (did _ _ _ _ _ _ _ _ _ _ _ _ _ _ P.Fail (
      plans.repeat_fail c.args.patterns.now c.args.subject.now c.in-CloseRepeat.arbno c.in-CloseRepeat.start c.args.point.cursor c.if-point-start.true,
      plans.due-enter c.args.patterns.now c.args.subject.now (N.CloseRepeat c.in-CloseRepeat.arbno c.in-CloseRepeat.start) c.args.point.cursor,
    ) tt (c.drop_point.ensures c.args.pending.now.items c.requires.holds))

pub returns-else-point-start-clause-enters : goal.returns-else-point-start-clause-enters
returns-else-point-start-clause-enters c =
    let known = rw c.in-CloseRepeat.is at c.requires.known in
    rw c.in-CloseRepeat.is (did _ _ _ _ _ _ _ _ _ _ _ _ _ _ (P.Replace (One (N.Match c.in-CloseRepeat.arbno)) c.args.point.cursor) (
      plans.repeat c.args.patterns.now c.args.subject.now c.in-CloseRepeat.arbno c.in-CloseRepeat.start c.args.point.cursor c.if-point-start.false known.1,
      plans.due-enter c.args.patterns.now c.args.subject.now (N.CloseRepeat c.in-CloseRepeat.arbno c.in-CloseRepeat.start) c.args.point.cursor,
      (known.0, tt),
      c.requires.inside.0,
    ) (refl, refl) (c.put_one.ensures c.args.pending.now.items c.args.below.now.items c.requires.holds))
