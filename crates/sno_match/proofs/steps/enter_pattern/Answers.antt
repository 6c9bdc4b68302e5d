use Rattle.std.proofs.Common.{arith, ◌<◌, length, Some, None}
use Rattle.sno_pattern.specs.Pattern.{Alt, Arbno, Fence, Succeed}
use Rattle.sno_pattern.specs.Table.{tree}
use Rattle.sno_match.specs.declared.goal.Goal.TheVariants as N
use Rattle.sno_match.specs.declared.plan.Front.TheVariants.{Nothing, One, Two}
use Rattle.sno_match.specs.declared.plan.Plan.TheVariants as P
use Rattle.sno_match.proofs.StepLaws.{stepped, plain}
use Rattle.sno_match.proofs.PlanLaws as plans
use Rattle.std.proofs.Common.{refl}
use Rattle.sno_match.proofs.CutLaws.{enter-cut}
use Rattle.sno_match.proofs.steps.enter_pattern.Goals as goal

pub returns-in-Cat-clause-ok : goal.returns-in-Cat-clause-ok
returns-in-Cat-clause-ok g c =
    let p : c.in-Cat.p.0 < length c.args.patterns.now = omega (arith, c.in-Cat.ensures.0) in
    let q : c.in-Cat.q.0 < length c.args.patterns.now = omega (arith, c.in-Cat.ensures.1) in
    stepped _ _ _ _ _ _ _ _ _ c.carry_out.result (P.Replace (Two (N.Match c.in-Cat.p) (N.Match c.in-Cat.q)) c.args.cursor) (
      plans.cat c.args.patterns.now c.args.subject.now c.args.id c.in-Cat.p c.in-Cat.q c.args.cursor c.in-Cat.ensures.2,
      plans.due-enter c.args.patterns.now c.args.subject.now (N.Match c.args.id) c.args.cursor,
      (p, (q, tt)),
      c.requires.inside.0,
    ) (refl, refl) c.carry_out.ensures.ok

pub returns-in-Alt-clause-ok : goal.returns-in-Alt-clause-ok
returns-in-Alt-clause-ok g c =
    let p : c.in-Alt.p.0 < length c.args.patterns.now = omega (arith, c.in-Alt.ensures.0) in
    stepped _ _ _ _ _ _ _ _ _ c.carry_out-in-Alt.result (P.Branch (One (N.Match c.in-Alt.p)) c.args.cursor c.args.cursor) (
      plans.alt c.args.patterns.now c.args.subject.now c.args.id c.in-Alt.p c.in-Alt._q c.args.cursor c.in-Alt.ensures.2,
      plans.due-enter c.args.patterns.now c.args.subject.now (N.Match c.args.id) c.args.cursor,
      (p, tt),
      c.requires.inside.0,
      plans.next_in c.args.patterns.now c.args.id.0 (Alt (tree c.args.patterns.now c.in-Alt.p.0) (tree c.args.patterns.now c.in-Alt._q.0)) c.args.subject.now
          c.args.cursor c.args.cursor c.in-Alt.ensures.2 tt,
    ) (plain c.args.patterns.now c.args.id _ c.in-Alt.ensures.2 (λ left depth. refl), refl) c.carry_out-in-Alt.ensures.ok

pub returns-in-Arbno-clause-ok : goal.returns-in-Arbno-clause-ok
returns-in-Arbno-clause-ok g c =
    stepped _ _ _ _ _ _ _ _ _ c.stay_and_go_on.result (P.Branch Nothing c.args.cursor c.args.cursor) (
      plans.arbno c.args.patterns.now c.args.subject.now c.args.id c.args.cursor (tree c.args.patterns.now c.in-Arbno._p.0) c.in-Arbno.ensures.1,
      plans.due-enter c.args.patterns.now c.args.subject.now (N.Match c.args.id) c.args.cursor,
      tt,
      c.requires.inside.0,
      plans.next_in c.args.patterns.now c.args.id.0 (Arbno (tree c.args.patterns.now c.in-Arbno._p.0)) c.args.subject.now c.args.cursor
          c.args.cursor c.in-Arbno.ensures.1 tt,
    ) (plain c.args.patterns.now c.args.id _ c.in-Arbno.ensures.1 (λ left depth. refl), refl) c.stay_and_go_on.ensures.ok

pub returns-in-Cond-clause-ok : goal.returns-in-Cond-clause-ok
returns-in-Cond-clause-ok g c =
    let p : c.in-Cond.p.0 < length c.args.patterns.now = omega (arith, c.in-Cond.ensures.0) in
    stepped _ _ _ _ _ _ _ _ _ c.carry_out-in-Cond.result (P.Replace (Two (N.Match c.in-Cond.p) (N.CloseCond c.in-Cond.target c.args.cursor)) c.args.cursor) (
      plans.cond c.args.patterns.now c.args.subject.now c.args.id c.args.cursor c.in-Cond.p c.in-Cond.target c.in-Cond.ensures.1,
      plans.due-enter c.args.patterns.now c.args.subject.now (N.Match c.args.id) c.args.cursor,
      (p, (tt, tt)),
      c.requires.inside.0,
    ) (refl, refl) c.carry_out-in-Cond.ensures.ok

pub returns-in-Imm-clause-ok : goal.returns-in-Imm-clause-ok
returns-in-Imm-clause-ok g c =
    let p : c.in-Imm.p.0 < length c.args.patterns.now = omega (arith, c.in-Imm.ensures.0) in
    stepped _ _ _ _ _ _ _ _ _ c.carry_out-in-Imm.result (P.Replace (Two (N.Match c.in-Imm.p) (N.CloseImm c.in-Imm.target c.args.cursor)) c.args.cursor) (
      plans.imm c.args.patterns.now c.args.subject.now c.args.id c.args.cursor c.in-Imm.p c.in-Imm.target c.in-Imm.ensures.1,
      plans.due-enter c.args.patterns.now c.args.subject.now (N.Match c.args.id) c.args.cursor,
      (p, (tt, tt)),
      c.requires.inside.0,
    ) (refl, refl) c.carry_out-in-Imm.ensures.ok

pub returns-in-Cursor-clause-ok : goal.returns-in-Cursor-clause-ok
returns-in-Cursor-clause-ok g c =
    stepped _ _ _ _ _ _ _ _ _ c.carry_out-in-Cursor.result (P.Cursor c.in-Cursor.target) (
      plans.place c.args.patterns.now c.args.subject.now c.args.id c.args.cursor c.in-Cursor.target c.in-Cursor.ensures,
      plans.due-enter c.args.patterns.now c.args.subject.now (N.Match c.args.id) c.args.cursor,
    ) refl c.carry_out-in-Cursor.ensures.ok

pub returns-in-Fence-clause-ok : goal.returns-in-Fence-clause-ok
returns-in-Fence-clause-ok g c =
    stepped _ _ _ _ _ _ _ _ _ c.stay_and_go_on-in-Fence.result (P.Branch Nothing c.args.cursor c.args.cursor) (
      plans.fence c.args.patterns.now c.args.subject.now c.args.id c.args.cursor c.in-Fence.ensures,
      plans.due-enter c.args.patterns.now c.args.subject.now (N.Match c.args.id) c.args.cursor,
      tt,
      c.requires.inside.0,
      plans.next_in c.args.patterns.now c.args.id.0 Fence c.args.subject.now c.args.cursor c.args.cursor c.in-Fence.ensures tt,
    ) (plain c.args.patterns.now c.args.id _ c.in-Fence.ensures (λ left depth. refl), refl) c.stay_and_go_on-in-Fence.ensures.ok

pub returns-in-Abort-clause-ok : goal.returns-in-Abort-clause-ok
returns-in-Abort-clause-ok g c =
    stepped _ _ _ _ _ _ _ _ _ c.carry_out-in-Abort.result (P.Abort) (
      plans.abort c.args.patterns.now c.args.subject.now c.args.id c.args.cursor c.in-Abort.ensures,
      plans.due-enter c.args.patterns.now c.args.subject.now (N.Match c.args.id) c.args.cursor,
    ) tt c.carry_out-in-Abort.ensures.ok

pub returns-in-Succeed-clause-ok : goal.returns-in-Succeed-clause-ok
returns-in-Succeed-clause-ok g c =
    stepped _ _ _ _ _ _ _ _ _ c.stay_and_go_on-in-Succeed.result (P.Branch Nothing c.args.cursor c.args.cursor) (
      plans.succeed c.args.patterns.now c.args.subject.now c.args.id c.args.cursor c.in-Succeed.ensures,
      plans.due-enter c.args.patterns.now c.args.subject.now (N.Match c.args.id) c.args.cursor,
      tt,
      c.requires.inside.0,
      plans.next_in c.args.patterns.now c.args.id.0 Succeed c.args.subject.now c.args.cursor c.args.cursor c.in-Succeed.ensures tt,
    ) (plain c.args.patterns.now c.args.id _ c.in-Succeed.ensures (λ left depth. refl), refl) c.stay_and_go_on-in-Succeed.ensures.ok

pub returns-in-Defer-clause-ok : goal.returns-in-Defer-clause-ok
returns-in-Defer-clause-ok g c =
    stepped _ _ _ _ _ _ _ _ _ c.carry_out-in-Defer.result (P.Ask None c.in-Defer.e) (
      plans.defer c.args.patterns.now c.args.subject.now c.args.id c.args.cursor None c.in-Defer.e.0 c.in-Defer.ensures,
      plans.due-enter c.args.patterns.now c.args.subject.now (N.Match c.args.id) c.args.cursor,
    ) refl c.carry_out-in-Defer.ensures.ok

pub returns-in-DeferPrim-clause-ok : goal.returns-in-DeferPrim-clause-ok
returns-in-DeferPrim-clause-ok g c =
    stepped _ _ _ _ _ _ _ _ _ c.carry_out-in-DeferPrim.result (P.Ask (Some c.in-DeferPrim.prim) c.in-DeferPrim.e) (
      plans.defer c.args.patterns.now c.args.subject.now c.args.id c.args.cursor (Some c.in-DeferPrim.prim) c.in-DeferPrim.e.0 c.in-DeferPrim.ensures,
      plans.due-enter c.args.patterns.now c.args.subject.now (N.Match c.args.id) c.args.cursor,
    ) refl c.carry_out-in-DeferPrim.ensures.ok

pub returns-in-Cut-clause-ok : goal.returns-in-Cut-clause-ok
returns-in-Cut-clause-ok g c =
    let p : c.in-Cut.p.0 < length c.args.patterns.now = omega (arith, c.in-Cut.ensures.0) in
    stepped _ _ _ _ _ _ _ _ _ c.carry_out-in-Cut.result (P.EnterCut c.in-Cut.p) (
      λ start rest pending below answers left. enter-cut c.args.subject.now start c.args.patterns.now c.args.id c.in-Cut.p rest c.args.cursor pending below
          answers left c.in-Cut.ensures.1,
      plans.due-enter c.args.patterns.now c.args.subject.now (N.Match c.args.id) c.args.cursor,
      p,
      (c.args.id, refl, c.in-Cut.ensures.1),
    ) tt c.carry_out-in-Cut.ensures.ok
