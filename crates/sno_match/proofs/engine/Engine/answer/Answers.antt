use Rattle.std.proofs.Common.{ap}
use Rattle.sno_match.specs.Matching.{Matching}
use Rattle.sno_match.proofs.LookLaws.{lent_looks}
use Rattle.sno_match.proofs.AnswerLaws as laws
use Rattle.sno_match.proofs.engine.Engine.answer.Goals as goal

pub invariant_of-self : goal.invariant_of-self
invariant_of-self g c =
    let none = laws.unanswered c.args.self.now c.self.inside.lent.value c.self.inside.pattern c.self.inside.subject.bytes c.self.inside.anchored
    c.self.inside.limit c.self.inside.answers.items c.self.inside.told c.self.inside.steps c.self.inside.state c.self.inside.way.items
    (g.P.Points.points c.self.inside.points) (g.P.Points.records c.self.inside.points) c.self.inside.start c.self.view_is c.self.invariant.0
    c.of-self-inside.result.value c.args.patterns.now c.of-self-inside.ensures c.requires.table c.requires.waiting in (
      rw c.in_err-push.ensures.items none.0,
      lent_looks c.args.self.now c.self.inside.lent.value c.of-self-inside.result.value c.args.patterns.now
          c.self.inside.subject.bytes c.self.inside.looks (ap (λ (x : Matching). x.nodes) c.self.view_is) c.of-self-inside.ensures
          c.requires.table c.self.invariant.1,
      c.self.invariant.2,
    )

pub returns-in_err-push-clause-told : goal.returns-in_err-push-clause-told
returns-in_err-push-clause-told g c =
    let none = laws.unanswered c.args.self.now c.self.inside.lent.value c.self.inside.pattern c.self.inside.subject.bytes c.self.inside.anchored
    c.self.inside.limit c.self.inside.answers.items c.self.inside.told c.self.inside.steps c.self.inside.state c.self.inside.way.items
    (g.P.Points.points c.self.inside.points) (g.P.Points.records c.self.inside.points) c.self.inside.start c.self.view_is c.self.invariant.0
    c.of-self-inside.result.value c.args.patterns.now c.of-self-inside.ensures c.requires.table c.requires.waiting in
    rw c.in_err-push.ensures.items none.1

pub returns-in_err-push-clause-counts : goal.returns-in_err-push-clause-counts
returns-in_err-push-clause-counts g c =
    let none = laws.unanswered c.args.self.now c.self.inside.lent.value c.self.inside.pattern c.self.inside.subject.bytes c.self.inside.anchored
    c.self.inside.limit c.self.inside.answers.items c.self.inside.told c.self.inside.steps c.self.inside.state c.self.inside.way.items
    (g.P.Points.points c.self.inside.points) (g.P.Points.records c.self.inside.points) c.self.inside.start c.self.view_is c.self.invariant.0
    c.of-self-inside.result.value c.args.patterns.now c.of-self-inside.ensures c.requires.table c.requires.waiting in
    rw c.in_err-push.ensures.items none.2

pub invariant_of-self-in-Err : goal.invariant_of-self-in-Err
invariant_of-self-in-Err g c =
    let none = laws.unanswered c.args.self.now c.self.inside.lent.value c.self.inside.pattern c.self.inside.subject.bytes c.self.inside.anchored
    c.self.inside.limit c.self.inside.answers.items c.self.inside.told c.self.inside.steps c.self.inside.state c.self.inside.way.items
    (g.P.Points.points c.self.inside.points) (g.P.Points.records c.self.inside.points) c.self.inside.start c.self.view_is c.self.invariant.0
    c.of-self-inside.result.value c.args.patterns.now c.of-self-inside.ensures c.requires.table c.requires.waiting in
    let back = laws.taken_back c.self.inside.answers.items c.push.new.self.items c.pop-taken_back.new.self.items c.args.given _ c.in_ok-push.ensures.items
    c.push.new.self.ok.0 c.pop-taken_back.ensures.rest in (
      rw (back, c.in-Err.ensures.err.0, c.in-Err.ensures.err.1) none.0,
      lent_looks c.args.self.now c.self.inside.lent.value c.of-self-inside.result.value
          c.args.patterns.now c.self.inside.subject.bytes c.self.inside.looks (ap (λ (x : Matching). x.nodes) c.self.view_is) c.of-self-inside.ensures
          c.requires.table c.self.invariant.1,
      c.self.invariant.2,
    )

pub returns-in-Err-clause-told : goal.returns-in-Err-clause-told
returns-in-Err-clause-told g c =
    let none = laws.unanswered c.args.self.now c.self.inside.lent.value c.self.inside.pattern c.self.inside.subject.bytes c.self.inside.anchored
    c.self.inside.limit c.self.inside.answers.items c.self.inside.told c.self.inside.steps c.self.inside.state c.self.inside.way.items
    (g.P.Points.points c.self.inside.points) (g.P.Points.records c.self.inside.points) c.self.inside.start c.self.view_is c.self.invariant.0
    c.of-self-inside.result.value c.args.patterns.now c.of-self-inside.ensures c.requires.table c.requires.waiting in
    let back = laws.taken_back c.self.inside.answers.items c.push.new.self.items c.pop-taken_back.new.self.items c.args.given _ c.in_ok-push.ensures.items
    c.push.new.self.ok.0 c.pop-taken_back.ensures.rest in
    rw back none.1

pub returns-in-Err-clause-counts : goal.returns-in-Err-clause-counts
returns-in-Err-clause-counts g c =
    let none = laws.unanswered c.args.self.now c.self.inside.lent.value c.self.inside.pattern c.self.inside.subject.bytes c.self.inside.anchored
    c.self.inside.limit c.self.inside.answers.items c.self.inside.told c.self.inside.steps c.self.inside.state c.self.inside.way.items
    (g.P.Points.points c.self.inside.points) (g.P.Points.records c.self.inside.points) c.self.inside.start c.self.view_is c.self.invariant.0
    c.of-self-inside.result.value c.args.patterns.now c.of-self-inside.ensures c.requires.table c.requires.waiting in
    let back = laws.taken_back c.self.inside.answers.items c.push.new.self.items c.pop-taken_back.new.self.items c.args.given _ c.in_ok-push.ensures.items
    c.push.new.self.ok.0 c.pop-taken_back.ensures.rest in
    rw (back, c.in-Err.ensures.err.0, c.in-Err.ensures.err.1) none.2

pub invariant_of-self-2 : goal.invariant_of-self-2
invariant_of-self-2 g c =
    let all = laws.answered_all c.args.self.now c.self.inside.lent.value c.self.inside.pattern c.self.inside.subject.bytes c.self.inside.anchored
    c.self.inside.limit c.self.inside.answers.items c.self.inside.told c.self.inside.steps c.self.inside.state c.self.inside.way.items
    (g.P.Points.points c.self.inside.points) (g.P.Points.records c.self.inside.points) c.self.inside.start c.self.view_is c.self.invariant.0
    c.of-self-inside.result.value c.args.patterns.now c.of-self-inside.ensures c.requires.table c.requires.waiting
    c.args.given c.requires.known (g.P.Points.points c.put_answer.new.points) c.in_default.ensures.ok (g.P.Points.records c.put_answer.new.points)
    c.put_answer.ensures.records in (
      rw c.in_ok-push.ensures.items all.0,
      lent_looks c.args.self.now c.self.inside.lent.value c.of-self-inside.result.value c.args.patterns.now
          c.self.inside.subject.bytes c.self.inside.looks (ap (λ (x : Matching). x.nodes) c.self.view_is) c.of-self-inside.ensures
          c.requires.table c.self.invariant.1,
      c.self.invariant.2,
    )

pub returns-clause-told : goal.returns-clause-told
returns-clause-told g c =
    let all = laws.answered_all c.args.self.now c.self.inside.lent.value c.self.inside.pattern c.self.inside.subject.bytes c.self.inside.anchored
    c.self.inside.limit c.self.inside.answers.items c.self.inside.told c.self.inside.steps c.self.inside.state c.self.inside.way.items
    (g.P.Points.points c.self.inside.points) (g.P.Points.records c.self.inside.points) c.self.inside.start c.self.view_is c.self.invariant.0
    c.of-self-inside.result.value c.args.patterns.now c.of-self-inside.ensures c.requires.table c.requires.waiting
    c.args.given c.requires.known (g.P.Points.points c.put_answer.new.points) c.in_default.ensures.ok (g.P.Points.records c.put_answer.new.points)
    c.put_answer.ensures.records in
    rw c.in_ok-push.ensures.items all.1

pub returns-clause-counts : goal.returns-clause-counts
returns-clause-counts g c =
    let all = laws.answered_all c.args.self.now c.self.inside.lent.value c.self.inside.pattern c.self.inside.subject.bytes c.self.inside.anchored
    c.self.inside.limit c.self.inside.answers.items c.self.inside.told c.self.inside.steps c.self.inside.state c.self.inside.way.items
    (g.P.Points.points c.self.inside.points) (g.P.Points.records c.self.inside.points) c.self.inside.start c.self.view_is c.self.invariant.0
    c.of-self-inside.result.value c.args.patterns.now c.of-self-inside.ensures c.requires.table c.requires.waiting
    c.args.given c.requires.known (g.P.Points.points c.put_answer.new.points) c.in_default.ensures.ok (g.P.Points.records c.put_answer.new.points)
    c.put_answer.ensures.records in
    rw c.in_ok-push.ensures.items all.2
