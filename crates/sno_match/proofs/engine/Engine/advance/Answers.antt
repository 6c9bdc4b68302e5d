use Rattle.std.proofs.Common.{arith, ◌∙◌, ap}
use Rattle.std.proofs.lemmas.Result.{err_from_is_err_and}
use Rattle.sno_match.specs.Matching.{Matching}
use Rattle.sno_match.proofs.LookLaws.{same_looks}
use Rattle.sno_match.proofs.EngineLaws as laws
use Rattle.sno_match.proofs.NextLaws.{goes_not}
use Rattle.sno_match.proofs.CountLaws.{match_few}
use Rattle.sno_match.proofs.engine.Engine.advance.Goals as goal

pub overflow_add-self : goal.overflow_add-self
overflow_add-self g c = let few = match_few _ _ _ _ c.self.invariant.0 in omega (arith, few, c.self.ranges)

pub invariant_of-self-in-Some : goal.invariant_of-self-in-Some
invariant_of-self-in-Some g c =
    let l = laws.made_leads c.args.self.now c.self.inside.lent.value c.self.inside.pattern c.self.inside.subject.bytes c.self.inside.anchored
    c.self.inside.limit c.self.inside.answers.items c.self.inside.told c.self.inside.steps c.self.inside.state c.self.inside.way.items
    (g.P.Points.points c.self.inside.points) (g.P.Points.records c.self.inside.points) c.self.inside.start c.self.view_is c.self.invariant.0
    c.requires.going c.requires.on
    c.args.patterns.now c.as_slice.result.now c.requires.table c.as_slice.ensures.value c.in_ok-told-2.told c.make_move.new.steps
    (g.P.Points.points c.make_move.new.points) c.make_move.new.way.items (g.P.Points.records c.make_move.new.points) c.in_ok-told-2.ensures.stands.stack
    c.in_ok-told-2.ensures.stands.cuts c.in_ok-told-2.ensures.records c.in_ok-told-2.ensures.ok in (
      (laws.tells_all c.args.self.now c.self.inside.lent.value c.self.inside.pattern c.self.inside.subject.bytes c.self.inside.anchored c.self.inside.limit
          c.self.inside.answers.items c.self.inside.told c.self.inside.steps c.self.inside.state c.self.inside.way.items
          (g.P.Points.points c.self.inside.points) (g.P.Points.records c.self.inside.points) c.self.inside.start c.self.view_is c.self.invariant.0
          c.requires.going c.requires.on
          c.in-Some.event c.make_move.new.steps c.self.inside.start (g.P.Points.points c.make_move.new.points) c.make_move.new.way.items
          (g.P.Points.records c.make_move.new.points) (rw c.in-Some.is at l) c.go_behind.new.state c.go_behind.ensures.behind).0,
      same_looks c.self.inside.lent.value c.args.patterns.now c.self.inside.subject.bytes c.as_slice.result.now c.make_move.new.looks
          (ap (λ (x : Matching). x.nodes) c.self.view_is ∙ c.requires.table) c.as_slice.ensures.value c.in_ok-told-2.ensures.stands.looks,
      c.self.invariant.2,
    )

pub returns-in-Some-clause-ok : goal.returns-in-Some-clause-ok
returns-in-Some-clause-ok g c =
    let l = laws.made_leads c.args.self.now c.self.inside.lent.value c.self.inside.pattern c.self.inside.subject.bytes c.self.inside.anchored
    c.self.inside.limit c.self.inside.answers.items c.self.inside.told c.self.inside.steps c.self.inside.state c.self.inside.way.items
    (g.P.Points.points c.self.inside.points) (g.P.Points.records c.self.inside.points) c.self.inside.start c.self.view_is c.self.invariant.0
    c.requires.going c.requires.on
    c.args.patterns.now c.as_slice.result.now c.requires.table c.as_slice.ensures.value c.in_ok-told-2.told c.make_move.new.steps
    (g.P.Points.points c.make_move.new.points) c.make_move.new.way.items (g.P.Points.records c.make_move.new.points) c.in_ok-told-2.ensures.stands.stack
    c.in_ok-told-2.ensures.stands.cuts c.in_ok-told-2.ensures.records c.in_ok-told-2.ensures.ok in
    (laws.tells_all c.args.self.now c.self.inside.lent.value c.self.inside.pattern c.self.inside.subject.bytes c.self.inside.anchored c.self.inside.limit
    c.self.inside.answers.items c.self.inside.told c.self.inside.steps c.self.inside.state c.self.inside.way.items (g.P.Points.points c.self.inside.points)
    (g.P.Points.records c.self.inside.points) c.self.inside.start c.self.view_is c.self.invariant.0 c.requires.going c.requires.on
    c.in-Some.event c.make_move.new.steps c.self.inside.start (g.P.Points.points c.make_move.new.points) c.make_move.new.way.items
    (g.P.Points.records c.make_move.new.points) (rw c.in-Some.is at l) c.go_behind.new.state c.go_behind.ensures.behind).1

pub returns-in-Some-clause-counts : goal.returns-in-Some-clause-counts
returns-in-Some-clause-counts g c =
    let l = laws.made_leads c.args.self.now c.self.inside.lent.value c.self.inside.pattern c.self.inside.subject.bytes c.self.inside.anchored
    c.self.inside.limit c.self.inside.answers.items c.self.inside.told c.self.inside.steps c.self.inside.state c.self.inside.way.items
    (g.P.Points.points c.self.inside.points) (g.P.Points.records c.self.inside.points) c.self.inside.start c.self.view_is c.self.invariant.0
    c.requires.going c.requires.on
    c.args.patterns.now c.as_slice.result.now c.requires.table c.as_slice.ensures.value c.in_ok-told-2.told c.make_move.new.steps
    (g.P.Points.points c.make_move.new.points) c.make_move.new.way.items (g.P.Points.records c.make_move.new.points) c.in_ok-told-2.ensures.stands.stack
    c.in_ok-told-2.ensures.stands.cuts c.in_ok-told-2.ensures.records c.in_ok-told-2.ensures.ok in
    (laws.tells_all c.args.self.now c.self.inside.lent.value c.self.inside.pattern c.self.inside.subject.bytes c.self.inside.anchored c.self.inside.limit
    c.self.inside.answers.items c.self.inside.told c.self.inside.steps c.self.inside.state c.self.inside.way.items (g.P.Points.points c.self.inside.points)
    (g.P.Points.records c.self.inside.points) c.self.inside.start c.self.view_is c.self.invariant.0 c.requires.going c.requires.on
    c.in-Some.event c.make_move.new.steps c.self.inside.start (g.P.Points.points c.make_move.new.points) c.make_move.new.way.items
    (g.P.Points.records c.make_move.new.points) (rw c.in-Some.is at l) c.go_behind.new.state c.go_behind.ensures.behind).2

pub invariant_of-self-in_default-told : goal.invariant_of-self-in_default-told
invariant_of-self-in_default-told g c =
    let l = laws.made_leads c.args.self.now c.self.inside.lent.value c.self.inside.pattern c.self.inside.subject.bytes c.self.inside.anchored
    c.self.inside.limit c.self.inside.answers.items c.self.inside.told c.self.inside.steps c.self.inside.state c.self.inside.way.items
    (g.P.Points.points c.self.inside.points) (g.P.Points.records c.self.inside.points) c.self.inside.start c.self.view_is c.self.invariant.0
    c.requires.going c.requires.on
    c.args.patterns.now c.as_slice.result.now c.requires.table c.as_slice.ensures.value c.in_ok-told-2.told c.make_move.new.steps
    (g.P.Points.points c.make_move.new.points) c.make_move.new.way.items (g.P.Points.records c.make_move.new.points) c.in_ok-told-2.ensures.stands.stack
    c.in_ok-told-2.ensures.stands.cuts c.in_ok-told-2.ensures.records c.in_ok-told-2.ensures.ok in (
      (laws.goes_all c.args.self.now c.self.inside.lent.value c.self.inside.pattern c.self.inside.subject.bytes c.self.inside.anchored c.self.inside.limit
          c.self.inside.answers.items c.self.inside.told c.self.inside.steps c.self.inside.state c.self.inside.way.items
          (g.P.Points.points c.self.inside.points) (g.P.Points.records c.self.inside.points) c.self.inside.start c.self.view_is c.self.invariant.0
          c.requires.going c.requires.on
          c.make_move.new.steps c.self.inside.start (g.P.Points.points c.make_move.new.points) c.make_move.new.way.items
          (g.P.Points.records c.make_move.new.points) (rw c.in_default-told.is at l) (c.in_ok-told-2.ensures.ok.falls c.in_default-told.is)).0,
      same_looks c.self.inside.lent.value c.args.patterns.now c.self.inside.subject.bytes c.as_slice.result.now c.make_move.new.looks
          (ap (λ (x : Matching). x.nodes) c.self.view_is ∙ c.requires.table) c.as_slice.ensures.value c.in_ok-told-2.ensures.stands.looks,
      c.self.invariant.2,
    )

pub returns-in_default-told-clause-ok : goal.returns-in_default-told-clause-ok
returns-in_default-told-clause-ok g c =
    let l = laws.made_leads c.args.self.now c.self.inside.lent.value c.self.inside.pattern c.self.inside.subject.bytes c.self.inside.anchored
    c.self.inside.limit c.self.inside.answers.items c.self.inside.told c.self.inside.steps c.self.inside.state c.self.inside.way.items
    (g.P.Points.points c.self.inside.points) (g.P.Points.records c.self.inside.points) c.self.inside.start c.self.view_is c.self.invariant.0
    c.requires.going c.requires.on
    c.args.patterns.now c.as_slice.result.now c.requires.table c.as_slice.ensures.value c.in_ok-told-2.told c.make_move.new.steps
    (g.P.Points.points c.make_move.new.points) c.make_move.new.way.items (g.P.Points.records c.make_move.new.points) c.in_ok-told-2.ensures.stands.stack
    c.in_ok-told-2.ensures.stands.cuts c.in_ok-told-2.ensures.records c.in_ok-told-2.ensures.ok in
    rw c.in_default-told.is (laws.goes_all c.args.self.now c.self.inside.lent.value c.self.inside.pattern c.self.inside.subject.bytes c.self.inside.anchored
    c.self.inside.limit c.self.inside.answers.items c.self.inside.told c.self.inside.steps c.self.inside.state c.self.inside.way.items
    (g.P.Points.points c.self.inside.points) (g.P.Points.records c.self.inside.points) c.self.inside.start c.self.view_is c.self.invariant.0
    c.requires.going c.requires.on
    c.make_move.new.steps c.self.inside.start (g.P.Points.points c.make_move.new.points) c.make_move.new.way.items (g.P.Points.records c.make_move.new.points)
    (rw c.in_default-told.is at l) (c.in_ok-told-2.ensures.ok.falls c.in_default-told.is)).1

pub returns-in_default-told-clause-counts : goal.returns-in_default-told-clause-counts
returns-in_default-told-clause-counts g c =
    let l = laws.made_leads c.args.self.now c.self.inside.lent.value c.self.inside.pattern c.self.inside.subject.bytes c.self.inside.anchored
    c.self.inside.limit c.self.inside.answers.items c.self.inside.told c.self.inside.steps c.self.inside.state c.self.inside.way.items
    (g.P.Points.points c.self.inside.points) (g.P.Points.records c.self.inside.points) c.self.inside.start c.self.view_is c.self.invariant.0
    c.requires.going c.requires.on
    c.args.patterns.now c.as_slice.result.now c.requires.table c.as_slice.ensures.value c.in_ok-told-2.told c.make_move.new.steps
    (g.P.Points.points c.make_move.new.points) c.make_move.new.way.items (g.P.Points.records c.make_move.new.points) c.in_ok-told-2.ensures.stands.stack
    c.in_ok-told-2.ensures.stands.cuts c.in_ok-told-2.ensures.records c.in_ok-told-2.ensures.ok in
    (laws.goes_all c.args.self.now c.self.inside.lent.value c.self.inside.pattern c.self.inside.subject.bytes c.self.inside.anchored c.self.inside.limit
    c.self.inside.answers.items c.self.inside.told c.self.inside.steps c.self.inside.state c.self.inside.way.items (g.P.Points.points c.self.inside.points)
    (g.P.Points.records c.self.inside.points) c.self.inside.start c.self.view_is c.self.invariant.0 c.requires.going c.requires.on
    c.make_move.new.steps c.self.inside.start (g.P.Points.points c.make_move.new.points) c.make_move.new.way.items (g.P.Points.records c.make_move.new.points)
    (rw c.in_default-told.is at l) (c.in_ok-told-2.ensures.ok.falls c.in_default-told.is)).2

pub invariant_of-self : goal.invariant_of-self
invariant_of-self g c =
    let l = laws.refused_leads c.args.self.now c.self.inside.lent.value c.self.inside.pattern c.self.inside.subject.bytes c.self.inside.anchored
    c.self.inside.limit c.self.inside.answers.items c.self.inside.told c.self.inside.steps c.self.inside.state c.self.inside.way.items
    (g.P.Points.points c.self.inside.points) (g.P.Points.records c.self.inside.points) c.self.inside.start c.self.view_is c.self.invariant.0
    c.requires.going c.requires.on
    c.args.patterns.now c.as_slice.result.now c.requires.table c.as_slice.ensures.value c.make_move.new.steps
    (g.P.Points.points c.make_move.new.points) (g.P.Points.records c.make_move.new.points)
    (omega (arith, c.in_err-told-2.ensures.records)) c.in_err-told-2.ensures.err in
    rw c.in_err-told-2.ensures.way (
      (laws.stays_all c.args.self.now c.self.inside.lent.value c.self.inside.pattern c.self.inside.subject.bytes c.self.inside.anchored
          c.self.inside.limit c.self.inside.answers.items c.self.inside.told c.self.inside.steps c.self.inside.state c.self.inside.way.items
          (g.P.Points.points c.self.inside.points) (g.P.Points.records c.self.inside.points) c.self.inside.start c.self.view_is c.self.invariant.0
          c.requires.going c.requires.on
          c.make_move.new.steps c.self.inside.start (g.P.Points.points c.make_move.new.points) c.self.inside.way.items
          (g.P.Points.records c.make_move.new.points) l).0,
      same_looks c.self.inside.lent.value c.args.patterns.now c.self.inside.subject.bytes c.as_slice.result.now c.make_move.new.looks
          (ap (λ (x : Matching). x.nodes) c.self.view_is ∙ c.requires.table) c.as_slice.ensures.value c.in_err-told-2.ensures.stands.looks,
      c.self.invariant.2,
    )

pub returns-in_err-told-2-clause-err : goal.returns-in_err-told-2-clause-err
returns-in_err-told-2-clause-err g c =
    let p = err_from_is_err_and c.from_residual-in_err-told-2.result c.from_residual-in_err-told-2.ensures.1 in
    let l = laws.refused_leads c.args.self.now c.self.inside.lent.value c.self.inside.pattern c.self.inside.subject.bytes c.self.inside.anchored
    c.self.inside.limit c.self.inside.answers.items c.self.inside.told c.self.inside.steps c.self.inside.state c.self.inside.way.items
    (g.P.Points.points c.self.inside.points) (g.P.Points.records c.self.inside.points) c.self.inside.start c.self.view_is c.self.invariant.0
    c.requires.going c.requires.on
    c.args.patterns.now c.as_slice.result.now c.requires.table c.as_slice.ensures.value c.make_move.new.steps
    (g.P.Points.points c.make_move.new.points) (g.P.Points.records c.make_move.new.points)
    (omega (arith, c.in_err-told-2.ensures.records)) c.in_err-told-2.ensures.err in
    rw (p.1, c.in_err-told-2.ensures.way) (laws.stays_all c.args.self.now c.self.inside.lent.value c.self.inside.pattern
    c.self.inside.subject.bytes c.self.inside.anchored
    c.self.inside.limit c.self.inside.answers.items c.self.inside.told c.self.inside.steps c.self.inside.state c.self.inside.way.items
    (g.P.Points.points c.self.inside.points) (g.P.Points.records c.self.inside.points) c.self.inside.start c.self.view_is c.self.invariant.0
    c.requires.going c.requires.on
    c.make_move.new.steps c.self.inside.start (g.P.Points.points c.make_move.new.points) c.self.inside.way.items
    (g.P.Points.records c.make_move.new.points) l).1

pub returns-in_err-told-2-clause-counts : goal.returns-in_err-told-2-clause-counts
returns-in_err-told-2-clause-counts g c =
    let l = laws.refused_leads c.args.self.now c.self.inside.lent.value c.self.inside.pattern c.self.inside.subject.bytes c.self.inside.anchored
    c.self.inside.limit c.self.inside.answers.items c.self.inside.told c.self.inside.steps c.self.inside.state c.self.inside.way.items
    (g.P.Points.points c.self.inside.points) (g.P.Points.records c.self.inside.points) c.self.inside.start c.self.view_is c.self.invariant.0
    c.requires.going c.requires.on
    c.args.patterns.now c.as_slice.result.now c.requires.table c.as_slice.ensures.value c.make_move.new.steps
    (g.P.Points.points c.make_move.new.points) (g.P.Points.records c.make_move.new.points)
    (omega (arith, c.in_err-told-2.ensures.records)) c.in_err-told-2.ensures.err in
    rw c.in_err-told-2.ensures.way (laws.stays_all c.args.self.now c.self.inside.lent.value c.self.inside.pattern
    c.self.inside.subject.bytes c.self.inside.anchored
    c.self.inside.limit c.self.inside.answers.items c.self.inside.told c.self.inside.steps c.self.inside.state c.self.inside.way.items
    (g.P.Points.points c.self.inside.points) (g.P.Points.records c.self.inside.points) c.self.inside.start c.self.view_is c.self.invariant.0
    c.requires.going c.requires.on
    c.make_move.new.steps c.self.inside.start (g.P.Points.points c.make_move.new.points) c.self.inside.way.items
    (g.P.Points.records c.make_move.new.points) l).2

pub returns-in_err-told-clause-err : goal.returns-in_err-told-clause-err
returns-in_err-told-clause-err g c =
    let p = err_from_is_err_and c.from_residual.result c.from_residual.ensures.1 in
    rw p.1 (goes_not c.args.self.now c.take_start.new.self c.requires.going c.requires.on c.in_err-told.ensures.err)
