use Rattle.std.proofs.Common.{arith, ◌∙◌, ap}
use Rattle.sno_match.specs.Matching.{Matching}
use Rattle.sno_match.proofs.LookLaws.{same_looks}
use Rattle.sno_match.proofs.EngineLaws as laws
use Rattle.sno_match.proofs.engine.Engine.go_silently.Goals as goal

pub invariant_of-self : goal.invariant_of-self
invariant_of-self g c =
    let l = laws.refused_leads c.args.self.now c.self.inside.lent.value c.self.inside.pattern c.self.inside.subject.bytes c.self.inside.anchored
    c.self.inside.limit c.self.inside.answers.items c.self.inside.told c.self.inside.steps c.self.inside.state c.self.inside.way.items
    (g.P.Points.points c.self.inside.points) (g.P.Points.records c.self.inside.points) c.self.inside.start c.self.view_is c.self.invariant.0
    c.requires.going c.requires.on
    c.args.patterns.now c.as_slice.result.now c.requires.table c.as_slice.ensures.value c.go_on.new.steps
    (g.P.Points.points c.go_on.new.points) (g.P.Points.records c.go_on.new.points)
    (omega (arith, c.go_on.ensures.records)) c.go_on.ensures.leads in (
      (laws.stays_all c.args.self.now c.self.inside.lent.value c.self.inside.pattern c.self.inside.subject.bytes c.self.inside.anchored
          c.self.inside.limit c.self.inside.answers.items c.self.inside.told c.self.inside.steps c.self.inside.state c.self.inside.way.items
          (g.P.Points.points c.self.inside.points) (g.P.Points.records c.self.inside.points) c.self.inside.start c.self.view_is c.self.invariant.0
          c.requires.going c.requires.on
          c.go_on.new.steps c.self.inside.start (g.P.Points.points c.go_on.new.points) c.self.inside.way.items
          (g.P.Points.records c.go_on.new.points) l).0,
      same_looks c.self.inside.lent.value c.args.patterns.now c.self.inside.subject.bytes c.as_slice.result.now c.go_on.new.looks
          (ap (λ (x : Matching). x.nodes) c.self.view_is ∙ c.requires.table) c.as_slice.ensures.value c.go_on.ensures.looks,
      c.self.invariant.2,
    )

pub returns-clause-goes : goal.returns-clause-goes
returns-clause-goes g c =
    let l = laws.refused_leads c.args.self.now c.self.inside.lent.value c.self.inside.pattern c.self.inside.subject.bytes c.self.inside.anchored
    c.self.inside.limit c.self.inside.answers.items c.self.inside.told c.self.inside.steps c.self.inside.state c.self.inside.way.items
    (g.P.Points.points c.self.inside.points) (g.P.Points.records c.self.inside.points) c.self.inside.start c.self.view_is c.self.invariant.0
    c.requires.going c.requires.on
    c.args.patterns.now c.as_slice.result.now c.requires.table c.as_slice.ensures.value c.go_on.new.steps
    (g.P.Points.points c.go_on.new.points) (g.P.Points.records c.go_on.new.points)
    (omega (arith, c.go_on.ensures.records)) c.go_on.ensures.leads in
    (laws.stays_all c.args.self.now c.self.inside.lent.value c.self.inside.pattern c.self.inside.subject.bytes c.self.inside.anchored
    c.self.inside.limit c.self.inside.answers.items c.self.inside.told c.self.inside.steps c.self.inside.state c.self.inside.way.items
    (g.P.Points.points c.self.inside.points) (g.P.Points.records c.self.inside.points) c.self.inside.start c.self.view_is c.self.invariant.0
    c.requires.going c.requires.on
    c.go_on.new.steps c.self.inside.start (g.P.Points.points c.go_on.new.points) c.self.inside.way.items
    (g.P.Points.records c.go_on.new.points) l).1

pub returns-clause-work : goal.returns-clause-work
returns-clause-work g c =
    rw (← c.self.view_is) (omega (arith, c.go_on.ensures.leads.falls, c.go_on.ensures.leads.paid))
