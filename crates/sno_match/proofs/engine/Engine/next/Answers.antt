use Rattle.std.proofs.Common.{refl, ◌∙◌, ap}
use Rattle.sno_match.specs.Matching.{Matching}
use Rattle.sno_match.proofs.LookLaws.{lent_looks}
use Rattle.std.proofs.lemmas.Result.{err_from_is_err_and}
use Rattle.sno_match.proofs.CountLaws.{match_counted}
use Rattle.sno_match.proofs.NextLaws as laws
use Rattle.sno_match.proofs.SessionWays.{told-ways, refused-ways}
use Rattle.sno_match.proofs.WithinLaws.{told_within}
use Rattle.sno_match.proofs.engine.Engine.next.Goals as goal

pub invariant_of-self : goal.invariant_of-self
invariant_of-self g c = (
  laws.lent_match c.args.self.now c.self.inside.lent.value c.self.inside.pattern c.self.inside.subject.bytes c.self.inside.anchored c.self.inside.limit
      c.self.inside.answers.items c.self.inside.told c.self.inside.steps c.self.inside.state c.self.inside.way.items (g.P.Points.points c.self.inside.points)
      (g.P.Points.records c.self.inside.points) c.self.inside.start c.self.view_is c.self.invariant.0
      c.of-self-inside.result.value c.args.patterns.now c.of-self-inside.ensures c.requires.table,
  lent_looks c.args.self.now c.self.inside.lent.value c.of-self-inside.result.value c.args.patterns.now c.self.inside.subject.bytes c.self.inside.looks
      (ap (λ (x : Matching). x.nodes) c.self.view_is) c.of-self-inside.ensures c.requires.table c.self.invariant.1,
  c.self.invariant.2,
)

pub invariant_of-self-2 : goal.invariant_of-self-2
invariant_of-self-2 g c = (
  laws.lent_match c.args.self.now c.self.inside.lent.value c.self.inside.pattern c.self.inside.subject.bytes c.self.inside.anchored c.self.inside.limit
      c.self.inside.answers.items c.self.inside.told c.self.inside.steps c.self.inside.state c.self.inside.way.items (g.P.Points.points c.self.inside.points)
      (g.P.Points.records c.self.inside.points) c.self.inside.start c.self.view_is c.self.invariant.0
      c.of-self-inside.result.value c.args.patterns.now c.of-self-inside.ensures c.requires.table,
  lent_looks c.args.self.now c.self.inside.lent.value c.of-self-inside.result.value c.args.patterns.now c.self.inside.subject.bytes c.self.inside.looks
      (ap (λ (x : Matching). x.nodes) c.self.view_is) c.of-self-inside.ensures c.requires.table c.self.invariant.1,
  c.self.invariant.2,
)

pub returns-in-Ended-clause-same : goal.returns-in-Ended-clause-same
returns-in-Ended-clause-same g c =
    laws.lent_same c.args.self.now c.self.inside.lent.value c.self.inside.pattern c.self.inside.subject.bytes c.self.inside.anchored c.self.inside.limit
    c.self.inside.answers.items c.self.inside.told c.self.inside.steps c.self.inside.state c.self.inside.way.items (g.P.Points.points c.self.inside.points)
    (g.P.Points.records c.self.inside.points) c.self.inside.start c.self.view_is c.self.invariant.0
    c.of-self-inside.result.value c.args.patterns.now c.of-self-inside.ensures c.requires.table

pub returns-in-Ended-clause-ok : goal.returns-in-Ended-clause-ok
returns-in-Ended-clause-ok g c =
    laws.lent_again c.args.self.now c.self.inside.lent.value c.self.inside.pattern c.self.inside.subject.bytes c.self.inside.anchored c.self.inside.limit
    c.self.inside.answers.items c.self.inside.told c.self.inside.steps c.self.inside.state c.self.inside.way.items (g.P.Points.points c.self.inside.points)
    (g.P.Points.records c.self.inside.points) c.self.inside.start c.self.view_is c.self.invariant.0
    c.of-self-inside.result.value c.args.patterns.now c.of-self-inside.ensures c.requires.table
    c.in-Ended.event c.in-Ended.is

pub returns-in-Ended-clause-counts : goal.returns-in-Ended-clause-counts
returns-in-Ended-clause-counts g c =
    let kept = laws.lent_match c.args.self.now c.self.inside.lent.value c.self.inside.pattern c.self.inside.subject.bytes c.self.inside.anchored
    c.self.inside.limit c.self.inside.answers.items c.self.inside.told c.self.inside.steps c.self.inside.state c.self.inside.way.items
    (g.P.Points.points c.self.inside.points) (g.P.Points.records c.self.inside.points) c.self.inside.start c.self.view_is c.self.invariant.0
    c.of-self-inside.result.value c.args.patterns.now c.of-self-inside.ensures c.requires.table in
    match_counted _ _ _ _ kept refl

pub returns-in-Ended-clause-ways : goal.returns-in-Ended-clause-ways
returns-in-Ended-clause-ways g c =
    let told = laws.lent_again c.args.self.now c.self.inside.lent.value c.self.inside.pattern c.self.inside.subject.bytes c.self.inside.anchored
    c.self.inside.limit c.self.inside.answers.items c.self.inside.told c.self.inside.steps c.self.inside.state c.self.inside.way.items
    (g.P.Points.points c.self.inside.points) (g.P.Points.records c.self.inside.points) c.self.inside.start c.self.view_is c.self.invariant.0
    c.of-self-inside.result.value c.args.patterns.now c.of-self-inside.ensures c.requires.table
    c.in-Ended.event c.in-Ended.is in
    told-ways _ _ _ told

pub returns-in_err-event-clause-same : goal.returns-in_err-event-clause-same
returns-in_err-event-clause-same g c =
    let same = laws.lent_same c.args.self.now c.self.inside.lent.value c.self.inside.pattern c.self.inside.subject.bytes c.self.inside.anchored
    c.self.inside.limit c.self.inside.answers.items c.self.inside.told c.self.inside.steps c.self.inside.state c.self.inside.way.items
    (g.P.Points.points c.self.inside.points) (g.P.Points.records c.self.inside.points) c.self.inside.start c.self.view_is c.self.invariant.0
    c.of-self-inside.result.value c.args.patterns.now c.of-self-inside.ensures c.requires.table in
    let goes = laws.goes_then _ _ _ c.loop-event.invariant c.go_silently.ensures.goes in
    laws.same_then _ _ _ (laws.same_then _ _ _ same goes.same) c.in_err-event.ensures.err.same

pub returns-in_err-event-clause-err : goal.returns-in_err-event-clause-err
returns-in_err-event-clause-err g c =
    let stays = laws.lent_stays c.args.self.now c.self.inside.lent.value c.self.inside.pattern c.self.inside.subject.bytes c.self.inside.anchored
    c.self.inside.limit c.self.inside.answers.items c.self.inside.told c.self.inside.steps c.self.inside.state c.self.inside.way.items
    (g.P.Points.points c.self.inside.points) (g.P.Points.records c.self.inside.points) c.self.inside.start c.self.view_is c.self.invariant.0
    c.of-self-inside.result.value c.args.patterns.now c.of-self-inside.ensures c.requires.table
    c.requires.asked c.in_default.not-Ended in
    let goes = laws.goes_then _ _ _ c.loop-event.invariant c.go_silently.ensures.goes in
    let far = laws.stays_then _ _ _ stays goes.stays in
    let p = err_from_is_err_and c.from_residual.result c.from_residual.ensures.1 in
    rw p.1 (laws.stays_then _ _ _ far c.in_err-event.ensures.err.stays)

pub returns-in_err-event-clause-again : goal.returns-in_err-event-clause-again
returns-in_err-event-clause-again g c =
    λ h. absurd (laws.never_again c.args.self.now c.self.inside.lent.value c.self.inside.pattern c.self.inside.subject.bytes c.self.inside.anchored
    c.self.inside.limit c.self.inside.answers.items c.self.inside.told c.self.inside.steps c.self.inside.state c.self.inside.way.items
    (g.P.Points.points c.self.inside.points) (g.P.Points.records c.self.inside.points) c.self.inside.start c.self.view_is c.self.invariant.0
    c.of-self-inside.result.value c.args.patterns.now c.of-self-inside.ensures c.requires.table
    c.requires.asked c.in_default.not-Ended h)

pub returns-in_err-event-clause-ways : goal.returns-in_err-event-clause-ways
returns-in_err-event-clause-ways g c =
    let p = err_from_is_err_and c.from_residual.result c.from_residual.ensures.1 in
    rw p.1 (refused-ways _ _)

pub returns-in-Some : goal.returns-in-Some
returns-in-Some g c =
    let moves = rw c.in-Some.is at c.in_ok-event.ensures.ok in
    let same = laws.lent_same c.args.self.now c.self.inside.lent.value c.self.inside.pattern c.self.inside.subject.bytes c.self.inside.anchored
    c.self.inside.limit c.self.inside.answers.items c.self.inside.told c.self.inside.steps c.self.inside.state c.self.inside.way.items
    (g.P.Points.points c.self.inside.points) (g.P.Points.records c.self.inside.points) c.self.inside.start c.self.view_is c.self.invariant.0
    c.of-self-inside.result.value c.args.patterns.now c.of-self-inside.ensures c.requires.table in
    let stays = laws.lent_stays c.args.self.now c.self.inside.lent.value c.self.inside.pattern c.self.inside.subject.bytes c.self.inside.anchored
    c.self.inside.limit c.self.inside.answers.items c.self.inside.told c.self.inside.steps c.self.inside.state c.self.inside.way.items
    (g.P.Points.points c.self.inside.points) (g.P.Points.records c.self.inside.points) c.self.inside.start c.self.view_is c.self.invariant.0
    c.of-self-inside.result.value c.args.patterns.now c.of-self-inside.ensures c.requires.table
    c.requires.asked c.in_default.not-Ended in
    let goes = laws.goes_then _ _ _ c.loop-event.invariant c.go_silently.ensures.goes in
    let far = laws.stays_then _ _ _ stays goes.stays in
    let told = laws.told_then _ _ _ c.in-Some.event far moves.2 in
    record {
      table = moves.0 ∙ goes.nodes ∙ c.of-self-inside.ensures;
      same = laws.same_then _ _ _ (laws.same_then _ _ _ same goes.same) moves.1;
      ok = told;
      err = tt;
      again = λ h. absurd (laws.never_again c.args.self.now c.self.inside.lent.value c.self.inside.pattern c.self.inside.subject.bytes c.self.inside.anchored
          c.self.inside.limit c.self.inside.answers.items c.self.inside.told c.self.inside.steps c.self.inside.state c.self.inside.way.items
          (g.P.Points.points c.self.inside.points) (g.P.Points.records c.self.inside.points) c.self.inside.start c.self.view_is c.self.invariant.0
          c.of-self-inside.result.value c.args.patterns.now c.of-self-inside.ensures c.requires.table
          c.requires.asked c.in_default.not-Ended h);
      counts = c.in_ok-event.ensures.counts;
      ways = told-ways _ _ _ told;
      within = told_within _ _ _ told;
    }
