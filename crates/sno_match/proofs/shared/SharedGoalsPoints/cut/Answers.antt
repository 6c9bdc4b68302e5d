use Rattle.std.proofs.Common.{◌≡◌, ◌∙◌, ap, subst}
use Rattle.sno_match.specs.Point.{rest_of, cut_back}
use Rattle.sno_match.specs.inner.Shared.{goals_of}
use Rattle.sno_match.proofs.SharedLaws.{fits}
use Rattle.sno_match.proofs.CutPoints.{cut_points}
use Rattle.sno_match.proofs.shared.SharedGoalsPoints.cut.Goals as goal

pub returns-in-Some-clause-points : goal.returns-in-Some-clause-points
returns-in-Some-clause-points c =
    let s = c.self.inside in
    let point = c.in-Some.point in
    let goals = c.behind_first-goals.result in
    let under = (fits s.lists.records.items s.lists.pending.items s.lists.top s.lists.below.items point c.in-Some.is c.self.invariant).3 in
    let low = c.drop_newer-floor.ensures.floor point.assigned under in
    cut_points s.lists.records.items s.lists.pending.items s.lists.top s.lists.below.items c.drop_newer-floor.new.below.items point c.in-Some.is c.self.invariant goals
    c.drop_newer-floor.result c.args.depth
    (subst (λ rs. goals_of rs goals ≡ rest_of (goals_of rs point.goals)) c.deref.ensures.value c.behind_first-goals.ensures.value)
    c.behind_first-goals.ensures.smaller c.drop_newer-floor.ensures.points low.0 low.1 ∙
    ap (λ v. cut_back c.args.depth v.points) c.self.view_is
