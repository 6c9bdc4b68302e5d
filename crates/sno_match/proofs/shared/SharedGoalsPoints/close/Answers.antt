use Rattle.std.proofs.Common.{◌≡◌, ◌∙◌, ap, subst}
use Rattle.sno_match.specs.Point.{rest_of, closed}
use Rattle.sno_match.specs.inner.Shared.{goals_of}
use Rattle.sno_match.proofs.SharedLaws.{closed_holds, closed_points}
use Rattle.sno_match.proofs.shared.SharedGoalsPoints.close.Goals as goal

pub invariant_of-self-2 : goal.invariant_of-self-2
invariant_of-self-2 c =
    let s = c.self.inside in
    let point = c.in-Some.point in
    let behind = c.behind_first.result in
    closed_holds s.lists.records.items s.lists.pending.items s.lists.top s.lists.below.items point c.in-Some.is c.self.invariant
    c.put_pending.new.pending.items c.args.assignment behind
    (subst (λ rs. goals_of rs behind ≡ rest_of (goals_of rs point.goals)) c.deref.ensures.value c.behind_first.ensures.value) c.behind_first.ensures.smaller
    c.in_ok-put_pending.ensures.ok c.in_ok-assigned.assigned c.in_ok-assigned.ensures

pub returns-clause-ok : goal.returns-clause-ok
returns-clause-ok c =
    let s = c.self.inside in
    let point = c.in-Some.point in
    let behind = c.behind_first.result in
    closed_points s.lists.records.items s.lists.pending.items s.lists.top s.lists.below.items point c.in-Some.is c.self.invariant
    c.put_pending.new.pending.items c.args.assignment behind
    (subst (λ rs. goals_of rs behind ≡ rest_of (goals_of rs point.goals)) c.deref.ensures.value c.behind_first.ensures.value) c.behind_first.ensures.smaller
    c.in_ok-put_pending.ensures.ok c.in_ok-assigned.assigned c.in_ok-assigned.ensures ∙
    ap (λ v. closed c.args.assignment v.points) c.self.view_is
