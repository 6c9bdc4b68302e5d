use Rattle.std.proofs.Common.{◌≡◌, ◌∙◌, ap, subst, length, arith}
use Rattle.sno_match.specs.Point.{rest_of, branched}
use Rattle.sno_match.specs.inner.Shared.{goals_of}
use Rattle.sno_match.proofs.SharedLaws.{fits, branched_holds, branched_points}
use Rattle.sno_match.proofs.shared.SharedGoalsPoints.branch.Goals as goal

pub invariant_of-self-2 : goal.invariant_of-self-2
invariant_of-self-2 c =
    let s = c.self.inside in
    let point = c.in-Some.point in
    let behind = c.behind_first-behind.result in
    let within = fits s.lists.records.items s.lists.pending.items s.lists.top s.lists.below.items point c.in-Some.is c.self.invariant in
    let larger = c.larger-keep.ensures in
    branched_holds s.lists.records.items s.lists.pending.items s.lists.top s.lists.below.items point c.in-Some.is c.self.invariant c.put_front.new.records.items c.args.front.now
    c.in_ok-cursor.cursor behind c.larger-keep.result c.in_ok-goals.goals
    (subst (λ rs. goals_of rs behind ≡ rest_of (goals_of rs point.goals)) c.deref.ensures.value c.behind_first-behind.ensures.value)
    (omega (arith, c.behind_first-behind.ensures.smaller, larger.first))
    (larger.least (length s.lists.records.items) within.0 within.1) c.in_ok-goals.ensures.ok c.in_ok-next.next larger.first larger.second c.reserve.new.self.items
    c.push_reserved.new.self.items c.reserve.ensures.items c.push_reserved.ensures.items

pub returns-clause-ok : goal.returns-clause-ok
returns-clause-ok c =
    let s = c.self.inside in
    let point = c.in-Some.point in
    let behind = c.behind_first-behind.result in
    let within = fits s.lists.records.items s.lists.pending.items s.lists.top s.lists.below.items point c.in-Some.is c.self.invariant in
    let larger = c.larger-keep.ensures in
    branched_points s.lists.records.items s.lists.pending.items s.lists.top s.lists.below.items point c.in-Some.is c.self.invariant c.put_front.new.records.items c.args.front.now
    c.in_ok-cursor.cursor behind c.larger-keep.result c.in_ok-goals.goals
    (subst (λ rs. goals_of rs behind ≡ rest_of (goals_of rs point.goals)) c.deref.ensures.value c.behind_first-behind.ensures.value)
    (omega (arith, c.behind_first-behind.ensures.smaller, larger.first))
    (larger.least (length s.lists.records.items) within.0 within.1) c.in_ok-goals.ensures.ok c.in_ok-next.next larger.first larger.second c.reserve.new.self.items
    c.push_reserved.new.self.items c.reserve.ensures.items c.push_reserved.ensures.items ∙
    ap (λ v. branched c.args.front.now c.in_ok-cursor.cursor c.in_ok-next.next v.points) c.self.view_is ∙
    ap (λ at. branched c.args.front.now at c.in_ok-next.next c.args.self.now.points) c.in_ok-cursor.ensures ∙
    ap (λ at. branched c.args.front.now c.args.cursor at c.args.self.now.points) c.in_ok-next.ensures
