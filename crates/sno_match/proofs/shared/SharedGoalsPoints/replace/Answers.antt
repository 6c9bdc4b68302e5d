use Rattle.std.proofs.Common.{◌≡◌, ◌∙◌, ap, sym, subst, length, arith}
use Rattle.sno_match.specs.Point.{rest_of, replaced}
use Rattle.sno_match.specs.inner.Shared.{goals_of}
use Rattle.sno_match.proofs.SharedLaws.{fits, replaced_points, first_dropped_holds, first_dropped_points}
use Rattle.sno_match.proofs.shared.SharedGoalsPoints.replace.Goals as goal

pub returns-clause-ok : goal.returns-clause-ok
returns-clause-ok c =
    let s = c.self.inside in
    let point = c.in-Some.point in
    let behind = c.behind_first-behind.result in
    let within = fits s.lists.records.items s.lists.pending.items s.lists.top s.lists.below.items point c.in-Some.is c.self.invariant in
    let larger = c.larger-keep.ensures in
    replaced_points s.lists.records.items s.lists.pending.items s.lists.top s.lists.below.items point c.in-Some.is c.self.invariant c.put_front.new.records.items c.args.front.now
    c.in_ok-cursor.cursor behind c.larger-keep.result c.in_ok-goals.goals
    (subst (λ rs. goals_of rs behind ≡ rest_of (goals_of rs point.goals)) c.deref.ensures.value c.behind_first-behind.ensures.value) larger.first
    (larger.least (length s.lists.records.items) (omega (arith, c.behind_first-behind.ensures.smaller, within.0)) within.1) c.in_ok-goals.ensures.ok larger.second ∙
    ap (λ v. replaced c.args.front.now c.in_ok-cursor.cursor v.points) c.self.view_is ∙
    ap (λ at. replaced c.args.front.now at c.args.self.now.points) c.in_ok-cursor.ensures

pub invariant_of-self : goal.invariant_of-self
invariant_of-self c =
    let s = c.self.inside in
    let point = c.in-Some.point in
    let behind = c.behind_first-behind.result in
    first_dropped_holds s.lists.records.items s.lists.pending.items s.lists.top s.lists.below.items point c.in-Some.is c.self.invariant c.in_ok-cursor.cursor behind
    (subst (λ rs. goals_of rs behind ≡ rest_of (goals_of rs point.goals)) c.deref.ensures.value c.behind_first-behind.ensures.value)
    c.behind_first-behind.ensures.smaller

pub returns-then-is_empty-clause-ok : goal.returns-then-is_empty-clause-ok
returns-then-is_empty-clause-ok c =
    let s = c.self.inside in
    let point = c.in-Some.point in
    let behind = c.behind_first-behind.result in
    first_dropped_points s.lists.records.items s.lists.pending.items s.lists.top s.lists.below.items point c.in-Some.is c.self.invariant c.in_ok-cursor.cursor behind
    (subst (λ rs. goals_of rs behind ≡ rest_of (goals_of rs point.goals)) c.deref.ensures.value c.behind_first-behind.ensures.value)
    c.behind_first-behind.ensures.smaller c.args.front.now (sym c.is_empty.ensures ∙ c.if-is_empty.true) ∙
    ap (λ v. replaced c.args.front.now c.in_ok-cursor.cursor v.points) c.self.view_is ∙
    ap (λ at. replaced c.args.front.now at c.args.self.now.points) c.in_ok-cursor.ensures
