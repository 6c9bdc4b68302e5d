use Rattle.std.proofs.Common.{◌∙◌, ap}
use Rattle.sno_match.specs.Point.{below}
use Rattle.sno_match.proofs.SharedLaws.{turned_under, dropped_holds, dropped_points}
use Rattle.sno_match.proofs.shared.SharedGoalsPoints.pop.Goals as goal

pub invariant_of-self : goal.invariant_of-self
invariant_of-self c =
    let s = c.self.inside in
    let turned = turned_under s.lists.below.items c.pop-self-inside.new.self.items _ _ s.lists.below.ok.0 c.pop-self-inside.result c.pop-self-inside.ensures.items
    c.pop-self-inside.ensures.cases in
    dropped_holds s.lists.records.items s.lists.pending.items s.lists.top s.lists.below.items c.in-Some.point c.in-Some.is c.self.invariant c.pop-self-inside.result
    c.pop-self-inside.new.self.items turned c.truncate.new.self.items c.truncate.ensures.items

pub returns-in-Some-clause-points : goal.returns-in-Some-clause-points
returns-in-Some-clause-points c =
    let s = c.self.inside in
    let turned = turned_under s.lists.below.items c.pop-self-inside.new.self.items _ _ s.lists.below.ok.0 c.pop-self-inside.result c.pop-self-inside.ensures.items
    c.pop-self-inside.ensures.cases in
    dropped_points s.lists.records.items s.lists.pending.items s.lists.top s.lists.below.items c.in-Some.point c.in-Some.is c.self.invariant c.pop-self-inside.result
    c.pop-self-inside.new.self.items turned c.truncate.new.self.items c.truncate.ensures.items ∙
    ap (λ v. below v.points) c.self.view_is
