use Rattle.std.proofs.Common.{map, reverse, take, [], ◌∷◌, ◌∙◌, sym, ap}
use Rattle.sno_match.specs.Point.{rest_of}
use Rattle.sno_match.specs.inner.Shared.{point_of, goals_of}
use Rattle.sno_match.proofs.SharedLaws.{top_is}
use Rattle.sno_match.proofs.shared.SharedGoalsPoints.top.Goals as goal

pub returns-in-None : goal.returns-in-None
returns-in-None c =
    let s = c.self.inside in (
      take c.in-Some.point.assigned s.lists.pending.items,
      map (point_of s.lists.records.items s.lists.pending.items) (reverse s.lists.below.items),
      ap (λ v. v.points) (sym c.self.view_is) ∙ top_is s.lists.records.items s.lists.pending.items s.lists.top s.lists.below.items c.in-Some.point [] c.mark_of.result c.in-Some.is
          (ap (λ rs. goals_of rs c.in-Some.point.goals) (sym c.deref.ensures.value) ∙ c.in-None.ensures.none) c.mark_of.ensures,
    )

pub returns-in-Some-first_of : goal.returns-in-Some-first_of
returns-in-Some-first_of c =
    let s = c.self.inside in
    let rest = rest_of (goals_of c.deref.result.now c.in-Some.point.goals) in (
      rest,
      take c.in-Some.point.assigned s.lists.pending.items,
      map (point_of s.lists.records.items s.lists.pending.items) (reverse s.lists.below.items),
      ap (λ v. v.points) (sym c.self.view_is) ∙
          top_is s.lists.records.items s.lists.pending.items s.lists.top s.lists.below.items c.in-Some.point (c.in-Some-first_of.goal ∷ rest)
          c.mark_of-in-Some-first_of.result c.in-Some.is
          (ap (λ rs. goals_of rs c.in-Some.point.goals) (sym c.deref.ensures.value) ∙ c.in-Some-first_of.ensures.some) c.mark_of-in-Some-first_of.ensures,
    )
