use Rattle.std.proofs.Common.{map, reverse, [], ◌∷◌, ◌∙◌, sym, ap}
use Rattle.sno_match.specs.Point.{rest_of}
use Rattle.sno_match.specs.Copied.{point_of}
use Rattle.sno_match.proofs.CopiedLaws.{top_is}
use Rattle.sno_match.proofs.copied.CopiedGoalsPoints.top.Goals as goal

pub returns-in-None-first_of : goal.returns-in-None-first_of
returns-in-None-first_of c = (
  c.in-Some.point.pending.items,
  map point_of (reverse c.args.self.now.below.items),
  top_is c.args.self.now.top c.args.self.now.below.items c.in-Some.point [] c.in-Some.is
      (ap reverse (sym c.deref.ensures.value) ∙ c.in-None-first_of.ensures.none),
)

pub returns-in-Some-first_of : goal.returns-in-Some-first_of
returns-in-Some-first_of c = (
  rest_of (reverse c.deref.result.now),
  c.in-Some.point.pending.items,
  map point_of (reverse c.args.self.now.below.items),
  top_is c.args.self.now.top c.args.self.now.below.items c.in-Some.point (c.in-Some-first_of.goal ∷ rest_of (reverse c.deref.result.now)) c.in-Some.is
      (ap reverse (sym c.deref.ensures.value) ∙ c.in-Some-first_of.ensures.some),
)
