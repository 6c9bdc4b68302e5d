use Rattle.std.proofs.Common.{reverse}
use Rattle.sno_match.proofs.CutPoints.{copied_cut}
use Rattle.sno_match.proofs.copied.CopiedGoalsPoints.cut.Goals as goal

pub returns-in-Some-clause-points : goal.returns-in-Some-clause-points
returns-in-Some-clause-points c =
    copied_cut c.args.self.now.top c.args.self.now.below.items c.retire_newer.new.below.items c.in-Some.point (reverse c.put_front.new.goals.items) c.args.depth
    c.in-Some.is c.put_front.ensures c.retire_newer.ensures
