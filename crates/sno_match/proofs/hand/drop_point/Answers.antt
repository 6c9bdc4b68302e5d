use Rattle.sno_match.proofs.SharedLaws.{turned_under}
use Rattle.sno_match.proofs.HandLaws.{dropped}
use Rattle.sno_match.proofs.hand.drop_point.Goals as goal

pub returns : goal.returns
returns c = λ pending holds.
    let below = c.args.below.now in
    let turned = turned_under below.items c.pop-newest.new.self.items _ _ below.ok.0 c.pop-newest.result c.pop-newest.ensures.items c.pop-newest.ensures.cases in
    dropped c.args.records.now.items pending c.args.point below.items holds c.pop-newest.result c.pop-newest.new.self.items turned
    c.truncate.new.self.items c.truncate.ensures.items
