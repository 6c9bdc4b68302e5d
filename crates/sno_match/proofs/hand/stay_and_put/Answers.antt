use Rattle.std.proofs.Common.{arith, ◌≤◌, length, ◌+◌}
use Rattle.sno_match.specs.declared.plan.Front.TheVariants.{One}
use Rattle.sno_match.proofs.HandLaws.{floor_in_records, goals_in_records, one_put, stayed}
use Rattle.sno_match.proofs.hand.stay_and_put.Goals as goal

pub returns : goal.returns
returns c = λ pending holds.
    let records = c.args.records.now.items in
    let below = c.args.below.now.items in
    let point = c.args.point in
    let behind = c.args.behind in
    let keep = c.larger-keep.result in
    let larger = c.larger-keep.ensures in
    let inside = larger.least (length records) (goals_in_records records pending point below holds) (floor_in_records records pending point below holds) in
    let near : behind ≤ keep = omega (arith, c.requires.behind.1, larger.first) in
    stayed records pending point below holds behind c.requires.behind (One c.args.goal) (omega arith) point.cursor keep (keep + 1) c.push_reserved.new.self.items
    near larger.second inside
    (one_put records keep behind holds.falls inside near c.args.goal c.truncate.new.self.items c.push_reserved.new.self.items
    c.truncate.ensures.items c.push_reserved.ensures.items)
    point.cursor larger.first c.push_reserved-2.new.self.items c.push_reserved-2.ensures.items
