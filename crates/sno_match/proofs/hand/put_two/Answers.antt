use Rattle.std.proofs.Common.{arith, length, ◌+◌}
use Rattle.sno_match.specs.declared.plan.Front.TheVariants.{Two}
use Rattle.sno_match.proofs.HandLaws.{floor_in_records, goals_in_records, two_put, put}
use Rattle.sno_match.proofs.hand.put_two.Goals as goal

pub returns : goal.returns
returns c = λ pending below holds.
    let records = c.args.records.now.items in
    let point = c.args.point in
    let behind = c.args.behind in
    let keep = c.larger-keep.result in
    let larger = c.larger-keep.ensures in
    let goals = goals_in_records records pending point below holds in
    let inside = larger.least (length records) (omega (arith, c.requires.behind.1, goals)) (floor_in_records records pending point below holds) in
    put records pending point below holds behind c.requires.behind (Two c.args.first c.args.second) (omega arith) point.cursor keep (keep + 2)
    c.push_reserved-2.new.self.items larger.first larger.second inside
    (two_put records keep behind holds.falls inside larger.first c.args.second c.truncate.new.self.items c.push_reserved.new.self.items
    c.truncate.ensures.items c.push_reserved.ensures.items c.args.first c.push_reserved-2.new.self.items c.push_reserved-2.ensures.items)
