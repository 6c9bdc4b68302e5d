use Rattle.std.proofs.Common.{arith, ◌≤◌, length, sym, subst, List, [], take}
use Rattle.sno_match.specs.declared.plan.Front.TheVariants.{Nothing}
use Rattle.sno_match.specs.inner.Shared.{Extends}
use Rattle.sno_match.specs.declared.records.GoalRecord.{GoalRecord}
use Rattle.sno_match.proofs.HandLaws.{floor_in_records, goals_in_records, none_put, stayed}
use Rattle.sno_match.proofs.hand.stay.Goals as goal

pub returns : goal.returns
returns c = λ pending holds.
    let records = c.args.records.now.items in
    let below = c.args.below.now.items in
    let point = c.args.point in
    let behind = c.args.behind in
    let keep = c.larger-keep.result in
    let larger = c.larger-keep.ensures in
    let inside = larger.least (length records) (goals_in_records records pending point below holds) (floor_in_records records pending point below holds) in
    let near : behind ≤ keep = omega (arith, c.requires.behind.1, larger.first) in
    stayed records pending point below holds behind c.requires.behind Nothing (omega arith) c.args.cursor keep behind c.truncate.new.self.items
    near larger.second inside
    (subst (λ (rs : List GoalRecord). Extends (take keep records) behind [] rs behind) (sym c.truncate.ensures.items)
    (none_put records keep behind holds.falls inside near))
    c.args.next larger.first c.push_reserved.new.self.items c.push_reserved.ensures.items
