use Rattle.sno_match.proofs.ArbPassLaws.{arb_passes}
use Rattle.sno_match.proofs.arb.pass_ends.Goals as goal

pub returns-clause-passes : goal.returns-clause-passes
returns-clause-passes c =
    let j = c.in-Some-jump_of.ensures.jumps in
    let over = j.5 in
    let jump = c.in-Some-jump_of.jump in
    let holds = rw c.in-Some.is at c.requires.holds in
    let stack = rw c.in-Some.is at c.requires.stack in
    rw c.in-Some.is (arb_passes c.args.patterns.now c.args.subject.now c.args.records.now c.args.pending.now c.args.below.now c.in-Some.point j.0 jump.place
    j.1 j.2 c.args.left jump.price holds stack j.3 j.4 over.0 over.1 over.2 over.3 over.4)
