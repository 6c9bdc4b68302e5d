use Rattle.sno_pattern.proofs.ShapeLaws.{arb_end, arb_no_end, one_end}
use Rattle.sno_pattern.proofs.ends.end_of_kind.Goals as goal

pub returns-then-i-subject : goal.returns-then-i-subject
returns-then-i-subject c = rw c.in-Arb.is (arb_end c.args.subject.now c.args.at c.args.i c.requires c.if-i-subject.true)

pub returns-else-i-subject : goal.returns-else-i-subject
returns-else-i-subject c = rw c.in-Arb.is (arb_no_end c.args.subject.now c.args.at c.args.i c.requires c.if-i-subject.false)

pub returns-in_default : goal.returns-in_default
returns-in_default c = one_end c.args.kind.now c.args.subject.now c.args.at c.args.i c.in_default.not-Arb c.in_default.not-Bal
    c.in_default.not-Among c.if-i-eq0.false
