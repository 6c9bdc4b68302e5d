use Rattle.std.proofs.Common.{sym}
use Rattle.sno_pattern.proofs.NextEndLaws.{arb-next, arb-last}
use Rattle.sno_pattern.proofs.head.behind_in_arb.Goals as goal

pub returns-then-last-subject : goal.returns-then-last-subject
returns-then-last-subject c = λ from i h at. sym (arb-next c.args.subject.now from i c.args.last h at c.if-last-subject.true)

pub returns-else-last-subject : goal.returns-else-last-subject
returns-else-last-subject c = λ from i h at. sym (arb-last c.args.subject.now from i c.args.last h at c.if-last-subject.false)
