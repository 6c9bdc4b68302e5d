use Rattle.sno_pattern.proofs.HopLaws.{end-closed, end-other}
use Rattle.sno_pattern.proofs.balance_table.end_before_known.Goals as goal

pub returns-then-byte-eq41 : goal.returns-then-byte-eq41
returns-then-byte-eq41 c = end-closed c.args.subject.now c.args.at c.requires.inside c.if-byte-eq41.true

pub returns : goal.returns
returns c = end-other c.args.subject.now c.args.at c.requires.inside c.if-byte-eq40.false c.if-byte-eq41.false
