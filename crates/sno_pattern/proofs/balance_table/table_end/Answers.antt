use Rattle.std.proofs.Common.{arith}
use Rattle.sno_pattern.proofs.HopLaws.{table-none}
use Rattle.sno_pattern.proofs.balance_table.table_end.Goals as goal

pub returns-in-0 : goal.returns-in-0
returns-in-0 c = table-none c.args.subject.now c.args.table.now c.args.at c.requires (omega arith) c.in-0.is
