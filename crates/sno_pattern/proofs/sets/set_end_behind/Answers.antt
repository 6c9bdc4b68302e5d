use Rattle.std.proofs.Common.{◌+◌, arith}
use Rattle.sno_pattern.proofs.ShapeLaws.{one_set_end}
use Rattle.sno_pattern.proofs.sets.set_end_behind.Goals as goal

pub returns-in_default : goal.returns-in_default
returns-in_default c = λ from k at. one_set_end c.args.prim c.args.set.now c.args.subject.now from (k + 1) c.in_default.not-BreakX (λ e. omega arith)
