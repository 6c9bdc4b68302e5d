use Rattle.std.proofs.Common.{sym, arith}
use Rattle.sno_pattern.proofs.ShapeLaws.{one_set_end}
use Rattle.sno_pattern.proofs.sets.has_one_set_end.Goals as goal

pub returns-in_default : goal.returns-in_default
returns-in_default c = λ told set s from. sym (one_set_end c.args.prim set s from 1 c.in_default.not-BreakX (λ e. omega arith))
