use Rattle.std.proofs.Common.{sym, arith}
use Rattle.sno_pattern.proofs.ShapeLaws.{one_end}
use Rattle.sno_pattern.proofs.ends.has_one_end.Goals as goal

pub returns-in_default : goal.returns-in_default
returns-in_default c = λ told s from.
    sym (one_end c.args.kind.now s from 1 c.in_default.not-Arb c.in_default.not-Bal c.in_default.not-Among (λ e. omega arith))
