use Rattle.sno_pattern.proofs.ShapeLaws.{one_set_end}
use Rattle.sno_pattern.proofs.sets.later_set_end.Goals as goal

pub returns-in_default : goal.returns-in_default
returns-in_default c = one_set_end c.args.prim c.args.set.now c.args.subject.now c.args.at c.args.i c.in_default.not-BreakX c.requires.later
