use Rattle.sno_pattern.proofs.RunLaws.{break-some, break-none}
use Rattle.sno_pattern.proofs.sets.break_end.Goals as goal

pub returns-in-Some : goal.returns-in-Some
returns-in-Some c = break-some c.args.set.now c.args.subject.now c.args.at c.in-Some.before c.in-Some.ensures

pub returns-in-None : goal.returns-in-None
returns-in-None c = break-none c.args.set.now c.args.subject.now c.args.at c.in-None.ensures
