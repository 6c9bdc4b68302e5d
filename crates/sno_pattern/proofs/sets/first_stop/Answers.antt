use Rattle.std.proofs.Common.{sym, ◌∙◌, drop}
use Rattle.sno_pattern.proofs.StopLaws.{all_in-first}
use Rattle.sno_pattern.proofs.sets.first_stop.Goals as goal

pub returns : goal.returns
returns c = c.break_end.ensures ∙ sym (all_in-first c.args.set.now c.args.at (drop c.args.at c.args.subject.now))
