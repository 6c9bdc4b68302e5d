use Rattle.std.proofs.Common.{◌∙◌, sym}
use Rattle.sno_pattern.proofs.StopLaws.{stop_behind, no_stop_behind}
use Rattle.sno_pattern.proofs.sets.stop_behind.Goals as goal

pub returns-then-last-subject : goal.returns-then-last-subject
returns-then-last-subject c = λ from k at. c.first_stop.ensures ∙ sym (stop_behind c.args.set.now c.args.subject.now from k c.args.last at)

pub returns-else-last-subject : goal.returns-else-last-subject
returns-else-last-subject c = λ from k at. sym (no_stop_behind c.args.set.now c.args.subject.now from k c.args.last at c.if-last-subject.false)
