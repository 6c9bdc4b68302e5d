use Rattle.std.proofs.Common.{None, Some}
use Rattle.snobol.proofs.NextLaws.{left_here}
use Rattle.snobol.proofs.telling.tell_next.Goals as goal

pub returns-in-Some-clause-does : goal.returns-in-Some-clause-does
returns-in-Some-clause-does g c =
    left_here c.args.program.now c.args.expression c.args.subject.now c.args.anchored c.args.limit c.args.search.now (Some c.in-Some.matcher) _ _ _ _ _
    c.in-Some.is c.tell_line.ensures.does

pub returns-clause-does : goal.returns-clause-does
returns-clause-does g c =
    left_here c.args.program.now c.args.expression c.args.subject.now c.args.anchored c.args.limit c.args.search.now None _ _ _ _ _
    c.in_default.is c.tell_first.ensures.does
