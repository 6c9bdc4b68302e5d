use Rattle.std.proofs.Common.{◌≤◌, ◌<◌, length}
use Rattle.sno_advice.proofs.survey.count_statements.Given as goal

abbrev pub invariant-loop-count : goal.invariant-loop-count
invariant-loop-count l = (l.count ≤ length l.fn.program.statements) × (0 < l.count → length l.fn.program.statements ≤ 100000)
