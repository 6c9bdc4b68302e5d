use Rattle.std.proofs.Common.{sym, ◌∙◌}
use Rattle.sno_runtime.proofs.Performing.{stored}
use Rattle.sno_runtime.proofs.effects.assign.Goals as goal

pub returns-clause-does : goal.returns-clause-does
returns-clause-does g c = stored c.args.target c.args.value _ _ _ (sym c.is_output.ensures ∙ c.if-is_output.false) c.set.ensures
