use Rattle.std.proofs.Common.{sym, ◌∙◌}
use Rattle.sno_runtime.proofs.Found.{read_again}
use Rattle.sno_runtime.proofs.runtime.Runtime.value_at.Goals as goal

pub returns : goal.returns
returns c =
    rw (← c.self.view_is) (read_again _ c.args.name.now c.in_ok-symbol_at.field-0 c.get.result.now c.self.invariant
    (sym c.is_input.ensures ∙ c.if-is_input.false) c.get.ensures (rw (← c.self.view_is) at c.in_ok-symbol_at.ensures))
