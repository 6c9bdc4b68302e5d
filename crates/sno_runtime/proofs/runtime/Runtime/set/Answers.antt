use Rattle.std.proofs.Common.{sym, subst}
use Rattle.sno_runtime.specs.Runtime.{IsKnown}
use Rattle.sno_runtime.proofs.Stores.{known_set}
use Rattle.sno_runtime.proofs.runtime.Runtime.set.Goals as goal

pub invariant_of-self : goal.invariant_of-self
invariant_of-self c = subst (IsKnown c.self.inside.patterns) (sym c.set.ensures)
    (known_set _ c.args.name c.args.value _ (rw (← c.self.view_is) at c.requires) c.self.invariant)
