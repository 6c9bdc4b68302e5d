use Rattle.sno_runtime.proofs.Stores.{holds_does}
use Rattle.sno_runtime.proofs.runtime.Runtime.held.Goals as goal

pub returns : goal.returns
returns c = rw (← c.self.view_is) (holds_does _ c.args.name _ c.self.invariant c.get.ensures)
