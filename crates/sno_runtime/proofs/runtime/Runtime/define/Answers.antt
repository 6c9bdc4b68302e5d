use Rattle.sno_runtime.proofs.Calls.{defined, defined_known}
use Rattle.sno_runtime.proofs.runtime.Runtime.define.Goals as goal

pub invariant_of-self-2 : goal.invariant_of-self-2
invariant_of-self-2 c = defined_known c.self.inside.patterns _ _ c.args.prototype.now c.args.entry.now _ c.requires c.self.invariant c.in_ok-define.ensures

pub returns : goal.returns
returns c = rw (← c.self.view_is) (defined _ _ c.args.prototype.now c.args.entry.now _ c.in_ok-define.ensures)
