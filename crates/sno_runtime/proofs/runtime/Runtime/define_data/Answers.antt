use Rattle.sno_runtime.proofs.TypeLaws.{typed, typed_known}
use Rattle.sno_runtime.proofs.runtime.Runtime.define_data.Goals as goal

pub invariant_of-self-2 : goal.invariant_of-self-2
invariant_of-self-2 c = typed_known c.self.inside.patterns _ _ c.args.prototype.now _ c.requires c.self.invariant c.in_ok-define_data.ensures

pub returns : goal.returns
returns c = rw (← c.self.view_is) (typed _ _ c.args.prototype.now _ c.in_ok-define_data.ensures)
