use Rattle.std.proofs.Common.{◌∙◌, arith}
use Rattle.sno_store.proofs.store.Store.leave.Goals as goal

pub invariant_of-self : goal.invariant_of-self
invariant_of-self c = (
  c.close.ensures.values ∙ c.self.invariant.0,
  c.self.invariant.1,
  omega (arith, c.self.invariant.2, c.close.ensures.few),
  c.self.invariant.3,
)
