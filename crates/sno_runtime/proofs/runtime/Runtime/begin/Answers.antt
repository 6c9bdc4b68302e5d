use Rattle.std.proofs.Common.{refl}
use Rattle.sno_runtime.proofs.runtime.Runtime.begin.Goals as goal

pub returns-clause-begun : goal.returns-clause-begun
returns-clause-begun c = rw (← c.self.view_is) (c.begin.new.self, c.if-not-begin.ensures.begun refl, refl)
