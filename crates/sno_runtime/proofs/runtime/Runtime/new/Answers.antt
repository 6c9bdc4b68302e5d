use Rattle.std.proofs.Common.{rules}
use Rattle.sno_runtime.proofs.Stores.{new_known}
use Rattle.sno_runtime.proofs.runtime.Runtime.new.Goals as goal

pub invariant_of-result-3 : goal.invariant_of-result-3
invariant_of-result-3 c = rw (c.patterns.view_is, c.store.view_is, c.in_ok-store.ensures.ok) (new_known _ (search rules))
