use Rattle.sno_runtime.proofs.Found.{keyed}
use Rattle.sno_runtime.proofs.runtime.Runtime.has_key.Goals as goal

pub returns : goal.returns
returns c = λ yes name is.
    rw (← c.self.view_is) ((keyed _ name c.args.symbol c.args.key c.self.invariant (c.has_key.ensures yes) is).0)
