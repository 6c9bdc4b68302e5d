use Rattle.sno_runtime.proofs.Found.{keyed, read_again}
use Rattle.sno_runtime.proofs.runtime.Runtime.value_by_key.Goals as goal

pub returns : goal.returns
returns c = λ name is.
    let found = keyed _ name c.args.symbol c.args.key c.self.invariant c.in_ok-value.ensures.key is in
    rw (← c.self.view_is)
    (read_again _ name c.args.symbol c.in_ok-value.value.now c.self.invariant found.1 c.in_ok-value.ensures.value found.0)
