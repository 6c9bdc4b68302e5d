use Rattle.sno_runtime.proofs.containers.prototype.Goals as goal

pub returns-in-Array : goal.returns-in-Array
returns-in-Array c = rw c.in-Array.is c.prototype.ensures
