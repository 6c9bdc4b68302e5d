use Rattle.std.proofs.Common.{◌+◌, ◌-◌, ◌*◌, length}
use Rattle.snobol.proofs.calls.+call+fn-call-closure.Given as goal

-- how many more calls may be open counts

abbrev pub decreases-call : goal.decreases-call
decreases-call g l = (200 - length l.runtime.now.store.calls) * 2

abbrev pub decreases-closure : goal.decreases-closure
decreases-closure g l = (200 - length l.m.now.store.calls) * 2 + 1
