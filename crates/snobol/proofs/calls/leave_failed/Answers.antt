use Rattle.snobol.proofs.calls.leave_failed.Goals as goal

pub returns : goal.returns
returns c = λ calls call are. (c.leave.result, c.leave.ensures calls call are)
