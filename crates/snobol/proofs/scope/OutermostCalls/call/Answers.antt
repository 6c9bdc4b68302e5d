use Rattle.std.proofs.Common.{arith}
use Rattle.snobol.proofs.scope.OutermostCalls.call.Goals as goal

pub call-requires-clause-level : goal.call-requires-clause-level
call-requires-clause-level g c = let e = c.requires.within.level in omega arith

pub returns : goal.returns
returns g c = rw c.requires.within.level at c.call.ensures
