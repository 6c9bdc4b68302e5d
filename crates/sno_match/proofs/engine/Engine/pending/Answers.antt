use Rattle.std.proofs.Common.{refl}
use Rattle.sno_match.proofs.CountLaws.{match_counted}
use Rattle.sno_match.proofs.engine.Engine.pending.Goals as goal

pub returns-clause-last : goal.returns-clause-last
returns-clause-last g c = let counts = match_counted _ _ _ _ c.self.invariant.0 refl in rw (← c.self.view_is) counts.pending
