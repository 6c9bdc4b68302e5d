use Rattle.sno_match.proofs.CountLaws.{match_few}
use Rattle.sno_match.proofs.engine.Engine.told.Goals as goal

pub returns-clause-few : goal.returns-clause-few
returns-clause-few g c = let few = match_few _ _ _ _ c.self.invariant.0 in rw (← c.self.view_is) few
