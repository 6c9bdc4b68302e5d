use Rattle.std.proofs.Common.{refl, subst}
use Rattle.sno_match.specs.Matching.{IsCounted}
use Rattle.sno_match.proofs.CountLaws.{match_counted}
use Rattle.sno_match.proofs.engine.Engine.begin_on.Goals as goal

pub returns-then-as_slice-gt-MOST_BYTES-clause-counts : goal.returns-then-as_slice-gt-MOST_BYTES-clause-counts
returns-then-as_slice-gt-MOST_BYTES-clause-counts g c = subst IsCounted c.self.view_is (match_counted _ _ _ _ c.self.invariant.0 refl)

pub returns-in_err-lent-clause-counts : goal.returns-in_err-lent-clause-counts
returns-in_err-lent-clause-counts g c = subst IsCounted c.self.view_is (match_counted _ _ _ _ c.self.invariant.0 refl)
