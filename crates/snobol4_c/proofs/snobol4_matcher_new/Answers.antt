use Rattle.std.proofs.Common.{rules}
use Rattle.sno_calls.specs.Searches.{begun_is, ended_is}
use Rattle.snobol4_c.proofs.snobol4_matcher_new.Goals as goal

-- the listing that was begun
pub returns-in-Some-clause-done : goal.returns-in-Some-clause-done
returns-in-Some-clause-done c = λ s p u.
    let b = c.in-Some.ensures.begun in
    begun_is c.in-Some.search.value c.put.ensures.value c.put.ensures.held b.0 b.1 (search rules) b.2

-- why there is none
pub returns-clause-done : goal.returns-clause-done
returns-clause-done c = λ s p u.
    let e = c.begin.ensures.ended (search rules) in
    ended_is e.0 e.1 c.take-before.ensures.left (search rules) e.2
