use Rattle.std.proofs.Common.{refl, inl}
use Rattle.snobol.specs.declared.enumeration.WaysOutcome.TheVariants.{NoMemory}
use Rattle.sno_calls.proofs.search.begin.Goals as goal

pub returns-clause-ended : goal.returns-clause-ended
returns-clause-ended c = λ none. (NoMemory, inl refl, c.tell_outcome-in-Err-new.ensures.status)
