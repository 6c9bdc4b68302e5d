use Rattle.std.proofs.Common.{rules, arith, refl, subst, List, ℕ, Option}
use Rattle.snobol.specs.declared.enumeration.WaysOutcome.{WaysOutcome}
use Rattle.sno_calls.specs.Calls.{Holds}
use Rattle.sno_calls.specs.Searches.{IsToldOf, given_is, kept_is}
use Rattle.sno_calls.proofs.search.Search.give.Goals as goal

-- no room
pub returns-then-len-out : goal.returns-then-len-out
returns-then-len-out c = kept_is _ c.fetch.ensures (search rules) refl refl refl refl

-- all of it was given
pub returns : goal.returns
returns c =
    let told = c.tell_outcome.new.told in
    given_is _ c.fetch.ensures (grind arith) (grind arith)
    (subst (λ (bytes : List ℕ). Holds c.args.out.now c.copy_into-told.new.room told.written bytes) c.as_slice.ensures.value
    (subst (λ (count : ℕ). Holds c.args.out.now c.copy_into-told.new.room count c.as_slice.result.now) (search rules) c.copy_into-told.ensures))
    (subst (λ (ended : Option WaysOutcome). IsToldOf ended c.args.line.now c.tell_outcome.new.line told) c.ended.ensures c.tell_outcome.ensures.status)
    c.clear.ensures.items
