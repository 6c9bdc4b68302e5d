use Rattle.std.proofs.Common.{◌≡◌, ◌-◌, arith, subst, slice_get, Some}
use Rattle.sno_match.specs.Matching.{in_trace, trace_of}
use Rattle.sno_match.proofs.laws.told_in_order.Goals as goal

pub returns : goal.returns
returns c = λ old new event told going.
    let grows = told.grows going in
    let before : new.told - 1 ≡ old.told = omega arith in
    subst (λ n. slice_get (trace_of new) n ≡ Some (in_trace event new.way, new.steps)) before told.at
