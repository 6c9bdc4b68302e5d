-- The event of a match that is told next.
use Rattle.std.proofs.Common.{◌≡◌, ◌-◌, arith, Bool, true, false, ◌||◌, refl, Some, slice_get}
use Rattle.sno_match.specs.declared.event.Event.{Event as Told}
use Rattle.sno_match.specs.Matching.{in_trace, Matching, SameMatch, IsTold, trace_of}

pub told_next : (old new : Matching) (event : Told) → SameMatch old new → IsTold old new event → old.ended ≡ false → slice_get (trace_of old) old.told
    ≡ Some (in_trace event new.way, new.steps)
told_next old new event same told going =
    let grows = told.grows going in
    let before : new.told - 1 ≡ old.told = omega arith in
    rw (same.trace, before) at told.at

pub neither : (x y : Bool) → (x || y) ≡ false → (x ≡ false) × (y ≡ false)
neither true y h = absurd (cc h)
neither false y h = (refl, h)
