-- The events told of a match tell its ways.
use Rattle.std.proofs.Common.{◌≡◌, ℕ, zero, suc, ◌+◌, ◌-◌, ◌<◌, min, Some, List, [], ◌∷◌, length, map, take, slice_get, Contains, ap, subst, arith}
use Rattle.std.proofs.lemmas.Option.{slice_get_within}
use Rattle.std.specs.declared.result.Result.{Result}
use Rattle.std.specs.declared.result.Result.TheVariants.{Ok, Err}
use Rattle.sno_pattern.specs.Table.{tree}
use Rattle.sno_match.specs.declared.event.Event.{Event as Told}
use Rattle.sno_match.specs.declared.event.Event.TheVariants as V
use Rattle.sno_match.specs.Search.{Exhausted, Event, Ended}
use Rattle.sno_match.specs.Ways.{AreExhausted}
use Rattle.sno_match.specs.Matching.{Matching, answers_of, trace_of, told_of, IsTold, TellsWays}
use Rattle.sno_match.proofs.QuietWays.{quiet-ways}

among : (xs : List (Event × ℕ)) (k n : ℕ) (e : Event) (c : ℕ) → slice_get xs k ≡ Some (e, c) → k < n → Contains (map (λ told. told.0) (take n xs)) e
among [] k n e c h l = cc
among (x ∷ xs) k zero e c h l = absurd (omega arith)
among (x ∷ xs) zero (suc n) e c h l = (0, omega arith, (let same : x ≡ (e, c) = cc in ap (λ (t : Event × ℕ). t.0) same))
among (x ∷ xs) (suc k) (suc n) e c h l = let t = among xs k n e c h (omega arith) in
    (suc t.0, (let b : t.0 < length (map (λ (told : Event × ℕ). told.0) (take n xs)) = t.1 in omega arith), t.2)

-- where the answer is Exhausted, the events told end in it
told-exhausted : (old new : Matching) → IsTold old new V.Exhausted → AreExhausted (told_of new)
told-exhausted old new t =
    let within : new.told - 1 < length (trace_of new) = slice_get_within (trace_of new) (new.told - 1) (Ended Exhausted, new.steps) t.at in
    let count : new.told ≡ min (old.told + 1) (length (trace_of new)) = t.count in
    let last : new.told - 1 < new.told = omega arith in
    among (trace_of new) (new.told - 1) new.told (Ended Exhausted) new.steps t.at last

-- whatever the answer, if an Exhausted was told as one
pub session-ways : {E : Type 0} (m : Matching) (answer : Result Told E) → (answer ≡ Ok V.Exhausted → AreExhausted (told_of m)) → TellsWays m answer
session-ways m answer over = record {
  ways = λ quiet.
      let w = quiet-ways (tree m.nodes m.pattern.0) m.subject m.anchored m.limit (answers_of m.nodes m.answers) m.told quiet in
      record { ways = w.ways; told = w.told; rising = w.rising; admitted = w.admitted; below = w.below; all = λ h. w.all (over h); calm = w.calm };
}

pub told-ways : {E : Type 0} (old new : Matching) (event : Told) → IsTold old new event → TellsWays {E = E} new (Ok event)
told-ways old new event t =
    session-ways new (Ok event) (λ e. told-exhausted old new (subst (λ (x : Told). IsTold old new x) (let same : event ≡ V.Exhausted = cc in same) t))

pub refused-ways : {E : Type 0} (m : Matching) (error : E) → TellsWays m (Err error)
refused-ways m error = session-ways m (Err error) (λ e. cc)
