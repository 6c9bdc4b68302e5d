-- The places at which BREAKX stops.
use Rattle.std.proofs.Common.{◌≡◌, ℕ, zero, suc, ◌+◌, ◌-◌, ◌<◌, ◌≤◌, Bool, true, false, if◌then◌else◌, Some, None, List, [], ◌∷◌, Option, length, drop}
use Rattle.std.proofs.Common.{slice_get, refl, sym, ◌∙◌, ap, arith}
use Rattle.std.proofs.lemmas.List.{drop-drop, length-drop}
use Rattle.std.specs.Option.{is_some}
use Rattle.sno_value.specs.declared.kind.PrimitiveKind.TheVariants.{Break, BreakX}
use Rattle.sno_pattern.specs.Pattern.{Among}
use Rattle.sno_pattern.specs.Ends.{is_in, first_in, all_in, ends}
use Rattle.sno_pattern.specs.Places.{IsFirstPlace}
use Rattle.sno_pattern.specs.inner.Places.{leaf_has_end}
use Rattle.sno_pattern.proofs.PlaceLaws.{same_place}

-- the first of all is the first
pub all_in-first : (set : List ℕ) (c : ℕ) (bytes : List ℕ) → slice_get (all_in set c bytes) 0 ≡ slice_get (first_in set c bytes) 0
all_in-first set c [] = refl
all_in-first set c (byte ∷ bytes) = go (is_in set byte) (all_in-first set (c + 1) bytes)
  where
    go : (b : Bool) → slice_get (all_in set (c + 1) bytes) 0 ≡ slice_get (first_in set (c + 1) bytes) 0 →
        slice_get (if b then c ∷ all_in set (c + 1) bytes else all_in set (c + 1) bytes) 0 ≡ slice_get (if b then c ∷ [] else first_in set (c + 1) bytes) 0
    go true h = refl
    go false h = h

abbrev Stop : List ℕ → ℕ → List ℕ → List ℕ → ℕ → ℕ → Type 0
Stop set c bytes stops k e = (c ≤ e) × (e < c + length bytes) × (slice_get stops (suc k) ≡ slice_get (first_in set (e + 1) (drop (e + 1 - c) bytes)) 0)

-- behind a stop the next is the first place from the byte behind it
stop_next : (set : List ℕ) (c : ℕ) (bytes : List ℕ) (k e : ℕ) → slice_get (all_in set c bytes) k ≡ Some e → Stop set c bytes (all_in set c bytes) k e
stop_next set c [] k e h = cc
stop_next set c (byte ∷ bytes) k e h = go (is_in set byte) k (λ j. stop_next set (c + 1) bytes j e) h
  where
    later : (stops : List ℕ) (j : ℕ) → Stop set (c + 1) bytes stops j e → Stop set c (byte ∷ bytes) stops j e
    later stops j is =
        let low : c + 1 ≤ e = is.0 in
        let n : e + 1 - c ≡ suc (e + 1 - (c + 1)) = omega arith in
        (omega arith, omega (arith, is.1), is.2 ∙ ap (λ m. slice_get (first_in set (e + 1) (drop m (byte ∷ bytes))) 0) (sym n))

    here : c ≡ e → Stop set c (byte ∷ bytes) (c ∷ all_in set (c + 1) bytes) 0 e
    here same =
        let n : c + 1 - c ≡ 1 = omega arith in
        rw (← same) (omega arith, omega arith, all_in-first set (c + 1) bytes ∙ ap (λ m. slice_get (first_in set (c + 1) (drop m (byte ∷ bytes))) 0) (sym n))

    go : (b : Bool) (j : ℕ) → ((i : ℕ) → slice_get (all_in set (c + 1) bytes) i ≡ Some e → Stop set (c + 1) bytes (all_in set (c + 1) bytes) i e) →
        slice_get (if b then c ∷ all_in set (c + 1) bytes else all_in set (c + 1) bytes) j ≡ Some e →
        Stop set c (byte ∷ bytes) (if b then c ∷ all_in set (c + 1) bytes else all_in set (c + 1) bytes) j e
    go true zero next at = let same : c ≡ e = cc in here same
    go true (suc j) next at = let is = later (all_in set (c + 1) bytes) j (next j at) in (is.0, is.1, is.2)
    go false j next at = later (all_in set (c + 1) bytes) j (next j at)

module _ (set s : List ℕ) (c k last : ℕ) (at : slice_get (ends (Among BreakX set) s c) k ≡ Some last) where
  here : Stop set c (drop c s) (all_in set c (drop c s)) k last
  here = stop_next set c (drop c s) k last at

  behind : drop (last + 1 - c) (drop c s) ≡ drop (last + 1) s
  behind = let low : c ≤ last = here.0 in let n : c + (last + 1 - c) ≡ last + 1 = omega arith in drop-drop (last + 1 - c) c s ∙ ap (λ m. drop m s) n

  pub stop_behind : slice_get (ends (Among BreakX set) s c) (k + 1) ≡ slice_get (ends (Among BreakX set) s (last + 1)) 0
  stop_behind =
      let more : k + 1 ≡ suc k = omega arith in
      ap (slice_get (all_in set c (drop c s))) more ∙ here.2 ∙ ap (λ bytes. slice_get (first_in set (last + 1) bytes) 0) behind
      ∙ sym (all_in-first set (last + 1) (drop (last + 1) s))

  -- a stop stands before the end
  pub no_stop_behind : length s ≤ last → slice_get (ends (Among BreakX set) s c) (k + 1) ≡ None
  no_stop_behind h = absurd (omega (arith, here.0, here.1, length-drop c s))

-- from a place without a stop there is none with a greater number
none_after : (stops : List ℕ) (k i : ℕ) → k ≤ i → slice_get stops k ≡ None → slice_get stops i ≡ None
none_after [] k i h e = refl
none_after (x ∷ stops) zero i h e = cc
none_after (x ∷ stops) (suc k) zero h e = absurd (omega arith)
none_after (x ∷ stops) (suc k) (suc i) h e = none_after stops k i (omega arith) e

pub none_at_first : (set s : List ℕ) (c i : ℕ) (r q : Option ℕ) → r ≡ slice_get (ends (Among BreakX set) s c) 0 → r ≡ None → q ≡ None
    → q ≡ slice_get (ends (Among BreakX set) s c) i
none_at_first set s c i r q first is none = none ∙ sym (none_after (ends (Among BreakX set) s c) 0 i (omega arith) (sym first ∙ is))

pub none_behind : (set s : List ℕ) (c k i : ℕ) (r q : Option ℕ) → k < i → r ≡ slice_get (ends (Among BreakX set) s c) (k + 1) → r ≡ None → q ≡ None
    → q ≡ slice_get (ends (Among BreakX set) s c) i
none_behind set s c k i r q before next is none = none ∙ sym (none_after (ends (Among BreakX set) s c) (k + 1) i (omega arith) (sym next ∙ is))

-- BREAKX has an end where BREAK has one
pub stop_place : (set s : List ℕ) (from until place : ℕ) → IsFirstPlace (leaf_has_end (Among Break set) s) from until place
    → IsFirstPlace (leaf_has_end (Among BreakX set) s) from until place
stop_place set s from until place first =
    same_place (leaf_has_end (Among Break set) s) (leaf_has_end (Among BreakX set) s) from until place
    (λ c. ap is_some (sym (all_in-first set c (drop c s)))) first
