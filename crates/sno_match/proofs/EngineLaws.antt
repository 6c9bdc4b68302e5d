-- One move of the engine, or one start: what is kept between two calls is kept.
use Rattle.std.proofs.Common.{◌≡◌, ℕ, ◌+◌, ◌-◌, ◌*◌, ◌≤◌, ◌<◌, Bool, false, List, [], ◌∷◌, Option, Some, None, length, refl, sym, ◌∙◌, ap, subst, arith}
use Rattle.sno_value.specs.declared.ids.PatId.{PatId}
use Rattle.sno_pattern.specs.Table.{Node, tree}
use Rattle.sno_match.specs.declared.goal.Goal.TheVariants as N
use Rattle.sno_match.specs.declared.event.Event.{Event as Told}
use Rattle.sno_match.specs.declared.event.Event.TheVariants as V
use Rattle.sno_match.specs.declared.event.Pending.{Pending}
use Rattle.sno_match.specs.declared.engine.State.{State}
use Rattle.sno_match.specs.declared.engine.State.TheVariants as S
use Rattle.sno_match.specs.Point.{Point}
use Rattle.sno_match.specs.Top.{first_point}
use Rattle.sno_match.specs.Remaining.{IsStack}
use Rattle.sno_match.specs.inner.State.{after, after_move, waits, ended, owed}
use Rattle.sno_match.specs.Silent.{LeadsOn}
use Rattle.sno_match.specs.inner.Move.{Makes}
use Rattle.sno_match.specs.Matching.{Matching, IsCounted}
use Rattle.sno_match.specs.Scopes.{HasCuts}
use Rattle.sno_match.specs.inner.Starts.{Passes}
use Rattle.sno_match.specs.inner.Running.{later_starts, seen, IsMatch, Advances, GoesOn}
use Rattle.sno_match.proofs.SessionLaws.{Leads, led, led_told, led_on, move_leads, steps_lead, exhausted_leads, limit_leads, start_leads}
use Rattle.sno_match.proofs.CountLaws.{match_counted}

pub going_of : (state : State) → waits state ≡ false → ended state ≡ false → state ≡ S.Going
going_of S.Going h k = refl
going_of S.Waiting h k = absurd (cc)
going_of (S.Ended event) h k = absurd (cc)

-- a match that goes on, seen as o
module _ (o : Matching) (nodes : List Node) (pattern : PatId) (s : List ℕ) (anchored : Bool) (limit : ℕ) (answers : List (Option PatId)) (told steps : ℕ)
    (state : State) (way : List Pending) (points : List Point) (records start : ℕ)
    (view : seen nodes pattern s anchored limit answers told steps state way points records ≡ o)
    (inv : IsMatch (seen nodes pattern s anchored limit answers told steps state way points records) start points state) (asked : o.waits ≡ false)
    (open_end : o.ended ≡ false) where
  pub going : state ≡ S.Going
  going = going_of state (ap (λ (x : Matching). x.waits) view ∙ asked) (ap (λ (x : Matching). x.ended) view ∙ open_end)

  abbrev in_state : State → Matching
  in_state st = seen nodes pattern s anchored limit answers told steps st way points records

  abbrev m : Matching
  m = in_state S.Going

  view_going : m ≡ o
  view_going = subst (λ (st : State). in_state st ≡ o) going view

  inv_going : IsMatch m start points S.Going
  inv_going = subst (λ (st : State). IsMatch (in_state st) start points st) going inv

  module _ (event : Told) (new_steps new_start : ℕ) (new : List Point) (new_way : List Pending) (new_records : ℕ)
      (l : Leads m start points (Some event) new_steps new_start new new_way new_records) where
    abbrev then_told : State → Matching
    then_told st = seen nodes pattern s anchored limit answers (told + 1) new_steps st new_way new new_records

    tells_match : (st : State) → st ≡ after event → IsMatch (then_told st) new_start new st
    tells_match st e = subst (λ (x : State). IsMatch (then_told x) new_start new x) (sym e)
        (led m start points inv_going (Some event) new_steps new_start new new_way new_records l (told + 1) refl)

    tells_event : (st : State) → st ≡ after event → Advances o (Some event) (then_told st)
    tells_event st e =
        subst (λ (x : State). Advances o (Some event) (then_told x)) (sym e)
        (subst (λ (x : Matching). Advances x (Some event) (then_told (after event))) view_going (
          refl,
          record { pattern = refl; subject = refl; anchored = refl; limit = refl; answers = refl; trace = refl },
          led_told m start points inv_going event new_steps new_start new new_way new_records l refl,
        ))

    pub tells_all : (st : State) → st ≡ after event → IsMatch (then_told st) new_start new st × Advances o (Some event) (then_told st)
        × IsCounted (then_told st)
    tells_all st e =
        let kept = tells_match st e in (kept, tells_event st e, match_counted (then_told st) new_start new st kept refl)

  module _ (new_steps new_start : ℕ) (new : List Point) (new_way : List Pending) (new_records : ℕ)
      (l : Leads m start points None new_steps new_start new new_way new_records) where
    abbrev then_on : State → Matching
    then_on st = seen nodes pattern s anchored limit answers told new_steps st new_way new new_records

    goes_match : IsMatch (then_on state) new_start new state
    goes_match =
        subst (λ (x : State). IsMatch (then_on x) new_start new x) (sym going)
        (led m start points inv_going None new_steps new_start new new_way new_records l told (let n : told ≡ told + 0 = omega arith in n))

    goes_on : (2 * (limit - new_steps) + length new < 2 * (limit - steps) + length points) → Advances o None (then_on state)
    goes_on less =
        subst (λ (x : State). Advances o None (then_on x)) (sym going)
        (subst (λ (x : Matching). Advances x None (then_on S.Going)) view_going
        (led_on m start points inv_going new_steps new_start new new_way new_records l, less))

    pub stays_all : IsMatch (then_on state) new_start new state × GoesOn o (then_on state) × IsCounted (then_on state)
    stays_all =
        let on = subst (λ (x : State). GoesOn o (then_on x)) (sym going)
        (subst (λ (x : Matching). GoesOn x (then_on S.Going)) view_going (led_on m start points inv_going new_steps new_start new new_way new_records l)) in
        (goes_match, on, match_counted (then_on state) new_start new state goes_match refl)

    pub goes_all : (2 * (limit - new_steps) + length new < 2 * (limit - steps) + length points) → IsMatch (then_on state) new_start new state
        × Advances o None (then_on state) × IsCounted (then_on state)
    goes_all less = (goes_match, goes_on less, match_counted (then_on state) new_start new state goes_match refl)

  -- a move was made, on the table and the subject as they were lent
  module _ (lent : List Node) (text : List ℕ) (table : o.nodes ≡ lent) (same : text ≡ s) (result : Option Told) (new_steps : ℕ) (new : List Point)
      (new_way : List Pending) (new_records : ℕ)
      (stack : IsStack lent text new) (cuts : HasCuts lent (limit - new_steps) new) (few : new_records + 2 * steps + owed (after_move result) ≤ records
      + 2 * new_steps) (made : Makes lent text start limit points steps way result new new_steps new_way) where
    of_match : (P : List Node → List ℕ → Type 0) → P lent text → P nodes s
    of_match P h = subst (λ (n : List Node). P n s) (sym (ap (λ (x : Matching). x.nodes) view ∙ table)) (subst (λ (t : List ℕ). P lent t) same h)

    pub made_leads : Leads m start points result new_steps start new new_way new_records
    made_leads =
        move_leads m start points result new_steps new new_way new_records inv.start_in (of_match (λ n t. IsStack n t new) stack)
        (of_match (λ n t. HasCuts n (limit - new_steps) new) cuts) few
        (of_match (λ n t. Makes n t start limit points steps way result new new_steps new_way) made)

  -- it was refused memory behind steps that tell nothing
  module _ (lent : List Node) (text : List ℕ) (table : o.nodes ≡ lent) (same : text ≡ s) (new_steps : ℕ) (new : List Point) (new_records : ℕ)
      (few : new_records + 2 * steps ≤ records + 2 * new_steps) (on : LeadsOn lent text limit points steps new new_steps) where
    pub refused_leads : Leads m start points None new_steps start new way new_records
    refused_leads =
        steps_lead m start points new_steps new new_records inv.start_in few
        (subst (λ (n : List Node). LeadsOn n s limit points steps new new_steps) (sym (ap (λ (x : Matching). x.nodes) view ∙ table))
        (subst (λ (t : List ℕ). LeadsOn lent t limit points steps new new_steps) same on))

  -- what is seen of it
  pub counted_so : IsCounted o
  counted_so = subst (λ (x : Matching). IsCounted x) view (match_counted (in_state state) start points state inv refl)

  -- no point is left
  module _ (none : o.points ≡ 0) where
    empty : length points ≡ 0
    empty = ap (λ (x : Matching). x.points) view ∙ none

    -- the starts up to this one were passed, on the table and the subject as they were lent
    module _ (lent : List Node) (text : List ℕ) (table : o.nodes ≡ lent) (same : text ≡ s) (at spent : ℕ) (in_at : at ≤ length text)
        (enough : spent ≤ limit - steps) (passed : Passes anchored (tree lent pattern.0) text start at spent) where
      in_s : at ≤ length s
      in_s = subst (λ (t : List ℕ). at ≤ length t) same in_at

      enough_so : steps + spent ≤ limit
      enough_so = omega (arith, enough, inv.steps_in)

      passed_so : Passes anchored (tree nodes pattern.0) s start at spent
      passed_so =
          subst (λ (n : List Node). Passes anchored (tree n pattern.0) s start at spent) (sym (ap (λ (x : Matching). x.nodes) view ∙ table))
          (subst (λ (t : List ℕ). Passes anchored (tree lent pattern.0) t start at spent) same passed)

      pub over_leads : later_starts anchored s at ≡ [] → Leads m start points (Some V.Exhausted) (steps + spent) at points way records
      over_leads h = exhausted_leads m start points inv_going empty at spent in_s enough_so passed_so h

      pub short_leads : anchored ≡ false → at < length s → steps + spent ≡ limit → Leads m start points (Some V.Limit) (steps + spent) at points way records
      short_leads a room h = limit_leads m start points inv_going empty at spent in_s enough_so passed_so a room h

      pub begun_leads : anchored ≡ false → at < length s → (new : List Point) (new_records : ℕ) → (steps + spent ≡ limit → ⊥)
          → new ≡ first_point (N.Match pattern) (at + 1) ∷ [] → new_records ≤ 1 →
          Leads m start points None (steps + spent + 1) (at + 1) new way new_records
      begun_leads a room new new_records h is few =
          start_leads m start points inv_going empty at spent in_s enough_so passed_so a room new new_records h is (omega (arith, few))
