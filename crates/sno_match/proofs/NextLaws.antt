-- One call of `next`: the table that is lent, the moves up to an event, and a last event told again.
use Rattle.std.proofs.Common.{◌≡◌, ℕ, ◌+◌, ◌-◌, Bool, true, false, List, [], ◌∷◌, ◌++◌, Option, Some, length, map, slice_get, IsTrue, refl, sym, ◌∙◌, ap, subst}
use Rattle.std.proofs.Common.{arith, append-nil}
use Rattle.sno_value.specs.declared.ids.PatId.{PatId}
use Rattle.sno_pattern.specs.Table.{Node}
use Rattle.sno_match.specs.declared.event.Event.{Event as Told}
use Rattle.sno_match.specs.declared.event.Event.TheVariants as V
use Rattle.sno_match.specs.declared.event.Pending.{Pending}
use Rattle.sno_match.specs.declared.engine.State.{State}
use Rattle.sno_match.specs.declared.engine.State.TheVariants as S
use Rattle.sno_match.specs.Search.{Event, Ended}
use Rattle.sno_match.specs.Matching.{in_trace, is_last, is_value, cost, pending_after, Matching, trace_of, SameMatch}
use Rattle.sno_match.specs.Matching.{IsTold, StaysAt, Begins}
use Rattle.sno_match.specs.Point.{Point}
use Rattle.sno_match.specs.inner.State.{verdict_of, waits, ended}
use Rattle.sno_match.specs.inner.Running.{counted, seen, IsMatch, GoesOn}
use Rattle.sno_match.proofs.EntryLaws.{at_place}
use Rattle.sno_match.proofs.CountLaws.{trace_is, trace_size}
use Rattle.sno_match.proofs.GrowLaws.{grown, grown_trace}

-- a last event again

last-trace : (event : Told) (way : List Pending) → IsTrue (is_last event) → Ended (verdict_of event) ≡ in_trace event way
last-trace (V.Way start end) way h = absurd (cc)
last-trace (V.Assign target start end) way h = absurd (cc)
last-trace (V.Cursor target at) way h = absurd (cc)
last-trace (V.Value prim expr) way h = absurd (cc)
last-trace V.Exhausted way h = refl
last-trace V.Aborted way h = refl
last-trace V.Limit way h = refl

last-asks : (event : Told) → IsTrue (is_last event) → is_value event ≡ false
last-asks (V.Way start end) h = refl
last-asks (V.Assign target start end) h = refl
last-asks (V.Cursor target at) h = refl
last-asks (V.Value prim expr) h = absurd (cc)
last-asks V.Exhausted h = refl
last-asks V.Aborted h = refl
last-asks V.Limit h = refl

last-free : (event : Told) → IsTrue (is_last event) → cost event ≡ 0
last-free (V.Way start end) h = refl
last-free (V.Assign target start end) h = absurd (cc)
last-free (V.Cursor target at) h = absurd (cc)
last-free (V.Value prim expr) h = absurd (cc)
last-free V.Exhausted h = refl
last-free V.Aborted h = refl
last-free V.Limit h = refl

last-way : (event : Told) (way : List Pending) → IsTrue (is_last event) → pending_after (in_trace event way) way ≡ way
last-way (V.Way start end) way h = refl
last-way (V.Assign target start end) way h = refl
last-way (V.Cursor target at) way h = refl
last-way (V.Value prim expr) way h = refl
last-way V.Exhausted way h = refl
last-way V.Aborted way h = refl
last-way V.Limit way h = refl

pub told_again : (old m : Matching) (start : ℕ) (points : List Point) (event : Told) → IsMatch m start points (S.Ended event) → old.told ≡ m.told
    → old.steps ≡ m.steps → old.way ≡ m.way → old.ended ≡ true → m.waits ≡ false → m.ended ≡ true → IsTold old m event
told_again old m start points event inv told steps way over waits' ended' =
    let size : length (trace_of m) ≡ m.told + 0 = trace_size m start points (S.Ended event) inv in record {
      at =
          let place : m.told - 1 ≡ length inv.events = omega (arith, inv.told) in
          let back : m.limit - (m.limit - m.steps) ≡ m.steps = omega (arith, inv.steps_in) in
          ap (λ (t : List (Event × ℕ)). slice_get t (m.told - 1))
          (trace_is m start points (S.Ended event) inv
          ∙ ap (map (counted m.limit)) (append-nil (inv.events ++ (Ended (verdict_of event), m.limit - m.steps) ∷ []))) ∙
          ap (slice_get (map (counted m.limit) (inv.events ++ (Ended (verdict_of event), m.limit - m.steps) ∷ []))) place ∙
          at_place m.limit inv.events [] (Ended (verdict_of event), m.limit - m.steps) ∙
          ap (λ k. Some (Ended (verdict_of event), k)) back ∙ ap (λ (e : Event). Some (e, m.steps)) (last-trace event m.way inv.last_in);
      count = omega (arith, size, told);
      grows = λ h. let clash : true ≡ false = sym over ∙ h in absurd (cc);
      stops = λ h. omega (arith, size);
      ended = ended' ∙ sym inv.last_in;
      waits = waits' ∙ sym (last-asks event inv.last_in);
      paid = omega (arith, steps, last-free event inv.last_in);
      way = sym (last-way event m.way inv.last_in) ∙ ap (pending_after (in_trace event m.way)) (sym way);
    }

-- what comes of what was told later

pub same_then : (o a n : Matching) → SameMatch o a → SameMatch a n → SameMatch o n
same_then o a n h k = record {
  pattern = k.pattern ∙ h.pattern;
  subject = k.subject ∙ h.subject;
  anchored = k.anchored ∙ h.anchored;
  limit = k.limit ∙ h.limit;
  answers = k.answers ∙ h.answers;
  trace = k.trace ∙ h.trace;
}

pub stays_then : (o a n : Matching) → StaysAt o a → StaysAt a n → StaysAt o n
stays_then o a n h k = record {
  told = k.told ∙ h.told;
  way = k.way ∙ h.way;
  waits = k.waits;
  ended = k.ended;
  steps = omega (arith, h.steps, k.steps);
}

-- nothing has changed
pub goes_not : (o n : Matching) → o.waits ≡ false → o.ended ≡ false → n ≡ o → GoesOn o n
goes_not o n asked going same = subst (GoesOn o) (sym same) (record {
  nodes = refl;
  same = record { pattern = refl; subject = refl; anchored = refl; limit = refl; answers = refl; trace = refl };
  stays = record { told = refl; way = refl; waits = asked; ended = going; steps = omega arith };
})

pub goes_then : (o a n : Matching) → GoesOn o a → GoesOn a n → GoesOn o n
goes_then o a n h k = record { nodes = k.nodes ∙ h.nodes; same = same_then o a n h.same k.same; stays = stays_then o a n h.stays k.stays }

pub told_then : (o a n : Matching) (event : Told) → StaysAt o a → IsTold a n event → IsTold o n event
told_then o a n event h k = record {
  at = k.at;
  count = let t = h.told in let c = k.count in omega (arith, t, c);
  grows = λ e. k.grows h.ended ∙ ap (λ (i : ℕ). i + 1) h.told;
  stops = k.stops;
  ended = k.ended;
  waits = k.waits;
  paid = omega (arith, h.steps, k.paid);
  way = k.way ∙ ap (pending_after (in_trace event n.way)) h.way;
}

not_ended : (state : State) → ((event : Told) → state ≡ S.Ended event → ⊥) → ended state ≡ false
not_ended S.Going h = refl
not_ended S.Waiting h = refl
not_ended (S.Ended event) h = absurd (h event refl)

-- a match, seen as o, is lent the table of this call

module _ (o : Matching) (nodes : List Node) (pattern : PatId) (s : List ℕ) (anchored : Bool) (limit : ℕ) (answers : List (Option PatId)) (told steps : ℕ)
    (state : State) (way : List Pending) (points : List Point) (records start : ℕ)
    (view : seen nodes pattern s anchored limit answers told steps state way points records ≡ o)
    (inv : IsMatch (seen nodes pattern s anchored limit answers told steps state way points records) start points state)
    (lent patterns : List Node) (is : lent ≡ patterns) (table : Begins o.nodes patterns) where
  abbrev over_table : List Node → Matching
  over_table n = seen n pattern s anchored limit answers told steps state way points records

  begins_with : Begins nodes lent
  begins_with = (table.0, is ∙ table.1 ∙ ap (λ (x : Matching). x.nodes ++ table.0) (sym view))

  pub lent_match : IsMatch (over_table lent) start points state
  lent_match = grown (over_table nodes) lent begins_with start points state inv

  pub lent_same : SameMatch o (over_table lent)
  lent_same =
      subst (λ (x : Matching). SameMatch x (over_table lent)) view
      (record {
        pattern = refl;
        subject = refl;
        anchored = refl;
        limit = refl;
        answers = refl;
        trace = grown_trace (over_table nodes) lent begins_with inv.pattern_in inv.answers_in;
      })

  pub lent_again : (event : Told) → state ≡ S.Ended event → IsTold o (over_table lent) event
  lent_again event e =
      let over : ended state ≡ true = ap ended e in
      let not_waiting : waits state ≡ false = ap waits e in
      subst (λ (x : Matching). IsTold x (over_table lent) event) view
      (told_again (over_table nodes) (over_table lent) start points event (subst (λ (st : State). IsMatch (over_table lent) start points st) e lent_match) refl
      refl refl over not_waiting over)

  -- it goes on
  module _ (asked : o.waits ≡ false) (on : (event : Told) → state ≡ S.Ended event → ⊥) where
    open_end : ended state ≡ false
    open_end = not_ended state on

    not_waiting : waits state ≡ false
    not_waiting = ap (λ (x : Matching). x.waits) view ∙ asked

    pub lent_stays : StaysAt o (over_table lent)
    lent_stays = subst (λ (x : Matching). StaysAt x (over_table lent)) view
        (record { told = refl; way = refl; waits = not_waiting; ended = open_end; steps = omega arith })

    pub never_again : o.ended ≡ true → ⊥
    never_again h = let clash : true ≡ false = sym h ∙ ap (λ (x : Matching). x.ended) (sym view) ∙ open_end in cc
