-- What the counts and the pending list of a match are.
use Rattle.std.proofs.Common.{◌≡◌, ℕ, ◌+◌, ◌-◌, ◌*◌, ◌≤◌, List, [], ◌∷◌, ◌++◌, length, map, take, slice_get, IfSome, refl, sym, ◌∙◌, ap, subst, arith}
use Rattle.std.proofs.Common.{append_assoc, append-nil, length-append}
use Rattle.std.proofs.lemmas.List.{map-append, take_at}
use Rattle.sno_pattern.specs.Table.{tree}
use Rattle.sno_match.specs.declared.event.Event.TheVariants as V
use Rattle.sno_match.specs.declared.event.Pending.{Pending}
use Rattle.sno_match.specs.declared.engine.State.{State}
use Rattle.sno_match.specs.declared.engine.State.TheVariants as S
use Rattle.sno_match.specs.Search.{Event, Ended, whole, all_events}
use Rattle.sno_match.specs.Matching.{pending_after, last_pending, last_count, Matching, answers_of, trace_of, told_of}
use Rattle.sno_match.specs.Matching.{IsCounted}
use Rattle.sno_match.specs.Point.{Point}
use Rattle.sno_match.specs.inner.State.{verdict_of, over}
use Rattle.sno_match.specs.inner.Running.{to_come, counted, IsMatch}
use Rattle.sno_match.proofs.WeightLaws.{few_told}
use Rattle.sno_match.proofs.LateLaws.{AllLeft, coming-within}
use Rattle.sno_match.proofs.EntryLaws.{all_events-emit, length-counted, last_pending-append, last_count-append}
use Rattle.sno_match.proofs.SessionLaws.{waits_here}

last_pending-counted : (limit : ℕ) (x : List Pending) (es : List (Event × ℕ)) → last_pending x (map (counted limit) es) ≡ last_pending x es
last_pending-counted limit x [] = refl
last_pending-counted limit x (e ∷ es) = last_pending-counted limit (pending_after e.0 x) es

-- what is still to be told has no smaller count than the steps taken
first_later : (limit steps : ℕ) (es rest : List (Event × ℕ)) → steps ≤ limit → AllLeft (limit - steps) rest
    → IfSome (slice_get (map (counted limit) (es ++ rest)) (length es)) (λ next. steps ≤ next.1)
first_later limit steps [] [] h a = tt
first_later limit steps [] (r ∷ rs) h a = omega (arith, a.0)
first_later limit steps (e ∷ es) rest h a = first_later limit steps es rest h a

-- the verdict that was told, and what is left to be told
abbrev pub final : State → ℕ → List (Event × ℕ)
final S.Going left = []
final S.Waiting left = []
final (S.Ended event) left = (Ended (verdict_of event), left) ∷ []

abbrev pub unfinal : (m : Matching) (start : ℕ) (points : List Point) (state : State) (left : ℕ) → List (Event × ℕ)
unfinal m start points S.Going left = all_events (to_come S.Going m start points [] left)
unfinal m start points S.Waiting left = []
unfinal m start points (S.Ended event) left = []

final-length : (state : State) (left : ℕ) → length (final state left) ≡ over state
final-length S.Going left = refl
final-length S.Waiting left = refl
final-length (S.Ended event) left = refl

final-pending : (state : State) (left : ℕ) (x : List Pending) → last_pending x (final state left) ≡ x
final-pending S.Going left x = refl
final-pending S.Waiting left x = refl
final-pending (S.Ended event) left x = refl

final-count : (state : State) (limit steps n : ℕ) → n ≤ steps → steps ≤ limit → last_count n (map (counted limit) (final state (limit - steps))) ≤ steps
final-count S.Going limit steps n h k = h
final-count S.Waiting limit steps n h k = h
final-count (S.Ended event) limit steps n h k = omega arith

over-few : (state : State) → over state ≤ 1
over-few S.Going = omega arith
over-few S.Waiting = omega arith
over-few (S.Ended event) = omega arith

module _ (m : Matching) (start : ℕ) (points : List Point) where
  final-events : (state : State) (left : ℕ) → (inv : IsMatch m start points state) → all_events (to_come state m start points [] left) ≡ final state left
      ++ unfinal m start points state left
  final-events S.Going left inv = refl
  final-events S.Waiting left inv = ap all_events (waits_here m start points left inv.asked.0)
  final-events (S.Ended (V.Way start' end)) left inv = refl
  final-events (S.Ended (V.Assign target start' end)) left inv = refl
  final-events (S.Ended (V.Cursor target at)) left inv = refl
  final-events (S.Ended (V.Value prim expr)) left inv = refl
  final-events (S.Ended V.Exhausted) left inv = refl
  final-events (S.Ended V.Aborted) left inv = refl
  final-events (S.Ended V.Limit) left inv = refl

  unfinal-left : (state : State) (left : ℕ) → AllLeft left (unfinal m start points state left)
  unfinal-left S.Going left = coming-within m start points [] left
  unfinal-left S.Waiting left = tt
  unfinal-left (S.Ended event) left = tt

module _ (m : Matching) (start : ℕ) (points : List Point) (state : State) (inv : IsMatch m start points state) where
  abbrev pub left : ℕ
  left = m.limit - m.steps

  abbrev pub so_far : List (Event × ℕ)
  so_far = inv.events ++ final state left

  abbrev pub to_go : List (Event × ℕ)
  to_go = unfinal m start points state left

  pub trace_is : trace_of m ≡ map (counted m.limit) (so_far ++ to_go)
  trace_is =
      ap (λ a. map (counted m.limit) (all_events (whole (tree m.nodes m.pattern.0) m.subject m.anchored a m.limit)))
      (sym (append-nil (answers_of m.nodes m.answers))) ∙
      ap (λ r. map (counted m.limit) (all_events r)) (inv.story []) ∙
      ap (map (counted m.limit)) (all_events-emit inv.events (to_come state m start points [] left)
      ∙ ap (λ t. inv.events ++ t) (final-events m start points state left inv) ∙ sym (append_assoc inv.events (final state left) to_go))

  size : length so_far ≡ m.told
  size = omega (arith, inv.told, final-length state left, length-append inv.events (final state left))

  pub told_is : told_of m ≡ map (counted m.limit) so_far
  told_is =
      let n = length-counted m.limit so_far in
      ap (take m.told) (trace_is ∙ map-append (counted m.limit) so_far to_go) ∙
      take_at (map (counted m.limit) so_far) (map (counted m.limit) to_go) m.told (n ∙ size)

  pub trace_size : length (trace_of m) ≡ m.told + length to_go
  trace_size = omega (arith, ap length trace_is, length-counted m.limit (so_far ++ to_go), length-append so_far to_go, size)

  pub match_few : m.told ≤ 2 * m.limit + 2
  match_few = omega (
    arith,
    inv.told,
    over-few state,
    few_told (tree m.nodes m.pattern.0) m.subject m.anchored m.limit (answers_of m.nodes m.answers ++ [])
        inv.events (to_come state m start points [] left) (inv.story []),
  )

  pub match_counted : m.points ≡ length points → IsCounted m
  match_counted e = record {
    told = omega (arith, trace_size);
    pending = inv.pending ∙ sym (final-pending state left (last_pending [] inv.events)) ∙ sym (last_pending-append [] inv.events (final state left)) ∙
        sym (last_pending-counted m.limit [] so_far) ∙ ap (last_pending []) (sym told_is);
    since =
        let parts = map-append (counted m.limit) inv.events (final state left) in
        let whole = last_count-append 0 (map (counted m.limit) inv.events) (map (counted m.limit) (final state left)) in
        subst (λ (n : ℕ). n ≤ m.steps) (sym (ap (last_count 0) (told_is ∙ parts) ∙ whole))
        (final-count state m.limit m.steps (last_count 0 (map (counted m.limit) inv.events)) inv.since inv.steps_in);
    until =
        subst (λ (n : ℕ). IfSome (slice_get (trace_of m) n) (λ next. m.steps ≤ next.1)) size
        (subst (λ (t : List (Event × ℕ)). IfSome (slice_get t (length so_far)) (λ next. m.steps ≤ next.1)) (sym trace_is)
        (first_later m.limit m.steps so_far to_go inv.steps_in (unfinal-left m start points state left)));
    steps = inv.steps_in;
    few = match_few;
    points = omega (arith, e, inv.points_in);
    records = omega (arith, inv.records_in);
  }
