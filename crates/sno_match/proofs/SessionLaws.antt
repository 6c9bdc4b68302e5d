-- The story of a match, from one event to the next.
use Rattle.std.proofs.Common.{◌≡◌, ℕ, suc, ◌+◌, ◌-◌, ◌*◌, ◌≤◌, ◌<◌, ◌||◌, Bool, true, false, List, [], ◌∷◌, ◌++◌, Option, Some, None, length, map, slice_get}
use Rattle.std.proofs.Common.{IsTrue, refl, sym, ◌∙◌, ap, subst, arith, append_assoc, append-nil, length-append}
use Rattle.std.proofs.lemmas.List.{map-append}
use Rattle.std.proofs.Math.Nat.{sub-zero}
use Rattle.sno_value.specs.declared.ids.PatId.{PatId}
use Rattle.sno_pattern.specs.Table.{Node, tree}
use Rattle.sno_pattern.specs.Ends.{count_from}
use Rattle.sno_match.specs.declared.goal.Goal.TheVariants as N
use Rattle.sno_match.specs.declared.event.Event.{Event as Told}
use Rattle.sno_match.specs.declared.event.Event.TheVariants as V
use Rattle.sno_match.specs.declared.event.Pending.{Pending}
use Rattle.sno_match.specs.declared.engine.State.{State}
use Rattle.sno_match.specs.declared.engine.State.TheVariants as S
use Rattle.sno_match.specs.Search.{Match, Exhausted, Aborted, Limit, Waiting, Event, Answer, Gives, Search, emit, further, search, whole, all_events}
use Rattle.sno_match.specs.Matching.{in_trace, is_last, is_value, last_pending, last_count, Matching, answers_of}
use Rattle.sno_match.specs.Matching.{trace_of, IsTold}
use Rattle.sno_match.specs.Point.{Point, HasFirst}
use Rattle.sno_match.specs.Top.{first_point}
use Rattle.sno_match.specs.Remaining.{IsStack}
use Rattle.sno_match.specs.inner.State.{after, after_move, owed, HasAsked}
use Rattle.sno_match.specs.Silent.{LeadsOn}
use Rattle.sno_match.specs.inner.Move.{Makes, entries, price, way_after, standing}
use Rattle.sno_match.specs.Scopes.{HasCuts}
use Rattle.sno_match.specs.inner.Starts.{Passes}
use Rattle.sno_match.specs.inner.Running.{later, later_starts, to_come, counted, seen, IsMatch, GoesOn}
use Rattle.sno_match.proofs.EntryLaws.{all_events-emit, length-counted, at_place, last_pending-append, last_count-append, entry-pending, entry-count}
use Rattle.sno_match.proofs.EntryLaws.{after-last, after-ended, after-waits, entries-tell, tells}
use Rattle.sno_match.proofs.ReadingLaws.{emit-emit, emit-none, further-emit, further-stop, resume-stop}
use Rattle.sno_match.proofs.StartLaws.{behind_some}
use Rattle.sno_match.proofs.CutMoves.{cuts-later}

-- the first point of a start
pub first_stack : (nodes : List Node) (s : List ℕ) (pattern : PatId) (at : ℕ) (new : List Point) → pattern.0 < length nodes → at ≤ length s
    → new ≡ first_point (N.Match pattern) at ∷ [] → IsStack nodes s new
first_stack nodes s pattern at new h k e =
    subst (λ (ps : List Point). IsStack nodes s ps) (sym e) (record { fit = (record { known = (h, tt); inside = k; next = tt }, tt); marked = tt })

pub first_cuts : (nodes : List Node) (left : ℕ) (pattern : PatId) (at : ℕ) (new : List Point)
    → new ≡ first_point (N.Match pattern) at ∷ [] → HasCuts nodes left new
first_cuts nodes left pattern at new e = subst (HasCuts nodes left) (sym e) (record { scoped = (refl, tt); rising = tt })

first_story : (m : Matching) (more : List Answer) → whole (tree m.nodes m.pattern.0) m.subject m.anchored more m.limit
    ≡ to_come S.Going m 0 (first_point (N.Match m.pattern) 0 ∷ []) more m.limit
first_story m more = by_mode m.anchored
  where
    from_start : Search
    from_start = search m.subject 0 (Match (tree m.nodes m.pattern.0) ∷ []) 0 []

    by_mode : (anchored : Bool) → whole (tree m.nodes m.pattern.0) m.subject anchored more m.limit ≡
        further (from_start more m.limit) (map (λ b. search m.subject b (Match (tree m.nodes m.pattern.0) ∷ []) b []) (later_starts anchored m.subject 0))
    by_mode true = refl
    by_mode false =
        ap (λ n. further (from_start more m.limit) (map (λ b. search m.subject b (Match (tree m.nodes m.pattern.0) ∷ []) b []) (count_from (0 + 1) n)))
        (sym (sub-zero (length m.subject)))

-- a match that begins
pub new_match : (nodes : List Node) (pattern : PatId) (s : List ℕ) (anchored : Bool) (limit : ℕ) (points : List Point) (records : ℕ) → pattern.0 < length nodes
    → points ≡ first_point (N.Match pattern) 0 ∷ [] → records ≤ 1 →
    IsMatch (seen nodes pattern s anchored limit [] 0 0 S.Going [] points records) 0 points S.Going
new_match nodes pattern s anchored limit points records h e few = record {
  pattern_in = h;
  answers_in = tt;
  steps_in = omega arith;
  start_in = omega arith;
  stack = first_stack nodes s pattern 0 points h (omega arith) e;
  cuts = first_cuts nodes (limit - 0) pattern 0 points e;
  asked = tt;
  last_in = tt;
  points_in = omega (arith, ap length e);
  records_in = omega (arith, few);
  events = [];
  told = omega arith;
  pending = refl;
  since = omega arith;
  story = λ more.
      let m = seen nodes pattern s anchored limit [] 0 0 S.Going [] points records in
      first_story m more ∙
      ap (λ ps. to_come S.Going m 0 ps more limit) (sym e) ∙
      ap (λ n. to_come S.Going m 0 points more n) (sym (sub-zero limit)) ∙
      sym (emit-none (to_come S.Going m 0 points more (limit - 0)));
}

-- What one move or one start does to a match that goes on.
pub record Leads (m : Matching) (start0 : ℕ) (old : List Point) (told : Option Told) (steps start : ℕ) (points : List Point) (way : List Pending)
    (records : ℕ) : Type 0 where
  pub steps_in : steps ≤ m.limit
  pub paid : m.steps + price told ≤ steps
  pub start_in : start ≤ length m.subject
  pub stack : IsStack m.nodes m.subject points
  pub cuts : HasCuts m.nodes (m.limit - steps) points
  pub asked : HasAsked (after_move told) points
  pub points_in : length points + m.steps ≤ length old + steps
  pub records_in : records + 2 * m.steps + owed (after_move told) ≤ m.records + 2 * steps
  pub pending : way ≡ way_after told way m.way
  pub leads : (more : List Answer) → to_come S.Going m start0 old more (m.limit - m.steps) ≡ emit (entries told way (m.limit - steps))
      (to_come (after_move told) m start points more (m.limit - steps))

module _ (m : Matching) (start0 : ℕ) (old : List Point) (inv : IsMatch m start0 old S.Going) (told : Option Told) (steps start : ℕ) (points : List Point)
    (way : List Pending) (records : ℕ)
    (l : Leads m start0 old told steps start points way records) where
  abbrev after_it : ℕ → Matching
  after_it count = seen m.nodes m.pattern m.subject m.anchored m.limit m.answers count steps (after_move told) way points records

  story : (more : List Answer) → whole (tree m.nodes m.pattern.0) m.subject m.anchored (answers_of m.nodes m.answers ++ more) m.limit ≡
      emit (inv.events ++ entries told way (m.limit - steps)) (to_come (after_move told) m start points more (m.limit - steps))
  story more =
      inv.story more ∙ ap (emit inv.events) (l.leads more) ∙
      emit-emit inv.events (entries told way (m.limit - steps)) (to_come (after_move told) m start points more (m.limit - steps))

  come : (count : ℕ) (state : State) (more : List Answer) (left : ℕ) → to_come state m start points more left
      ≡ to_come state (after_it count) start points more left
  come count S.Going more left = refl
  come count S.Waiting more left = refl
  come count (S.Ended event) more left = refl

  pub led : (count : ℕ) → count ≡ m.told + tells told → IsMatch (after_it count) start points (after_move told)
  led count e = record {
    pattern_in = inv.pattern_in;
    answers_in = inv.answers_in;
    steps_in = l.steps_in;
    start_in = l.start_in;
    stack = l.stack;
    cuts = l.cuts;
    asked = l.asked;
    last_in = after-last told;
    points_in = omega (arith, l.points_in, inv.points_in);
    records_in = omega (arith, l.records_in, inv.records_in);
    events = inv.events ++ entries told way (m.limit - steps);
    told = omega (arith, e, inv.told, entries-tell told way (m.limit - steps), length-append inv.events (entries told way (m.limit - steps)));
    pending = l.pending ∙ ap (λ (x : List Pending). way_after told way x) inv.pending
        ∙ sym (entry-pending told way (last_pending [] inv.events) (m.limit - steps)) ∙
        sym (last_pending-append [] inv.events (entries told way (m.limit - steps)));
    since =
        let e' = map-append (counted m.limit) inv.events (entries told way (m.limit - steps)) in
        let f = last_count-append 0 (map (counted m.limit) inv.events) (map (counted m.limit) (entries told way (m.limit - steps))) in
        let before : last_count 0 (map (counted m.limit) inv.events) ≤ steps = omega (arith, inv.since, l.paid) in
        subst (λ (n : ℕ). n ≤ steps) (sym (ap (last_count 0) e' ∙ f))
        (entry-count told way m.limit steps (last_count 0 (map (counted m.limit) inv.events)) before l.steps_in);
    story = λ more. story more ∙ ap (emit (inv.events ++ entries told way (m.limit - steps))) (come count (after_move told) more (m.limit - steps));
  }

-- an event was told

module _ (m : Matching) (start : ℕ) (points : List Point) (left : ℕ) where
  -- what comes behind it
  abbrev behind : Told → List (Event × ℕ)
  behind V.Exhausted = []
  behind V.Aborted = []
  behind V.Limit = []
  behind event = all_events (to_come (after event) m start points [] left)

  entry-first : (event : Told) (way : List Pending) → entries (Some event) way left ++ all_events (to_come (after event) m start points [] left)
      ≡ (in_trace event way, left) ∷ behind event
  entry-first (V.Way start end) way = refl
  entry-first (V.Assign target start end) way = refl
  entry-first (V.Cursor target at) way = refl
  entry-first (V.Value prim expr) way = refl
  entry-first V.Exhausted way = refl
  entry-first V.Aborted way = refl
  entry-first V.Limit way = refl

pub waits_here : (m : Matching) (start : ℕ) (points : List Point) (left : ℕ) → HasFirst points → to_come S.Waiting m start points [] left
    ≡ Gives [] [] left Waiting
waits_here m start [] left h = elim h [ ]
waits_here m start (point ∷ rest) left h =
    ap (λ r. further r (later m start)) (resume-stop m.nodes m.subject start rest [] [] left Waiting tt) ∙ further-stop [] [] left Waiting (later m start) tt

module _ (m : Matching) (start : ℕ) (points : List Point) (left : ℕ) where
  behind-stops : (event : Told) → IsTrue (is_last event || is_value event) → HasAsked (after event) points → behind m start points left event ≡ []
  behind-stops (V.Way start' end) h k = absurd (cc)
  behind-stops (V.Assign target start' end) h k = absurd (cc)
  behind-stops (V.Cursor target at) h k = absurd (cc)
  behind-stops (V.Value prim expr) h k = ap all_events (waits_here m start points left k.0)
  behind-stops V.Exhausted h k = refl
  behind-stops V.Aborted h k = refl
  behind-stops V.Limit h k = refl

module _ (m : Matching) (start0 : ℕ) (old : List Point) (inv : IsMatch m start0 old S.Going) (event : Told) (steps start : ℕ) (points : List Point)
    (way : List Pending) (records : ℕ)
    (l : Leads m start0 old (Some event) steps start points way records) where
  abbrev next : Matching
  next = after_it m start0 old inv (Some event) steps start points way records l (m.told + 1)

  abbrev rest : List (Event × ℕ)
  rest = behind m start points (m.limit - steps) event

  trace_next : trace_of next ≡ map (counted m.limit) (inv.events ++ (in_trace event way, m.limit - steps) ∷ rest)
  trace_next =
      let left = m.limit - steps in
      ap (λ a. map (counted m.limit) (all_events (whole (tree m.nodes m.pattern.0) m.subject m.anchored a m.limit)))
      (sym (append-nil (answers_of m.nodes m.answers))) ∙
      ap (λ r. map (counted m.limit) (all_events r)) (story m start0 old inv (Some event) steps start points way records l []) ∙
      ap (map (counted m.limit)) (all_events-emit (inv.events ++ entries (Some event) way left) (to_come (after event) m start points [] left) ∙
      append_assoc inv.events (entries (Some event) way left) (all_events (to_come (after event) m start points [] left)) ∙
      ap (λ t. inv.events ++ t) (entry-first m start points left event way))

  size : length (trace_of next) ≡ m.told + 1 + length rest
  size = omega (
    arith,
    ap length trace_next,
    length-counted m.limit (inv.events ++ (in_trace event way, m.limit - steps) ∷ rest),
    length-append inv.events ((in_trace event way, m.limit - steps) ∷ rest),
    inv.told,
  )

  pub led_told : m.ended ≡ false → IsTold m next event
  led_told e = record {
    at =
        let place : m.told + 1 - 1 ≡ length inv.events = omega (arith, inv.told) in
        let back : m.limit - (m.limit - steps) ≡ steps = omega (arith, l.steps_in) in
        ap (λ t. slice_get t (m.told + 1 - 1)) trace_next ∙
        ap (slice_get (map (counted m.limit) (inv.events ++ (in_trace event way, m.limit - steps) ∷ rest))) place ∙
        at_place m.limit inv.events rest (in_trace event way, m.limit - steps) ∙
        ap (λ k. Some (in_trace event way, k)) back;
    count = omega (arith, size);
    grows = λ h. refl;
    stops = λ h. omega (arith, size, ap length (behind-stops m start points (m.limit - steps) event h l.asked));
    ended = after-ended event;
    waits = after-waits event;
    paid = l.paid;
    way = l.pending;
  }

-- nothing was told

module _ (m : Matching) (start0 : ℕ) (old : List Point) (inv : IsMatch m start0 old S.Going) (steps start : ℕ) (points : List Point)
    (way : List Pending) (records : ℕ)
    (l : Leads m start0 old None steps start points way records) where
  pub led_on : GoesOn m (after_it m start0 old inv None steps start points way records l m.told)
  led_on = record {
    nodes = refl;
    same = record { pattern = refl; subject = refl; anchored = refl; limit = refl; answers = refl; trace = refl };
    stays = record { told = refl; way = l.pending; waits = refl; ended = refl; steps = omega (arith, l.paid) };
  }

-- a move of the stack is a move of the match

module _ (m : Matching) (start : ℕ) (points : List Point) (answers : List Answer) (left : ℕ) where
  stand : (state : State) → (state ≡ S.Ended V.Exhausted → ⊥) → further (standing state m.nodes m.subject start points answers left) (later m start)
      ≡ to_come state m start points answers left
  stand S.Going h = refl
  stand S.Waiting h = refl
  stand (S.Ended (V.Way start' end)) h = further-stop [] answers left Limit (later m start) tt
  stand (S.Ended (V.Assign target start' end)) h = further-stop [] answers left Limit (later m start) tt
  stand (S.Ended (V.Cursor target at)) h = further-stop [] answers left Limit (later m start) tt
  stand (S.Ended (V.Value prim expr)) h = further-stop [] answers left Limit (later m start) tt
  stand (S.Ended V.Exhausted) h = absurd (h refl)
  stand (S.Ended V.Aborted) h = further-stop [] answers left Aborted (later m start) tt
  stand (S.Ended V.Limit) h = further-stop [] answers left Limit (later m start) tt

not_exhausted : (told : Option Told) → (told ≡ Some V.Exhausted → ⊥) → after_move told ≡ S.Ended V.Exhausted → ⊥
not_exhausted None h e = cc
not_exhausted (Some (V.Way start end)) h e = cc
not_exhausted (Some (V.Assign target start end)) h e = cc
not_exhausted (Some (V.Cursor target at)) h e = cc
not_exhausted (Some (V.Value prim expr)) h e = cc
not_exhausted (Some V.Exhausted) h e = h refl
not_exhausted (Some V.Aborted) h e = cc
not_exhausted (Some V.Limit) h e = cc

pub move_leads : (m : Matching) (start : ℕ) (old : List Point) (told : Option Told) (steps : ℕ) (points : List Point) (way : List Pending) (records : ℕ)
    → start ≤ length m.subject → IsStack m.nodes m.subject points → HasCuts m.nodes (m.limit - steps) points →
    records + 2 * m.steps + owed (after_move told) ≤ m.records + 2 * steps → Makes m.nodes m.subject start m.limit old m.steps m.way told points steps way →
    Leads m start old told steps start points way records
move_leads m start old told steps points way records in_start stack cuts few made = record {
  steps_in = made.steps_in;
  paid = made.paid;
  start_in = in_start;
  stack = stack;
  cuts = cuts;
  asked = made.asked;
  points_in = made.grows;
  records_in = few;
  pending = made.pending;
  leads = λ more.
      ap (λ r. further r (later m start)) (made.leads more) ∙
      further-emit (entries told way (m.limit - steps)) (standing (after_move told) m.nodes m.subject start points more (m.limit - steps)) (later m start) ∙
      ap (emit (entries told way (m.limit - steps))) (stand m start points more (m.limit - steps) (after_move told) (not_exhausted told made.more));
}

-- steps that tell nothing are such a move
pub steps_lead : (m : Matching) (start : ℕ) (old : List Point) (steps : ℕ) (points : List Point) (records : ℕ) → start ≤ length m.subject
    → records + 2 * m.steps ≤ m.records + 2 * steps → LeadsOn m.nodes m.subject m.limit old m.steps points steps
    → Leads m start old None steps start points m.way records
steps_lead m start old steps points records in_start few on = record {
  steps_in = on.steps_in;
  paid = omega (arith, on.paid);
  start_in = in_start;
  stack = on.stack;
  cuts = on.cuts;
  asked = tt;
  points_in = on.grows;
  records_in = omega (arith, few);
  pending = refl;
  leads = λ more.
      ap (λ r. further r (later m start)) (on.leads start more) ∙ sym (emit-none (to_come S.Going m start points more (m.limit - steps)));
}

-- no point is left

no_points : (points : List Point) → length points ≡ 0 → points ≡ []
no_points [] h = refl
no_points (p ∷ ps) h = absurd (omega arith)

pub anchored_once : (anchored : Bool) (s : List ℕ) (start : ℕ) → anchored ≡ true → later_starts anchored s start ≡ []
anchored_once true s start h = refl
anchored_once false s start h = absurd (cc)

pub last_start : (anchored : Bool) (s : List ℕ) (start : ℕ) → start ≡ length s → later_starts anchored s start ≡ []
last_start true s start h = refl
last_start false s start h = let z : length s - start ≡ 0 = omega arith in ap (count_from (start + 1)) z

module _ (m : Matching) (start : ℕ) (points : List Point) (inv : IsMatch m start points S.Going) (empty : length points ≡ 0) where
  bare : (more : List Answer) (left : ℕ) → to_come S.Going m start points more left ≡ to_come S.Going m start [] more left
  bare more left = ap (λ (ps : List Point). to_come S.Going m start ps more left) (no_points points empty)

  -- the starts up to this one were passed
  module _ (at spent : ℕ) (in_at : at ≤ length m.subject) (enough : m.steps + spent ≤ m.limit)
      (passed : Passes m.anchored (tree m.nodes m.pattern.0) m.subject start at spent) where
    abbrev steps : ℕ
    steps = m.steps + spent

    fewer : HasCuts m.nodes (m.limit - (m.steps + spent)) points
    fewer = cuts-later m.nodes (m.limit - (m.steps + spent)) (m.limit - m.steps) points (omega arith) inv.cuts

    past : (more : List Answer) → to_come S.Going m start points more (m.limit - m.steps) ≡ to_come S.Going m at [] more (m.limit - steps)
    past more = bare more (m.limit - m.steps) ∙ passed.passes more (m.limit - m.steps) (m.limit - steps) (omega (arith, enough))

    -- and it was the last
    pub exhausted_leads : later_starts m.anchored m.subject at ≡ [] → Leads m start points (Some V.Exhausted) (m.steps + spent) at points m.way m.records
    exhausted_leads none = record {
      steps_in = enough;
      paid = omega arith;
      start_in = in_at;
      stack = inv.stack;
      cuts = fewer;
      asked = tt;
      points_in = omega arith;
      records_in = omega arith;
      pending = refl;
      leads = λ more. past more
          ∙ ap (λ (bs : List ℕ). further (Gives [] more (m.limit - steps) Exhausted)
          (map (λ b. search m.subject b (Match (tree m.nodes m.pattern.0) ∷ []) b []) bs)) none;
    }

    module _ (a : m.anchored ≡ false) (room : at < length m.subject) where
      abbrev from_next : Search
      from_next = search m.subject (at + 1) (Match (tree m.nodes m.pattern.0) ∷ []) (at + 1) []

      later_some : later m at ≡ from_next ∷ later m (at + 1)
      later_some = behind_some (tree m.nodes m.pattern.0) m.subject at m.anchored a room

      -- a start is due, and no step is left
      pub limit_leads : m.steps + spent ≡ m.limit → Leads m start points (Some V.Limit) (m.steps + spent) at points m.way m.records
      limit_leads z =
          let none : m.limit - steps ≡ 0 = omega (arith, z) in
          record {
            steps_in = enough;
            paid = omega arith;
            start_in = in_at;
            stack = inv.stack;
            cuts = fewer;
            asked = tt;
            points_in = omega arith;
            records_in = omega arith;
            pending = refl;
            leads = λ more.
                past more ∙ ap (λ n. to_come S.Going m at [] more n) none ∙
                ap (further (Gives [] more 0 Exhausted)) later_some ∙
                further-stop [] more 0 Limit (later m (at + 1)) tt ∙
                ap (λ n. Gives [] more n Limit) (sym none);
          }

      -- the next start is taken up
      pub start_leads : (new : List Point) (records : ℕ) → (m.steps + spent ≡ m.limit → ⊥) → new ≡ first_point (N.Match m.pattern) (at + 1) ∷ []
          → records ≤ m.records + 1 →
          Leads m start points None (m.steps + spent + 1) (at + 1) new m.way records
      start_leads new records z is few =
          let left = m.limit - (steps + 1) in
          let n : m.limit - steps ≡ suc (m.limit - (steps + 1)) = omega (arith, z, enough) in
          record {
            steps_in = omega (arith, z, enough);
            paid = omega arith;
            start_in = omega (arith, room);
            stack = first_stack m.nodes m.subject m.pattern (at + 1) new inv.pattern_in (omega (arith, room)) is;
            cuts = first_cuts m.nodes (m.limit - (m.steps + spent + 1)) m.pattern (at + 1) new is;
            asked = tt;
            points_in = omega (arith, ap length is);
            records_in = omega (arith, few);
            pending = refl;
            leads = λ more.
                past more ∙ ap (λ k. to_come S.Going m at [] more k) n ∙
                ap (further (Gives [] more (suc left) Exhausted)) later_some ∙
                ap (λ r. further r (later m (at + 1))) (emit-none (from_next more left)) ∙
                ap (λ ps. to_come S.Going m (at + 1) ps more left) (sym is) ∙
                sym (emit-none (to_come S.Going m (at + 1) new more left));
          }
