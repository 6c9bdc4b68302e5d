-- Lists of events, and the entry that one event adds to them.
use Rattle.std.proofs.Common.{◌≡◌, ℕ, suc, ◌+◌, ◌-◌, ◌≤◌, List, [], ◌∷◌, ◌++◌, Option, Some, None, length, map, slice_get, refl, ap, arith, append_assoc}
use Rattle.sno_match.specs.declared.event.Event.{Event as Told}
use Rattle.sno_match.specs.declared.event.Event.TheVariants as V
use Rattle.sno_match.specs.declared.event.Pending.{Pending}
use Rattle.sno_match.specs.Search.{Event, SearchResult, Gives, emit, all_events, last_event}
use Rattle.sno_match.specs.Matching.{is_last, is_value, pending_after, last_pending, last_count}
use Rattle.sno_match.specs.inner.State.{after, after_move, waits, ended, over, LastIn}
use Rattle.sno_match.specs.inner.Move.{entries, way_after}
use Rattle.sno_match.specs.inner.Running.{counted}

pub all_events-emit : (es : List (Event × ℕ)) (outcome : SearchResult) → all_events (emit es outcome) ≡ es ++ all_events outcome
all_events-emit es (Gives fs answers left verdict) = append_assoc es fs (last_event verdict left)

pub length-counted : (limit : ℕ) (es : List (Event × ℕ)) → length (map (counted limit) es) ≡ length es
length-counted limit [] = refl
length-counted limit (e ∷ es) = ap suc (length-counted limit es)

pub at_place : (limit : ℕ) (es rest : List (Event × ℕ)) (x : Event × ℕ) → slice_get (map (counted limit) (es ++ x ∷ rest)) (length es) ≡ Some (counted limit x)
at_place limit [] rest x = refl
at_place limit (e ∷ es) rest x = at_place limit es rest x

pub last_pending-append : (x : List Pending) (es fs : List (Event × ℕ)) → last_pending x (es ++ fs) ≡ last_pending (last_pending x es) fs
last_pending-append x [] fs = refl
last_pending-append x (e ∷ es) fs = last_pending-append (pending_after e.0 x) es fs

pub last_count-append : (n : ℕ) (es fs : List (Event × ℕ)) → last_count n (es ++ fs) ≡ last_count (last_count n es) fs
last_count-append n [] fs = refl
last_count-append n (e ∷ es) fs = last_count-append e.1 es fs

-- the entries of one event

pub entry-one : (event : Told) (way : List Pending) (left : ℕ) → length (entries (Some event) way left) + over (after event) ≡ 1
entry-one (V.Way start end) way left = refl
entry-one (V.Assign target start end) way left = refl
entry-one (V.Cursor target at) way left = refl
entry-one (V.Value prim expr) way left = refl
entry-one V.Exhausted way left = refl
entry-one V.Aborted way left = refl
entry-one V.Limit way left = refl

pub entry-pending : (told : Option Told) (way was : List Pending) (left : ℕ) → last_pending was (entries told way left) ≡ way_after told way was
entry-pending None way was left = refl
entry-pending (Some (V.Way start end)) way was left = refl
entry-pending (Some (V.Assign target start end)) way was left = refl
entry-pending (Some (V.Cursor target at)) way was left = refl
entry-pending (Some (V.Value prim expr)) way was left = refl
entry-pending (Some V.Exhausted) way was left = refl
entry-pending (Some V.Aborted) way was left = refl
entry-pending (Some V.Limit) way was left = refl

pub entry-count : (told : Option Told) (way : List Pending) (limit steps n : ℕ) → n ≤ steps → steps ≤ limit
    → last_count n (map (counted limit) (entries told way (limit - steps))) ≤ steps
entry-count None way limit steps n h k = h
entry-count (Some (V.Way start end)) way limit steps n h k = omega arith
entry-count (Some (V.Assign target start end)) way limit steps n h k = omega arith
entry-count (Some (V.Cursor target at)) way limit steps n h k = omega arith
entry-count (Some (V.Value prim expr)) way limit steps n h k = omega arith
entry-count (Some V.Exhausted) way limit steps n h k = h
entry-count (Some V.Aborted) way limit steps n h k = h
entry-count (Some V.Limit) way limit steps n h k = h

pub after-last : (told : Option Told) → LastIn (after_move told)
after-last None = tt
after-last (Some (V.Way start end)) = tt
after-last (Some (V.Assign target start end)) = tt
after-last (Some (V.Cursor target at)) = tt
after-last (Some (V.Value prim expr)) = tt
after-last (Some V.Exhausted) = refl
after-last (Some V.Aborted) = refl
after-last (Some V.Limit) = refl

pub after-ended : (event : Told) → ended (after event) ≡ is_last event
after-ended (V.Way start end) = refl
after-ended (V.Assign target start end) = refl
after-ended (V.Cursor target at) = refl
after-ended (V.Value prim expr) = refl
after-ended V.Exhausted = refl
after-ended V.Aborted = refl
after-ended V.Limit = refl

pub after-waits : (event : Told) → waits (after event) ≡ is_value event
after-waits (V.Way start end) = refl
after-waits (V.Assign target start end) = refl
after-waits (V.Cursor target at) = refl
after-waits (V.Value prim expr) = refl
after-waits V.Exhausted = refl
after-waits V.Aborted = refl
after-waits V.Limit = refl

-- how many events
abbrev pub tells : Option Told → ℕ
tells None = 0
tells (Some event) = 1

pub entries-tell : (told : Option Told) (way : List Pending) (left : ℕ) → length (entries told way left) + over (after_move told) ≡ tells told
entries-tell None way left = refl
entries-tell (Some event) way left = entry-one event way left
