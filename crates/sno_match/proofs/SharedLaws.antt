-- Lists of goals as records: what stays where records are added or cut back.
use Rattle.std.proofs.Common.{◌≡◌, ◌==◌, ℕ, suc, ◌+◌, ◌-◌, ◌≤◌, ◌<◌, Bool, true, false, if◌then◌else◌, eqb, List, [], ◌∷◌, ◌++◌, Option, Some, None}
use Rattle.std.proofs.Common.{length, map, reverse, take, drop, refl, ◌∙◌, sym, ap, subst, arith, append_assoc, append-nil, length-append, get_or}
use Rattle.std.proofs.lemmas.List.{reverse-append, length-reverse, take-append-drop, length-take-le, take-append-le, take-take, take_all, drop_more}
use Rattle.std.proofs.lemmas.List.{nil_from_length}
use Rattle.std.specs.Option.{option_to_list, MatchOption}
use Rattle.std.proofs.lemmas.Bool.{eq-eqb, ne_eqb}
use Rattle.sno_match.specs.declared.event.Pending.{Pending}
use Rattle.sno_match.specs.declared.goal.Goal.{Goal}
use Rattle.sno_match.specs.declared.goal.Mark.{Mark}
use Rattle.sno_match.specs.declared.goal.Mark.TheVariants.{Enter}
use Rattle.sno_match.specs.declared.records.GoalRecord.{GoalRecord}
use Rattle.sno_match.specs.declared.shared.Held.{Held}
use Rattle.sno_match.specs.Point.{Point, rest_of, with_front, replaced, branched, closed, below as points_below}
use Rattle.sno_match.specs.Top.{first_point}
use Rattle.sno_match.specs.inner.Shared.{goals_at, goals_of, Falls, Fits, Holds, Extends, marked, point_of, points_of, held_of}

false_or_true : false ≡ true → ⊥
false_or_true e = absurd (cc)

at_newest : (b : Bool) (xs ys : List Goal) → b ≡ true → (if b then xs else ys) ≡ xs
at_newest true xs ys h = refl
at_newest false xs ys h = absurd (cc)

at_older : (b : Bool) (xs ys : List Goal) → b ≡ false → (if b then xs else ys) ≡ ys
at_older true xs ys h = absurd (cc)
at_older false xs ys h = refl

-- a list has no record that is newer than its number
at_grow : (more old : List GoalRecord) (n : ℕ) → n ≤ length old → goals_at (more ++ old) n ≡ goals_at old n
unfolding goals_at
at_grow [] old n h = refl
at_grow (newest ∷ more) old n h =
    at_older (eqb n (length (more ++ old) + 1)) _ _ (ne_eqb n (length (more ++ old) + 1) (λ e. omega (arith, length-append more old))) ∙ at_grow more old n h

pub no_goals : (records : List GoalRecord) → goals_at records 0 ≡ []
unfolding goals_at
no_goals [] = refl
no_goals (newest ∷ older) = at_older (eqb 0 (length older + 1)) _ _ (ne_eqb 0 (length older + 1) (λ e. omega arith)) ∙ no_goals older

at_first : (newest : GoalRecord) (older : List GoalRecord) (n : ℕ) → n ≡ length older + 1 → goals_at (newest ∷ older) n
    ≡ newest.goal ∷ goals_at older newest.behind
unfolding goals_at
at_first newest older n e = at_newest (eqb n (length older + 1)) _ _ (eq-eqb n (length older + 1) e)

falls_older : (more old : List GoalRecord) → Falls (more ++ old) → Falls old
falls_older [] old h = h
falls_older (newest ∷ more) old h = falls_older more old h.1

pub grown : (old made : List GoalRecord) (n : ℕ) → n ≤ length old → goals_of (old ++ made) n ≡ goals_of old n
grown old made n h = ap (λ rs. goals_at rs n) (reverse-append old made) ∙ at_grow (reverse made) (reverse old) n (omega (arith, length-reverse old))

-- records that are cut back keep the lists that are within them
pub cut : (old : List GoalRecord) (keep n : ℕ) → n ≤ keep → keep ≤ length old → goals_of (take keep old) n ≡ goals_of old n
cut old keep n h k =
    sym (grown (take keep old) (drop keep old) n (omega (arith, length-take-le keep old k))) ∙ ap (λ rs. goals_of rs n) (take-append-drop keep old)

pub falls_cut : (old : List GoalRecord) (keep : ℕ) → Falls (reverse old) → Falls (reverse (take keep old))
falls_cut old keep h =
    falls_older (reverse (drop keep old)) (reverse (take keep old))
    (subst Falls (ap reverse (sym (take-append-drop keep old)) ∙ reverse-append (take keep old) (drop keep old)) h)

-- a record that stands at a place
pub record IsAt (records : List GoalRecord) (i : ℕ) (found : GoalRecord) : Type 0 where
  pub list : goals_of records (i + 1) ≡ found.goal ∷ goals_of records found.behind
  pub smaller : found.behind ≤ i

at_parts : (before after : List GoalRecord) (found : GoalRecord) → Falls (reverse (before ++ (found ∷ after)))
    → IsAt (before ++ (found ∷ after)) (length before) found
at_parts before after found falls =
    let turned : reverse (before ++ (found ∷ after)) ≡ reverse after ++ (found ∷ reverse before) =
    reverse-append before (found ∷ after) ∙ ap (λ rs. rs ++ reverse before) (reverse-append (found ∷ []) after)
    ∙ append_assoc (reverse after) (found ∷ []) (reverse before) in
    let under : Falls (found ∷ reverse before) = falls_older (reverse after) (found ∷ reverse before) (subst Falls turned falls) in
    let size : length (reverse before) ≡ length before = length-reverse before in
    let smaller : found.behind ≤ length (reverse before) = under.0 in
    record {
      list =
          ap (λ rs. goals_at rs (length before + 1)) turned ∙ at_grow (reverse after) (found ∷ reverse before) (length before + 1) (omega (arith, size)) ∙
          at_first found (reverse before) (length before + 1) (omega (arith, size)) ∙
          ap (λ rest. found.goal ∷ rest)
          (sym (ap (λ rs. goals_at rs found.behind) turned ∙ at_grow (reverse after) (found ∷ reverse before) found.behind (omega (arith, smaller))
          ∙ at_grow (found ∷ []) (reverse before) found.behind smaller));
      smaller = omega (arith, size, smaller);
    }

pub read_at : (records : List GoalRecord) (i : ℕ) (found d : GoalRecord) → i < length records → found ≡ get_or records i d
    → Falls (reverse records) → IsAt records i found
read_at records i found d inside read falls =
    let parts : take i records ++ (found ∷ drop (i + 1) records) ≡ records =
    ap (λ rest. take i records ++ rest) (ap (λ x. x ∷ drop (i + 1) records) read ∙ sym (drop_more records i d inside)) ∙ take-append-drop i records in
    let at = at_parts (take i records) (drop (i + 1) records) found (subst (λ rs. Falls (reverse rs)) (sym parts) falls) in
    subst (λ j. IsAt records j found) (length-take-le i records (omega arith)) (subst (λ rs. IsAt rs (length (take i records)) found) parts at)

-- a record put in front of a list
pub linked : (old : List GoalRecord) (goal : Goal) (behind : ℕ) → goals_of (old ++ record { goal = goal; behind = behind } ∷ []) (length old + 1)
    ≡ goal ∷ goals_of old behind
linked old goal behind =
    let made : GoalRecord = record { goal = goal; behind = behind } in
    ap (λ rs. goals_at rs (length old + 1)) (reverse-append old (made ∷ [])) ∙ at_first made (reverse old) (length old + 1) (omega (arith, length-reverse old))

pub falls_linked : (old : List GoalRecord) (goal : Goal) (behind : ℕ) → behind ≤ length old → Falls (reverse old)
    → Falls (reverse (old ++ record { goal = goal; behind = behind } ∷ []))
falls_linked old goal behind h falls =
    let made : GoalRecord = record { goal = goal; behind = behind } in
    subst Falls (sym (reverse-append old (made ∷ []))) (omega (arith, length-reverse old), falls)

pub fits_wider : (count entries wider longer : ℕ) (points : List Held) → count ≤ wider → entries ≤ longer → Fits count entries points → Fits wider longer points
fits_wider count entries wider longer [] h k fits = tt
fits_wider count entries wider longer (held ∷ under) h k fits = (omega (arith, fits.0), omega (arith, fits.1), omega (arith, fits.2), fits.3)

-- points read the same lists in other records and entries that agree on those within their reach
pub same_points : (records others : List GoalRecord) (pending entries : List Pending) (count assigned : ℕ) (points : List Held) →
    ((n : ℕ) → n ≤ count → goals_of records n ≡ goals_of others n) → ((n : ℕ) → n ≤ assigned → take n pending ≡ take n entries) → Fits count assigned points →
    map (point_of records pending) points ≡ map (point_of others entries) points
same_points records others pending entries count assigned [] goals waits fits = refl
same_points records others pending entries count assigned (held ∷ under) goals waits fits =
    let rest = same_points records others pending entries held.floor held.assigned under (λ n h. goals n (omega (arith, h, fits.1)))
    (λ n h. waits n (omega (arith, h, fits.2))) fits.3 in
    ap (λ (gs : List Goal). let p : Point = record { goals = gs; cursor = held.cursor; pending = take held.assigned pending; mark = marked held.next } in
    p ∷ map (point_of records pending) under) (goals held.goals fits.0) ∙
    ap (λ (ps : List Pending). let p : Point = record { goals = goals_of others held.goals; cursor = held.cursor; pending = ps; mark = marked held.next } in
    p ∷ map (point_of records pending) under) (waits held.assigned fits.2) ∙
    ap (λ ps. point_of others entries held ∷ ps) rest

pub extends_none : (old : List GoalRecord) (behind : ℕ) → behind ≤ length old → Falls (reverse old) → Extends old behind [] old behind
extends_none old behind h falls = record { kept = ([], sym (append-nil old)); count = omega arith; falls = falls; inside = h; list = refl }

pub extends_more : (old now : List GoalRecord) (behind goals n : ℕ) (front : List Goal) (goal : Goal)
    → Extends old behind front now goals → n ≡ length now + 1 →
    Extends old behind (goal ∷ front) (now ++ record { goal = goal; behind = goals } ∷ []) n
extends_more old now behind goals n front goal e size =
    let made : GoalRecord = record { goal = goal; behind = goals } in
    record {
      kept = (e.kept.0 ++ made ∷ [], ap (λ rs. rs ++ made ∷ []) e.kept.1 ∙ append_assoc old e.kept.0 (made ∷ []));
      count = omega (arith, length-append now (made ∷ []), e.count);
      falls = falls_linked now goal goals e.inside e.falls;
      inside = omega (arith, length-append now (made ∷ []), size);
      list = ap (goals_of (now ++ made ∷ [])) size ∙ linked now goal goals ∙ ap (λ gs. goal ∷ gs) e.list;
    }

-- the first record of a list that is not empty
module _ (records : List GoalRecord) (goals : ℕ) (d : GoalRecord) (some : 0 < goals) (inside : goals ≤ length records) (falls : Falls (reverse records)) where
  first_is : IsAt records (goals - 1) (get_or records (goals - 1) d)
  first_is = read_at records (goals - 1) (get_or records (goals - 1) d) d (omega (arith, some, inside)) refl falls

  pub parts_is : goals_of records goals ≡ (get_or records (goals - 1) d).goal ∷ goals_of records (get_or records (goals - 1) d).behind
  parts_is =
      let size : goals ≡ goals - 1 + 1 = omega (arith, some) in
      ap (goals_of records) size ∙ first_is.list

  pub first_goal : goals_of records goals ≡ (get_or records (goals - 1) d).goal ∷ rest_of (goals_of records goals)
  first_goal = parts_is ∙ ap (λ rest. (get_or records (goals - 1) d).goal ∷ rest) (sym (ap rest_of parts_is))

  pub first_rest : goals_of records (get_or records (goals - 1) d).behind ≡ rest_of (goals_of records goals)
  first_rest = sym (ap rest_of parts_is)

  pub first_smaller : (get_or records (goals - 1) d).behind ≤ goals
  first_smaller = omega (arith, first_is.smaller)

pub top_is : (records : List GoalRecord) (pending : List Pending) (top : Option Held) (below : List Held) (point : Held) (goals : List Goal) (mark : Mark)
    → top ≡ Some point
    → goals_of records point.goals ≡ goals → mark ≡ marked point.next →
    points_of records pending top below ≡ record { goals = goals; cursor = point.cursor; pending = take point.assigned pending; mark = mark }
    ∷ map (point_of records pending) (reverse below)
top_is records pending top below point goals mark e f h =
    ap (λ t. points_of records pending t below) e ∙
    ap (λ (gs : List Goal). let p : Point = record { goals = gs; cursor = point.cursor; pending = take point.assigned pending; mark = marked point.next } in
    p ∷ map (point_of records pending) (reverse below)) f ∙
    ap (λ (m : Mark). let p : Point = record { goals = goals; cursor = point.cursor; pending = take point.assigned pending; mark = m } in
    p ∷ map (point_of records pending) (reverse below)) (sym h)

-- points within the records that were kept
same_under : (records new : List GoalRecord) (pending : List Pending) (keep assigned : ℕ) (points : List Held) → Fits keep assigned points
    → keep ≤ length records → (made : List GoalRecord) × (new ≡ take keep records ++ made) →
    map (point_of new pending) points ≡ map (point_of records pending) points
same_under records new pending keep assigned points fits inside made =
    same_points new records pending pending keep assigned points
    (λ n h. ap (λ rs. goals_of rs n) made.1 ∙ grown (take keep records) made.0 n (omega (arith, h, length-take-le keep records inside))
    ∙ cut records keep n h inside) (λ n h. refl) fits

-- what the operations make of a newest point
module _ (records : List GoalRecord) (pending : List Pending) (top : Option Held) (below : List Held) (point : Held) (is : top ≡ Some point)
    (holds : Holds records pending top below) where
  pub fits : Fits (length records) (length pending) (point ∷ reverse below)
  fits = subst (λ t. Fits (length records) (length pending) (held_of t below)) is holds.fits

  stacked : points_of records pending top below ≡ map (point_of records pending) (point ∷ reverse below)
  stacked = ap (λ t. points_of records pending t below) is

  -- new records in front of what stands behind the first
  module _ (new : List GoalRecord) (front : List Goal) (cursor behind keep goals : ℕ) (rest : goals_of records behind ≡ rest_of (goals_of records point.goals))
      (near : behind ≤ keep) (inside : keep ≤ length records)
      (puts : Extends (take keep records) behind front new goals) where
    size : length new ≡ keep + length front
    size = omega (arith, puts.count, length-take-le keep records inside)

    list : goals_of new goals ≡ front ++ rest_of (goals_of records point.goals)
    list = puts.list ∙ ap (λ gs. front ++ gs) (cut records keep behind near inside ∙ rest)

    pub replaced_holds : point.floor ≤ keep
        → Holds new pending (Some record { goals = goals; cursor = cursor; next = None; floor = point.floor; assigned = point.assigned }) below
    replaced_holds floor = record { falls = puts.falls; fits = (puts.inside, omega (arith, size, floor), fits.2, fits.3) }

    pub replaced_points : point.floor ≤ keep
        → points_of new pending (Some record { goals = goals; cursor = cursor; next = None; floor = point.floor; assigned = point.assigned }) below
        ≡ replaced front cursor (points_of records pending top below)
    replaced_points floor =
        ap (λ (gs : List Goal). let p : Point = record { goals = gs; cursor = cursor; pending = take point.assigned pending; mark = Enter } in
        p ∷ map (point_of new pending) (reverse below)) list ∙
        ap (λ ps. with_front front cursor (point_of records pending point) ∷ ps)
        (same_under records new pending keep point.assigned (reverse below) (fits_wider point.floor point.assigned keep point.assigned (reverse below) floor
        (omega arith) fits.3) inside puts.kept) ∙
        ap (replaced front cursor) (sym stacked)

    module _ (next : ℕ) (held : point.goals ≤ keep) (floor : point.floor ≤ keep) (room under : List Held) (same : room ≡ below)
        (grows : under ≡ room ++ record {
          goals = point.goals;
          cursor = point.cursor;
          next = Some next;
          floor = point.floor;
          assigned = point.assigned;
        } ∷ []) where
      turned : reverse under ≡ record {
        goals = point.goals;
        cursor = point.cursor;
        next = Some next;
        floor = point.floor;
        assigned = point.assigned;
      } ∷ reverse below
      turned = ap reverse (grows
          ∙ ap (λ bs. bs ++ record { goals = point.goals; cursor = point.cursor; next = Some next; floor = point.floor; assigned = point.assigned } ∷ []) same)
          ∙ reverse-append below (record { goals = point.goals; cursor = point.cursor; next = Some next; floor = point.floor; assigned = point.assigned } ∷ [])

      fits_stays : Fits keep point.assigned
          (record { goals = point.goals; cursor = point.cursor; next = Some next; floor = point.floor; assigned = point.assigned } ∷ reverse below)
      fits_stays = (held, floor, omega arith, fits.3)

      pub branched_holds : Holds new pending (Some record { goals = goals; cursor = cursor; next = None; floor = keep; assigned = point.assigned }) under
      branched_holds = record {
        falls = puts.falls;
        fits = (puts.inside, omega (arith, size), fits.2, subst (Fits keep point.assigned) (sym turned) fits_stays);
      }

      pub branched_points : points_of new pending (Some record { goals = goals; cursor = cursor; next = None; floor = keep; assigned = point.assigned }) under
          ≡ branched front cursor next (points_of records pending top below)
      branched_points =
          ap (λ (gs : List Goal). let p : Point = record { goals = gs; cursor = cursor; pending = take point.assigned pending; mark = Enter } in
          p ∷ map (point_of new pending) (reverse under)) list ∙
          ap (λ ps. with_front front cursor (point_of records pending point) ∷ ps)
          (ap (map (point_of new pending)) turned ∙ same_under records new pending keep point.assigned
          (record { goals = point.goals; cursor = point.cursor; next = Some next; floor = point.floor; assigned = point.assigned } ∷ reverse below)
          fits_stays inside puts.kept) ∙
          ap (branched front cursor next) (sym stacked)

  -- nothing takes the place of the first goal, and no record changes
  module _ (cursor behind : ℕ) (rest : goals_of records behind ≡ rest_of (goals_of records point.goals)) (near : behind ≤ point.goals) where
    none_put : Extends (take (length records) records) behind [] records behind
    none_put = subst (λ rs. Extends rs behind [] records behind) (sym (take_all (length records) records (omega arith)))
        (extends_none records behind (omega (arith, near, fits.0)) holds.falls)

    pub first_dropped_holds : Holds records pending
        (Some record { goals = behind; cursor = cursor; next = None; floor = point.floor; assigned = point.assigned }) below
    first_dropped_holds = replaced_holds records [] cursor behind (length records) behind rest (omega (arith, near, fits.0)) (omega arith) none_put fits.1

    pub first_dropped_points : (front : List Goal) → (length front == 0) ≡ true →
        points_of records pending (Some record { goals = behind; cursor = cursor; next = None; floor = point.floor; assigned = point.assigned }) below
        ≡ replaced front cursor (points_of records pending top below)
    first_dropped_points [] h = replaced_points records [] cursor behind (length records) behind rest (omega (arith, near, fits.0)) (omega arith)
        none_put fits.1
    first_dropped_points (goal ∷ front) h = absurd (false_or_true (sym (ne_eqb (suc (length front)) 0 (λ e. omega arith)) ∙ h))

  -- an entry behind the point's own
  module _ (entries : List Pending) (assignment : Pending) (behind : ℕ) (rest : goals_of records behind ≡ rest_of (goals_of records point.goals))
      (near : behind ≤ point.goals)
      (puts : entries ≡ take point.assigned pending ++ assignment ∷ []) (assigned : ℕ) (more : assigned ≡ point.assigned + 1) where
    own : length (take point.assigned pending) ≡ point.assigned
    own = length-take-le point.assigned pending fits.2

    entries_size : length entries ≡ point.assigned + 1
    entries_size = ap length puts ∙ omega (arith, own, length-append (take point.assigned pending) (assignment ∷ []))

    pub closed_holds : Holds records entries
        (Some record { goals = behind; cursor = point.cursor; next = None; floor = point.floor; assigned = assigned }) below
    closed_holds = record {
      falls = holds.falls;
      fits = (
        omega (arith, near, fits.0),
        fits.1,
        omega (arith, entries_size, more),
        fits_wider point.floor point.assigned point.floor assigned
            (reverse below) (omega arith) (omega arith) fits.3,
      );
    }

    all_own : take assigned entries ≡ take point.assigned pending ++ assignment ∷ []
    all_own = take_all assigned entries (omega (arith, entries_size, more)) ∙ puts

    pub closed_points : points_of records entries
        (Some record { goals = behind; cursor = point.cursor; next = None; floor = point.floor; assigned = assigned }) below
        ≡ closed assignment (points_of records pending top below)
    closed_points =
        ap (λ (gs : List Goal). let p : Point = record { goals = gs; cursor = point.cursor; pending = take assigned entries; mark = Enter } in
        p ∷ map (point_of records entries) (reverse below)) rest ∙
        ap (λ (ps : List Pending). let p : Point = record {
          goals = rest_of (goals_of records point.goals);
          cursor = point.cursor;
          pending = ps;
          mark = Enter;
        } in p ∷ map (point_of records entries) (reverse below)) all_own ∙
        ap (λ ps. record {
          goals = rest_of (goals_of records point.goals);
          cursor = point.cursor;
          pending = take point.assigned pending
              ++ assignment ∷ [];
          mark = Enter;
        } ∷ ps)
        (same_points records records entries pending point.floor point.assigned (reverse below) (λ n h. refl)
        (λ n h. ap (take n) puts ∙ take-append-le n (take point.assigned pending) (assignment ∷ []) (omega (arith, h, own))
        ∙ take-take n point.assigned pending h) fits.3) ∙
        ap (closed assignment) (sym stacked)

-- the last of the points below, where there is one, becomes the newest
module _ (below rest : List Held) (n m : ℕ) (size : n ≡ length below) where
  pub turned_under : (last : Option Held) → below ≡ rest ++ option_to_list last → MatchOption last ((n ≡ 0) × (m ≡ 0)) (λ held. m + 1 ≡ n)
      → reverse below ≡ held_of last rest
  turned_under None e none = ap reverse (nil_from_length below (sym size ∙ none.0))
  turned_under (Some held) e some = ap reverse e ∙ reverse-append rest (held ∷ [])

-- the newest point is dropped, and records that only it had
module _ (records : List GoalRecord) (pending : List Pending) (top : Option Held) (under : List Held) (point : Held) (is : top ≡ Some point)
    (holds : Holds records pending top under) (last : Option Held) (rest : List Held)
    (turned : reverse under ≡ held_of last rest) (kept : List GoalRecord) (keeps : kept ≡ take point.floor records) where
  within : Fits (length records) (length pending) (point ∷ reverse under)
  within = fits records pending top under point is holds

  pub dropped_holds : Holds kept pending last rest
  dropped_holds = record {
    falls = subst (λ rs. Falls (reverse rs)) (sym keeps) (falls_cut records point.floor holds.falls);
    fits = subst (Fits (length kept) (length pending)) turned (fits_wider point.floor point.assigned (length kept) (length pending) (reverse under)
        (omega (arith, ap length keeps, length-take-le point.floor records within.1)) within.2 within.3);
  }

  pub dropped_points : points_of kept pending last rest ≡ points_below (points_of records pending top under)
  dropped_points =
      ap (map (point_of kept pending)) (sym turned) ∙
      same_points kept records pending pending point.floor point.assigned (reverse under)
      (λ n h. ap (λ rs. goals_of rs n) keeps ∙ cut records point.floor n h within.1) (λ n h. refl) within.3 ∙
      ap (λ t. points_below (points_of records pending t under)) (sym is)

pub begun_points : (records new : List GoalRecord) (pending : List Pending) (below : List Held) (goal : Goal) (cursor goals : ℕ) → below ≡ []
    → Extends (take 0 records) 0 (goal ∷ []) new goals →
    points_of new pending (Some record { goals = goals; cursor = cursor; next = None; floor = 0; assigned = 0 }) below ≡ first_point goal cursor ∷ []
begun_points records new pending below goal cursor goals none puts =
    ap (λ bs. points_of new pending (Some record { goals = goals; cursor = cursor; next = None; floor = 0; assigned = 0 }) bs) none ∙
    ap (λ (gs : List Goal). let p : Point = record { goals = gs; cursor = cursor; pending = []; mark = Enter } in p ∷ [])
    (puts.list ∙ ap (λ gs. goal ∷ gs) (no_goals (reverse (take 0 records))))
