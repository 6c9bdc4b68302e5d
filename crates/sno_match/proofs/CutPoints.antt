-- The oldest points of a stack, which stay where a cut is closed.
use Rattle.std.proofs.Common.{◌≡◌, ℕ, suc, ◌-◌, ◌≤◌, ◌<◌, List, [], ◌∷◌, ◌++◌, Option, Some, None, length, map, take, drop, slice_get, get_or}
use Rattle.std.proofs.Common.{reverse, refl, ◌∙◌, sym, ap, subst, arith, append_assoc, length-drop}
use Rattle.std.proofs.Math.Seq.{drop-append_seam}
use Rattle.std.proofs.lemmas.List.{reverse-append, length-reverse, take-append-drop, drop-map}
use Rattle.sno_match.specs.declared.event.Pending.{Pending}
use Rattle.sno_match.specs.declared.goal.Goal.{Goal}
use Rattle.sno_match.specs.declared.goal.Mark.TheVariants.{Enter}
use Rattle.sno_match.specs.declared.records.GoalRecord.{GoalRecord}
use Rattle.sno_match.specs.declared.shared.Held.{Held}
use Rattle.sno_match.specs.Point.{Point, rest_of, cut_back}
use Rattle.sno_match.specs.declared.copied.Held.{Held as Copied}
use Rattle.sno_match.specs.Copied.{point_of as copied_of, points_of as copied_points}
use Rattle.sno_match.specs.inner.Shared.{goals_of, Fits, Holds, point_of, points_of}
use Rattle.std.proofs.lemmas.Option.{slice_get-get_or}
use Rattle.sno_match.proofs.ReadingLaws.{drop-at}
use Rattle.sno_match.proofs.SharedLaws.{fits, fits_wider}

map-length : {X Y : Type 0} (f : X → Y) (xs : List X) → length (map f xs) ≡ length xs
map-length f [] = refl
map-length f (x ∷ xs) = ap suc (map-length f xs)

-- the newest stand last
split : {X : Type 0} (xs : List X) (count : ℕ) → reverse xs ≡ reverse (drop count xs) ++ reverse (take count xs)
split xs count = ap reverse (sym (take-append-drop count xs)) ∙ reverse-append (take count xs) (drop count xs)

pub oldest : {X : Type 0} (xs : List X) (count : ℕ) → reverse (take count xs) ≡ drop (length xs - count) (reverse xs)
oldest xs count =
    let size : length xs - count ≡ length (reverse (drop count xs)) = omega (arith, length-reverse (drop count xs), length-drop count xs) in
    sym (ap (λ n. drop n (reverse xs)) size ∙ ap (drop (length (reverse (drop count xs)))) (split xs count) ∙ drop-append_seam (reverse (drop count xs))
    (reverse (take count xs)))

-- below a point that is dropped stands what its floor says
under-newer : (floor assigned : ℕ) (newer : List Held) (dropped : Held) (older : List Held) → Fits floor assigned (newer ++ dropped ∷ older)
    → (dropped.floor ≤ floor) × Fits dropped.floor assigned older
under-newer floor assigned [] dropped older h = (h.1, fits_wider dropped.floor dropped.assigned dropped.floor assigned older (omega arith) h.2 h.3)
under-newer floor assigned (point ∷ newer) dropped older h =
    let m = under-newer point.floor point.assigned newer dropped older h.3 in
    (omega (arith, m.0, h.1), fits_wider dropped.floor point.assigned dropped.floor assigned older (omega arith) h.2 m.1)

-- a point stands at this place of the list, and it and the newer ones are dropped
pub floor-some : (xs : List Held) (count floor assigned : ℕ) (dropped : Held) → slice_get xs count ≡ Some dropped → Fits floor assigned (reverse xs)
    → (dropped.floor ≤ floor) × Fits dropped.floor assigned (reverse (take count xs))
floor-some xs count floor assigned dropped at h =
    let rest : drop count xs ≡ dropped ∷ drop (suc count) xs = drop-at xs count dropped at in
    let turned : reverse (drop count xs) ≡ reverse (drop (suc count) xs) ++ dropped ∷ [] =
    ap reverse rest ∙ reverse-append (dropped ∷ []) (drop (suc count) xs) in
    let whole : reverse xs ≡ reverse (drop (suc count) xs) ++ dropped ∷ reverse (take count xs) =
    split xs count ∙ ap (λ (ys : List Held). ys ++ reverse (take count xs)) turned ∙ append_assoc (reverse (drop (suc count) xs)) (dropped ∷ [])
    (reverse (take count xs)) in
    under-newer floor assigned (reverse (drop (suc count) xs)) dropped (reverse (take count xs)) (subst (Fits floor assigned) whole h)

pub floor-at : (xs : List Held) (count floor assigned : ℕ) (dropped d : Held) → count < length xs → dropped ≡ get_or xs count d
    → Fits floor assigned (reverse xs) → (dropped.floor ≤ floor) × Fits dropped.floor assigned (reverse (take count xs))
floor-at xs count floor assigned dropped d inside is h = floor-some xs count floor assigned dropped (slice_get-get_or xs count d inside ∙ ap Some (sym is)) h

-- the newest point closes a cut
module _ (records : List GoalRecord) (pending : List Pending) (top : Option Held) (below kept : List Held) (point : Held) (is : top ≡ Some point)
    (holds : Holds records pending top below)
    (goals floor depth : ℕ) (rest : goals_of records goals ≡ rest_of (goals_of records point.goals)) (near : goals ≤ point.goals)
    (keeps : kept ≡ take depth below) (low : floor ≤ point.floor) (fit : Fits floor point.assigned (reverse kept)) where
  all : Fits (length records) (length pending) (point ∷ reverse below)
  all = fits records pending top below point is holds

  pub cut_holds : Holds records pending (Some record { goals = goals; cursor = point.cursor; next = None; floor = floor; assigned = point.assigned }) kept
  cut_holds = record { falls = holds.falls; fits = (omega (arith, near, all.0), omega (arith, low, all.1), all.2, fit) }

  pub cut_points : points_of records pending (Some record { goals = goals; cursor = point.cursor; next = None; floor = floor; assigned = point.assigned }) kept
      ≡ cut_back depth (points_of records pending top below)
  cut_points =
      let size : length (map (point_of records pending) (reverse below)) - depth ≡ length below - depth =
      omega (arith, map-length (point_of records pending) (reverse below), length-reverse below) in
      ap (λ (gs : List Goal). let p : Point = record { goals = gs; cursor = point.cursor; pending = take point.assigned pending; mark = Enter } in
      p ∷ map (point_of records pending) (reverse kept)) rest ∙
      ap (λ (ps : List Point). record {
        goals = rest_of (goals_of records point.goals);
        cursor = point.cursor;
        pending = take point.assigned pending;
        mark = Enter;
      } ∷ ps)
      (ap (map (point_of records pending)) (ap reverse keeps ∙ oldest below depth)
      ∙ sym (drop-map (point_of records pending) (length below - depth) (reverse below))
      ∙ ap (λ (n : ℕ). drop n (map (point_of records pending) (reverse below))) (sym size)) ∙
      ap (λ t. cut_back depth (points_of records pending t below)) (sym is)

-- the same of points with copied lists
pub copied_cut : (top : Option Copied) (below kept : List Copied) (point : Copied) (goals : List Goal) (depth : ℕ) → top ≡ Some point
    → goals ≡ rest_of (reverse point.goals.items) → kept ≡ take depth below →
    record { goals = goals; cursor = point.cursor; pending = point.pending.items; mark = Enter } ∷ map copied_of (reverse kept)
    ≡ cut_back depth (copied_points top below)
copied_cut top below kept point goals depth is rest keeps =
    let size : length (map copied_of (reverse below)) - depth ≡ length below - depth =
    omega (arith, map-length copied_of (reverse below), length-reverse below) in
    ap (λ (gs : List Goal). let p : Point = record { goals = gs; cursor = point.cursor; pending = point.pending.items; mark = Enter } in
    p ∷ map copied_of (reverse kept)) rest ∙
    ap (λ (ps : List Point). record { goals = rest_of (reverse point.goals.items); cursor = point.cursor; pending = point.pending.items; mark = Enter } ∷ ps)
    (ap (map copied_of) (ap reverse keeps ∙ oldest below depth) ∙ sym (drop-map copied_of (length below - depth) (reverse below))
    ∙ ap (λ (n : ℕ). drop n (map copied_of (reverse below))) (sym size)) ∙
    ap (λ t. cut_back depth (copied_points t below)) (sym is)
