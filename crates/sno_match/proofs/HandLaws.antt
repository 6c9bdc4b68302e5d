-- What the operations on a newest point in hand make of a stack.
use Rattle.std.proofs.Common.{◌≡◌, ℕ, ◌+◌, ◌-◌, ◌≤◌, Bool, true, false, List, [], ◌∷◌, ◌++◌, Option, Some, None, length, map, reverse, take, refl, sym, ◌∙◌, ap, subst, arith}
use Rattle.std.proofs.lemmas.List.{length-take-le}
use Rattle.sno_pattern.specs.Table.{Node}
use Rattle.sno_match.specs.declared.event.Pending.{Pending}
use Rattle.sno_match.specs.declared.goal.Goal.{Goal}
use Rattle.sno_match.specs.declared.goal.Mark.{Mark}
use Rattle.sno_match.specs.declared.plan.Front.{Front}
use Rattle.sno_match.specs.declared.plan.Front.TheVariants.{Nothing}
use Rattle.sno_match.specs.declared.plan.Plan.{Plan}
use Rattle.sno_match.specs.declared.plan.Plan.TheVariants as P
use Rattle.sno_match.specs.declared.records.GoalRecord.{GoalRecord}
use Rattle.sno_match.specs.declared.shared.Held.{Held}
use Rattle.sno_match.specs.Point.{rest_of}
use Rattle.sno_match.specs.inner.Plan.{IsPlan, KeepsScopes, goals_in}
use Rattle.sno_match.specs.Remaining.{IsStack}
use Rattle.sno_match.specs.inner.Move.{Steps}
use Rattle.sno_match.specs.inner.Shared.{goals_of, Falls, Fits, Holds, Extends, marked, point_of, points_of, held_of}
use Rattle.sno_match.specs.inner.Hand.{IsFirst, IsBehind, Carries, Enters, Leads}
use Rattle.sno_match.proofs.SharedLaws as laws
use Rattle.sno_match.proofs.PartLaws as parts

-- goals put in front of a list, behind the records that are kept
module _ (records : List GoalRecord) (keep behind : ℕ) (falls : Falls (reverse records)) (inside : keep ≤ length records) (near : behind ≤ keep) where
  size : length (take keep records) ≡ keep
  size = length-take-le keep records inside

  pub none_put : Extends (take keep records) behind [] (take keep records) behind
  none_put = laws.extends_none (take keep records) behind (omega (arith, size, near)) (laws.falls_cut records keep falls)

  module _ (goal : Goal) (kept new : List GoalRecord) (cut : kept ≡ take keep records) (put : new ≡ kept ++ record { goal = goal; behind = behind } ∷ []) where
    new_is : new ≡ take keep records ++ record { goal = goal; behind = behind } ∷ []
    new_is = put ∙ ap (λ rs. rs ++ record { goal = goal; behind = behind } ∷ []) cut

    pub one_put : Extends (take keep records) behind (goal ∷ []) new (keep + 1)
    one_put = subst (λ rs. Extends (take keep records) behind (goal ∷ []) rs (keep + 1)) (sym new_is)
        (laws.extends_more (take keep records) (take keep records) behind behind (keep + 1) [] goal none_put (omega (arith, size)))

    pub two_put : (first : Goal) (more : List GoalRecord) → more ≡ new ++ record { goal = first; behind = keep + 1 } ∷ []
        → Extends (take keep records) behind (first ∷ goal ∷ []) more (keep + 2)
    two_put first more e = subst (λ rs. Extends (take keep records) behind (first ∷ goal ∷ []) rs (keep + 2)) (sym e)
        (laws.extends_more (take keep records) new behind (keep + 1) (keep + 2) (goal ∷ []) first one_put (omega (arith, one_put.count, size)))

module _ (records : List GoalRecord) (pending : List Pending) (point : Held) (below : List Held) (holds : Holds records pending (Some point) below) where
  within : Fits (length records) (length pending) (point ∷ reverse below)
  within = laws.fits records pending (Some point) below point refl holds

  -- the numbers of the newest point's list, floor and entries
  pub goals_in_records : point.goals ≤ length records
  goals_in_records = within.0

  pub floor_in_records : point.floor ≤ length records
  floor_in_records = within.1

  pub assigned_in_entries : point.assigned ≤ length pending
  assigned_in_entries = within.2

  pub dropped : (last : Option Held) (rest : List Held) → reverse below ≡ held_of last rest → (kept : List GoalRecord) → kept ≡ take point.floor records
      → Carries true P.Fail records pending point below kept pending last rest
  dropped last rest turned kept keeps = (
    laws.dropped_holds records pending (Some point) below point refl holds last rest turned kept keeps,
    λ c left. (refl, laws.dropped_points records pending (Some point) below point refl holds last rest turned kept keeps),
    omega (arith, ap length keeps, length-take-le point.floor records within.1, within.1),
  )

  module _ (behind : ℕ) (is : IsBehind records point.goals behind) where
    pub gone_on : (cursor : ℕ) →
        Carries true (P.Replace Nothing cursor) records pending point below records pending
        (Some record { goals = behind; cursor = cursor; next = None; floor = point.floor; assigned = point.assigned }) below
    gone_on cursor = (
      laws.first_dropped_holds records pending (Some point) below point refl holds cursor behind is.0 is.1,
      λ c left. (refl, laws.first_dropped_points records pending (Some point) below point refl holds cursor behind is.0 is.1 [] refl),
      omega arith,
    )

    pub closed : (entries : List Pending) (assignment : Pending) → entries ≡ take point.assigned pending ++ assignment ∷ [] →
        Carries true (P.Close assignment) records pending point below records entries
        (Some record { goals = behind; cursor = point.cursor; next = None; floor = point.floor; assigned = point.assigned + 1 }) below
    closed entries assignment puts = (
      laws.closed_holds records pending (Some point) below point refl holds entries assignment behind is.0 is.1 puts (point.assigned + 1) refl,
      λ c left. (
        refl,
        laws.closed_points records pending (Some point) below point refl holds entries assignment behind is.0 is.1 puts (point.assigned + 1) refl,
      ),
      omega arith,
    )

    module _ (front : Front) (few : length (goals_in front) ≤ 2) (cursor keep goals : ℕ) (new : List GoalRecord) (near : behind ≤ keep)
        (floor : point.floor ≤ keep) (inside : keep ≤ length records) (puts : Extends (take keep records) behind (goals_in front) new goals) where
      count : length new ≤ length records + 2
      count = omega (arith, puts.count, length-take-le keep records inside, few, inside)

      pub put : Carries true (P.Replace front cursor) records pending point below new pending
          (Some record { goals = goals; cursor = cursor; next = None; floor = point.floor; assigned = point.assigned }) below
      put = (
        laws.replaced_holds records pending (Some point) below point refl holds new (goals_in front) cursor behind keep goals is.0 near inside puts floor,
        λ c left. (
          refl,
          laws.replaced_points records pending (Some point) below point refl holds new (goals_in front) cursor behind keep goals is.0 near inside puts
              floor,
        ),
        count,
      )

      pub stayed : (next : ℕ) (held : point.goals ≤ keep) (under : List Held) → under ≡ below ++ record {
        goals = point.goals;
        cursor = point.cursor;
        next = Some next;
        floor = point.floor;
        assigned = point.assigned;
      } ∷ [] →
          Carries true (P.Branch front cursor next) records pending point below new pending
          (Some record { goals = goals; cursor = cursor; next = None; floor = keep; assigned = point.assigned }) under
      stayed next held under grows = (
        laws.branched_holds records pending (Some point) below point refl holds new (goals_in front) cursor behind keep goals is.0 near inside puts next
            held floor below under refl grows,
        λ c left. (
          refl,
          laws.branched_points records pending (Some point) below point refl holds new (goals_in front) cursor behind keep goals is.0 near inside puts
              next held floor below under refl grows,
        ),
        count,
      )

module _ (nodes : List Node) (s : List ℕ) (goal : Goal) (c : ℕ) (mark : Mark) (records0 : List GoalRecord) (pending0 : List Pending) (point : Held)
    (below0 : List Held) (records : List GoalRecord) (pending : List Pending) (top : Option Held) (below : List Held) where
  -- a right plan that was carried out is a step
  pub did : (taken : Bool) (plan : Plan) → IsPlan nodes s goal c mark plan → KeepsScopes nodes goal plan
      → Carries taken plan records0 pending0 point below0 records pending top below
      → Enters taken nodes s goal c mark records0 pending0 point below0 records pending top below
  did false plan p q h = h
  did true plan p q h = (h.0, (λ left. record { plan = plan; is_plan = p; scopes = q; carried = h.1 c left }), h.2)

  -- a step leads on
  pub led : (taken : Bool) (rest : List Goal) → goals_of records0 point.goals ≡ goal ∷ rest → mark ≡ marked point.next → c ≡ point.cursor
      → IsStack nodes s (points_of records0 pending0 (Some point) below0)
      → Enters taken nodes s goal c mark records0 pending0 point below0 records pending top below
      → Leads taken nodes s records0 pending0 point below0 records pending top below
  led false rest is m at st h = h
  led true rest is m at st h = (
    h.0,
    λ limit steps due cuts.
        parts.step_leads nodes s (points_of records0 pending0 (Some point) below0) (points_of records pending top below) goal rest point.cursor
        (take point.assigned pending0) mark (map (point_of records0 pending0) (reverse below0))
        (laws.top_is records0 pending0 (Some point) below0 point (goal ∷ rest) mark refl is m) limit steps due st cuts
        (subst (λ (n : ℕ). Steps nodes s goal n mark (limit - (steps + 1)) (points_of records0 pending0 (Some point) below0) None
        (points_of records pending top below)) at (h.1 (limit - (steps + 1)))),
    h.2,
  )

-- the list behind a list's first record
pub behind_first : (records : List GoalRecord) (goals : ℕ) (first : GoalRecord) → IsFirst records goals first → IsBehind records goals first.behind
behind_first records goals first is = (sym (ap rest_of is.0), is.1)

-- what holds of a stack that wasn't changed
pub unchanged : (F : List GoalRecord → List Pending → Option Held → List Held → Type 0) (records0 records : List GoalRecord)
    (pending0 pending : List Pending) (top0 top : Option Held) (below0 below : List Held) → records ≡ records0 → pending ≡ pending0 → below ≡ below0
    → top ≡ top0 → F records0 pending0 top0 below0 → F records pending top below
unchanged F records0 records pending0 pending top0 top below0 below e f h k x =
    subst (λ rs. F rs pending top below) (sym e) (subst (λ ps. F records0 ps top below) (sym f)
    (subst (λ bs. F records0 pending0 top bs) (sym h) (subst (λ t. F records0 pending0 t below0) (sym k) x)))
