-- Ends of ARB behind which the search fails at once are passed.
use Rattle.std.proofs.Common.{◌≡◌, ℕ, zero, suc, ◌+◌, ◌*◌, ◌-◌, ◌<◌, ◌≤◌, List, [], ◌∷◌, ◌++◌, Some, length, map, drop, slice_get, refl, sym, ◌∙◌, ap, subst, arith}
use Rattle.std.proofs.Math.Nat.{suc-mul}
use Rattle.sno_value.specs.declared.ids.PatId.{PatId}
use Rattle.sno_pattern.specs.Pattern.{Pattern, Leaf, Arb}
use Rattle.sno_pattern.specs.Table.{Node, tree}
use Rattle.sno_pattern.specs.Ends.{ends, count_from}
use Rattle.sno_match.specs.declared.event.Pending.{Pending}
use Rattle.sno_match.specs.declared.goal.Goal.{Goal as Numbered}
use Rattle.sno_match.specs.declared.goal.Goal.TheVariants as N
use Rattle.sno_match.specs.declared.goal.Mark.TheVariants.{Next}
use Rattle.sno_match.specs.Point.{Point}
use Rattle.sno_match.specs.inner.Plan.{point_at}
use Rattle.sno_match.specs.inner.Starts.{GoalsFail}
use Rattle.sno_match.specs.Remaining.{ends_from, goals_of, after_pattern, resume, IsStack, HasNext}
use Rattle.sno_match.specs.Scopes.{HasCuts, RiseFrom, opens, opened_at}
use Rattle.sno_match.specs.Silent.{LeadsOn}
use Rattle.sno_match.specs.Search.{Exhausted, Answer, SearchResult, Gives, Search, further, search}
use Rattle.sno_pattern.proofs.NextEndLaws.{Contains-end_of}
use Rattle.sno_match.proofs.CutMoves.{cuts-later}
use Rattle.sno_match.proofs.EndsRange.{from_end}
use Rattle.sno_match.proofs.ReadingLaws.{emit-none}

drop_count : (i c n : ℕ) → drop i (count_from c n) ≡ count_from (c + i) (n - i)
drop_count zero c n = let same : c ≡ c + 0 = omega arith in let all : n ≡ n - 0 = omega arith in rw (← same, ← all) refl
drop_count (suc i) c zero = let none : 0 - suc i ≡ 0 = omega arith in rw none refl
drop_count (suc i) c (suc n) =
    let next : c + 1 + i ≡ c + suc i = omega arith in
    let less : suc n - suc i ≡ n - i = omega arith in
    rw (← next, less) (drop_count i (c + 1) n)

count_at : (c n i : ℕ) → i < n → slice_get (count_from c n) i ≡ Some (c + i)
count_at c zero i h = absurd (omega (arith, h))
count_at c (suc n) zero h = let same : c ≡ c + 0 = omega arith in ap Some same
count_at c (suc n) (suc i) h = let next : c + 1 + i ≡ c + suc i = omega arith in count_at (c + 1) n i (omega (arith, h)) ∙ ap Some next

-- the ends from one on are all the cursors from there
pub arb_from : (s : List ℕ) (c e : ℕ) → c ≤ e → e ≤ length s → ends_from e (ends Arb s c) ≡ count_from e (length s + 1 - e)
arb_from s c e low high =
    let i = e - c in
    let n = length s + 1 - c in
    let place : c + i ≡ e = omega (arith, low) in
    let left : n - i ≡ length s + 1 - e = omega (arith, low, high) in
    from_end Arb s c i e (omega (arith, low, high)) (count_at c n i (omega (arith, low, high)) ∙ ap Some place) ∙ drop_count i c n ∙ rw (place, left) refl

arb_has : (s : List ℕ) (c e : ℕ) → c ≤ e → e ≤ length s → HasNext (Leaf Arb) s c e
arb_has s c e low high =
    let place : c + (e - c) ≡ e = omega (arith, low) in
    Contains-end_of (Leaf Arb) s c (e - c) e (count_at c (length s + 1 - c) (e - c) (omega (arith, low, high)) ∙ ap Some place)

-- the k next of some searches, each of which is exhausted after so many steps
pub passed : (f : ℕ → Search) (cost k at n : ℕ) → k ≤ n
    → ((e : ℕ) → at ≤ e → e < at + k → (answers : List Answer) (due left : ℕ) → due ≡ left + cost → f e answers due ≡ Gives [] answers left Exhausted)
    → (answers : List Answer) (due left : ℕ) → due ≡ left + k * (cost + 1)
    → further (Gives [] answers due Exhausted) (map f (count_from at n)) ≡ further (Gives [] answers left Exhausted) (map f (count_from (at + k) (n - k)))
passed f cost zero at n room fails answers due left e =
    let free : 0 * (cost + 1) ≡ 0 = omega arith in
    let same : due ≡ left = omega (arith, e, free) in
    let here : at ≡ at + 0 = omega arith in
    let all : n ≡ n - 0 = omega arith in
    rw (same, ← here, ← all) refl
passed f cost (suc k) at zero room fails answers due left e = absurd (omega (arith, room))
passed f cost (suc k) at (suc n) room fails answers due left e =
    let mid = left + k * (cost + 1) in
    let paid : due ≡ suc (mid + cost) = omega (arith, e, suc-mul k (cost + 1)) in
    let next : at + 1 + k ≡ at + suc k = omega arith in
    let less : suc n - suc k ≡ n - k = omega arith in
    let first = emit-none (f at answers (mid + cost)) ∙ fails at (omega arith) (omega arith) answers (mid + cost) mid refl in
    let rest = passed f cost k (at + 1) n (omega (arith, room)) (λ x low high. fails x (omega (arith, low)) (omega (arith, high))) answers mid left refl in
    rw (paid, ← next, less) (ap (λ r. further r (map f (count_from (at + 1) n))) first ∙ rest)

-- what stays at a point of ARB goes on from a later end
module _ (nodes : List Node) (s : List ℕ) (limit steps : ℕ) (id : PatId) (goals : List Numbered) (c : ℕ) (pending : List Pending) (rest : List Point) where
  abbrev point_from : ℕ → Point
  point_from at = point_at (N.Match id) goals c pending (Next at)

  abbrev after_ends : (start : ℕ) → Pattern → ℕ → List Answer → ℕ → SearchResult
  after_ends start p at answers left = after_pattern s start p (goals_of nodes goals) c pending at (Gives [] answers left Exhausted)

  ends_pass : (start at to cost left later : ℕ) (answers : List Answer) → c ≤ at → at ≤ to → to ≤ length s
      → ((e : ℕ) → at ≤ e → e < to → GoalsFail s (goals_of nodes goals) cost e) → left ≡ later + (to - at) * (cost + 1)
      → after_ends start (Leaf Arb) at answers left ≡ after_ends start (Leaf Arb) to answers later
  ends_pass start at to cost left later answers low mid high fails paid =
      let k = to - at in
      let n = length s + 1 - at in
      let f = λ (e : ℕ). search s start (goals_of nodes goals) e pending in
      let place : at + k ≡ to = omega (arith, mid) in
      let less : n - k ≡ length s + 1 - to = omega (arith, mid, high) in
      let first = ap (λ es. further (Gives [] answers left Exhausted) (map f es)) (arb_from s c at low (omega (arith, mid, high))) in
      let last = ap (λ es. further (Gives [] answers later Exhausted) (map f es)) (arb_from s c to (omega (arith, low, mid)) high) in
      let pass = passed f cost k at n (omega (arith, mid, high))
      (λ e from until. (fails e from (omega (arith, until, place))).fails start pending) answers left later paid in
      first ∙ pass ∙ rw (place, less) refl ∙ sym last

  pub ends_passed : (at to cost spent : ℕ) → tree nodes id.0 ≡ Leaf Arb → c ≤ at → at ≤ to → to ≤ length s
      → ((e : ℕ) → at ≤ e → e < to → GoalsFail s (goals_of nodes goals) cost e) → spent ≡ (to - at) * (cost + 1) → steps + spent ≤ limit
      → IsStack nodes s (point_from at ∷ rest) → HasCuts nodes (limit - steps) (point_from at ∷ rest)
      → LeadsOn nodes s limit (point_from at ∷ rest) steps (point_from to ∷ rest) (steps + spent)
  ends_passed at to cost spent is low mid high fails paid room st cuts = record {
    steps_in = room;
    paid = omega arith;
    grows = omega arith;
    falls = omega (arith, room);
    stack = record {
      fit = (
        record {
          known = st.fit.0.known;
          inside = st.fit.0.inside;
          next = subst (λ q. HasNext q s c to) (sym is) (arb_has s c to (omega (arith, low, mid)) high);
        },
        st.fit.1,
      );
      marked = st.marked;
    };
    cuts = cuts-later nodes (limit - (steps + spent)) (limit - steps) (point_from to ∷ rest) (omega arith)
        (record { scoped = cuts.scoped; rising = subst (λ scopes. RiseFrom (limit - steps) (scopes ++ opens nodes rest)) opened_same cuts.rising });
    leads = λ start answers.
        let left = limit - steps in
        let later = limit - (steps + spent) in
        let pass = ends_pass start at to cost left later answers low mid high fails (omega (arith, room, paid)) in
        ap (resume nodes s start rest) (ap (λ q. after_ends start q at answers left) is ∙ pass ∙ ap (λ q. after_ends start q to answers later) (sym is));
  }
    where
      opened_same : opened_at (tree nodes id.0) at (length rest) ≡ opened_at (tree nodes id.0) to (length rest)
      opened_same = ap (λ q. opened_at q at (length rest)) is ∙ ap (λ q. opened_at q to (length rest)) (sym is)
