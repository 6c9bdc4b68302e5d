-- A search that goes one way alone leads from one list of goals to another.
use Rattle.std.proofs.Common.{◌≡◌, ℕ, suc, ◌+◌, ◌<◌, ◌≤◌, List, [], ◌∷◌, ◌++◌, Option, Some, None, length, map, slice_get, refl}
use Rattle.std.proofs.Common.{sym, ◌∙◌, ap, subst, arith, append-nil}
use Rattle.std.specs.Option.{is_some}
use Rattle.sno_value.specs.declared.ids.PatId.{PatId}
use Rattle.sno_value.specs.declared.value.Name.{Name}
use Rattle.sno_pattern.specs.Pattern.{Pattern, Leaf, Cat, Cond}
use Rattle.sno_pattern.specs.Ends.{ends}
use Rattle.sno_pattern.specs.Shape.{end_of, IsPrimitive}
use Rattle.sno_pattern.specs.Table.{Node, tree}
use Rattle.sno_pattern.proofs.ShapeLaws.{end_of-range}
use Rattle.sno_match.specs.declared.event.Pending.{Pending}
use Rattle.sno_match.specs.Search.{Goal, Match, CloseCond, CloseImm, CloseRepeat, CloseCut, Exhausted, Answer, SearchResult, Gives, tries, assigns, search}
use Rattle.sno_match.specs.inner.Starts.{FailsAt, GivesWay}
use Rattle.sno_match.specs.declared.straight.Met.{Met}
use Rattle.sno_match.specs.declared.straight.Met.TheVariants.{GoesOn, Fails, Open}
use Rattle.sno_match.specs.declared.straight.Straight.{Straight}
use Rattle.sno_match.specs.inner.Straight.{waits, IsGoal, AreGoals, LeadsTo, Puts, Ends, Meets}
use Rattle.sno_match.proofs.SearchLaws.{search-step}
use Rattle.sno_match.proofs.StartLaws.{primitive_vain}

module _ (nodes : List Node) where
  -- the last of the numbers is that of the first goal
  last_first : (ids : List PatId) (id : PatId) (goals rest : List Goal) → AreGoals nodes (ids ++ id ∷ []) goals rest
      → (goal : Goal) × (others : List Goal) × IsGoal nodes id goal × AreGoals nodes ids others rest × (goals ≡ goal ∷ others)
  last_first [] id goals rest h = (h.0, rest, h.1, refl, h.2)
  last_first (i ∷ ids) id goals rest h =
      let inner = last_first ids id goals (h.0 ∷ rest) h.2 in
      (inner.0, inner.1, inner.2, (h.0, h.1, inner.3), inner.4)

  joined : (ids more : List PatId) (goals others rest : List Goal) → AreGoals nodes ids others rest → AreGoals nodes more goals others
      → AreGoals nodes (ids ++ more) goals rest
  joined [] more goals others rest h new = subst (λ gs. AreGoals nodes more goals gs) h new
  joined (i ∷ ids) more goals others rest h new = (h.0, h.1, joined ids more goals others (h.0 ∷ rest) h.2 new)

  pattern_goal : (id : PatId) (goal : Goal) → IsGoal nodes id goal → id.0 < 4294967295 → goal ≡ Match (tree nodes id.0)
  pattern_goal id (Match p) h few = ap (λ q. Match q) h.2
  pattern_goal id (CloseCond target from) h few = absurd (omega (arith, h, few))
  pattern_goal id (CloseImm target from) h few = absurd h
  pattern_goal id (CloseRepeat body from) h few = absurd h
  pattern_goal id (CloseCut mark) h few = absurd h

  known_goal : (id : PatId) (goal : Goal) → IsGoal nodes id goal → (id.0 ≡ 4294967295 → ⊥) → id.0 < length nodes
  known_goal id (Match p) h other = h.0
  known_goal id (CloseCond target from) h other = absurd (other h)
  known_goal id (CloseImm target from) h other = absurd h
  known_goal id (CloseRepeat body from) h other = absurd h
  known_goal id (CloseCut mark) h other = absurd h

pub only_end : (es : List ℕ) (end : ℕ) → slice_get es 0 ≡ Some end → slice_get es 1 ≡ None → es ≡ end ∷ []
only_end [] end h none = absurd (cc)
only_end (x ∷ []) end h none = let same : x ≡ end = cc in ap (λ n. n ∷ []) same
only_end (x ∷ y ∷ es) end h none = absurd (cc)

-- from a cursor these goals' search leads to other goals with these numbers and another cursor
abbrev pub Goes : List Node → List ℕ → List Goal → List Goal → ℕ → ℕ → List PatId → ℕ → Type 0
Goes nodes s goals rest from cost ids at =
    (start : ℕ) (pending : List Pending) (answers : List Answer) (due left : ℕ) → due ≡ left + cost
    → (new : List Goal) × (waiting : List Pending) × AreGoals nodes ids new rest
    × (search s start goals from pending answers due ≡ search s start new at waiting answers left)

-- so does the step of the goal with this number
abbrev pub Steps : List Node → List ℕ → PatId → ℕ → ℕ → List PatId → ℕ → Type 0
Steps nodes s id from cost ids at =
    (goal : Goal) → IsGoal nodes id goal → (rest : List Goal) → Goes nodes s (goal ∷ rest) rest from cost ids at

module _ (nodes : List Node) (s : List ℕ) where
  begins : (p : Pattern) (id : PatId) (c : ℕ) → p ≡ tree nodes id.0 → id.0 < length nodes → id.0 < 4294967295 → LeadsTo nodes p s c 0 (id ∷ []) c
  begins p id c is known few = record {
    leads = λ start rest pending answers due left e.
        let same : due ≡ left = omega (arith, e) in
        (Match p ∷ rest, pending, (Match p, (known, few, is), refl), ap (λ n. search s start (Match p ∷ rest) c pending answers n) same);
  }

  -- a search that has come to these goals goes on with the first of them
  carried : (whole : SearchResult) (start at to cost left : ℕ) (goals : List Goal) (first : Goal) (others rest : List Goal) (waiting : List Pending)
      (answers : List Answer) (ids more : List PatId) → whole ≡ search s start goals at waiting answers (left + cost) → goals ≡ first ∷ others
      → AreGoals nodes ids others rest → Goes nodes s (first ∷ others) others at cost more to
      → (new : List Goal) × (after : List Pending) × AreGoals nodes (ids ++ more) new rest × (whole ≡ search s start new to after answers left)
  carried whole start at to cost left goals first others rest waiting answers ids more is same are goes =
      let next = goes start waiting answers (left + cost) left refl in
      let here = ap (λ gs. search s start gs at waiting answers (left + cost)) same in
      (next.0, next.1, joined nodes ids more next.0 others rest are next.2, is ∙ here ∙ next.3)

  failed : (whole : SearchResult) (start at cost left : ℕ) (goals : List Goal) (first : Goal) (others : List Goal) (waiting : List Pending)
      (answers : List Answer) (id : PatId) → whole ≡ search s start goals at waiting answers (left + cost) → goals ≡ first ∷ others
      → first ≡ Match (tree nodes id.0) → FailsAt (tree nodes id.0) s cost at → whole ≡ Gives [] answers left Exhausted
  failed whole start at cost left goals first others waiting answers id is same match vain =
      let here = same ∙ ap (λ g. g ∷ others) match in
      is ∙ ap (λ gs. search s start gs at waiting answers (left + cost)) here ∙ vain.fails start others waiting answers (left + cost) left refl

  goes_on : (p : Pattern) (c price : ℕ) (ids : List PatId) (id : PatId) (at cost : ℕ) (more : List PatId) (to : ℕ)
      → Steps nodes s id at cost more to → LeadsTo nodes p s c price (ids ++ id ∷ []) at → LeadsTo nodes p s c (price + cost) (ids ++ more) to
  goes_on p c price ids id at cost more to step h = record {
    leads = λ start rest pending answers due left e.
        let before = h.leads start rest pending answers due (left + cost) (omega (arith, e)) in
        let first = last_first nodes ids id before.0 rest before.2 in
        carried _ start at to cost left before.0 first.0 first.1 rest before.1 answers ids more before.3 first.4 first.3 (step first.0 first.2 first.1);
  }

  ends_here : (p : Pattern) (c price : ℕ) (ids : List PatId) (id : PatId) (at cost : ℕ) → id.0 < 4294967295 → FailsAt (tree nodes id.0) s cost at
      → LeadsTo nodes p s c price (ids ++ id ∷ []) at → FailsAt p s (price + cost) c
  ends_here p c price ids id at cost few vain h = record {
    fails = λ start rest pending answers due left e.
        let before = h.leads start rest pending answers due (left + cost) (omega (arith, e)) in
        let first = last_first nodes ids id before.0 rest before.2 in
        failed _ start at cost left before.0 first.0 first.1 before.1 answers id before.3 first.4 (pattern_goal nodes id first.0 first.2 few) vain;
  }

  -- the next goal is a pattern of the table, unless it is the end of a part
  pub next_known : (p : Pattern) (c price : ℕ) (ids : List PatId) (id : PatId) (at : ℕ) → LeadsTo nodes p s c price (ids ++ id ∷ []) at
      → (id.0 ≡ 4294967295 → ⊥) → id.0 < length nodes
  next_known p c price ids id at h other =
      let before = h.leads 0 [] [] [] (0 + price) 0 refl in
      let first = last_first nodes ids id before.0 [] before.2 in
      known_goal nodes id first.0 first.2 other

  -- a step of the pattern with a number, which is this one
  pattern_step : (id : PatId) (here : Pattern) (at cost : ℕ) (ids : List PatId) (to : ℕ) → id.0 < 4294967295 → tree nodes id.0 ≡ here
      → ((rest : List Goal) → Goes nodes s (Match here ∷ rest) rest at cost ids to) → Steps nodes s id at cost ids to
  pattern_step id here at cost ids to few is step goal g rest start pending answers due left e =
      let it = step rest start pending answers due left e in
      let same = pattern_goal nodes id goal g few ∙ ap (λ q. Match q) is in
      (it.0, it.1, it.2, ap (λ g. search s start (g ∷ rest) at pending answers due) same ∙ it.3)

  counted : (goals : List Goal) (start at : ℕ) (pending : List Pending) (answers : List Answer) (due left : ℕ) → due ≡ left + 1
      → search s start goals at pending answers due ≡ search s start goals at pending answers (suc left)
  counted goals start at pending answers due left e =
      let same : due ≡ suc left = omega (arith, e) in ap (λ n. search s start goals at pending answers n) same

  leaf_step : (id : PatId) (at end : ℕ) → id.0 < 4294967295 → IsPrimitive (tree nodes id.0) → end_of (tree nodes id.0) s at 0 ≡ Some end
      → end_of (tree nodes id.0) s at 1 ≡ None → Steps nodes s id at 1 [] end
  leaf_step id at end few leaf first none =
      let p = Leaf leaf.0 in
      let one = subst (λ q. end_of q s at 0 ≡ Some end) leaf.1 first in
      let two = subst (λ q. end_of q s at 1 ≡ None) leaf.1 none in
      let only = only_end (ends leaf.0 s at) end one two in
      pattern_step id p at 1 [] end few leaf.1 (λ rest start pending answers due left e.
      let here = counted (Match p ∷ rest) start at pending answers due left e in
      let step = search-step s start (Match p) rest at pending answers left in
      let there = ap (λ es. tries (map (λ e. search s start rest e pending) es) answers left) only in
      (rest, pending, refl, here ∙ step ∙ there))

  pub cat_step : (id first second : PatId) (at : ℕ) → id.0 < 4294967295 → id.0 < length nodes → first.0 < id.0 → second.0 < id.0
      → tree nodes id.0 ≡ Cat (tree nodes first.0) (tree nodes second.0) → Steps nodes s id at 1 (second ∷ first ∷ []) at
  cat_step id first second at few known below other is =
      let p = tree nodes first.0 in
      let q = tree nodes second.0 in
      let one : IsGoal nodes first (Match p) = (omega (arith, known, below), omega (arith, few, below), refl) in
      let two : IsGoal nodes second (Match q) = (omega (arith, known, other), omega (arith, few, other), refl) in
      pattern_step id (Cat p q) at 1 (second ∷ first ∷ []) at few is (λ rest start pending answers due left e.
      let here = counted (Match (Cat p q) ∷ rest) start at pending answers due left e in
      let step = search-step s start (Match (Cat p q)) rest at pending answers left in
      (Match p ∷ Match q ∷ rest, pending, (Match q, two, (Match p, one, refl)), here ∙ step))

  pub cond_step : (id part close : PatId) (target : Name) (at : ℕ) → id.0 < 4294967295 → id.0 < length nodes → part.0 < id.0 → close.0 ≡ 4294967295
      → tree nodes id.0 ≡ Cond (tree nodes part.0) target → Steps nodes s id at 1 (close ∷ part ∷ []) at
  cond_step id part close target at few known below closes is =
      let p = tree nodes part.0 in
      let one : IsGoal nodes part (Match p) = (omega (arith, known, below), omega (arith, few, below), refl) in
      pattern_step id (Cond p target) at 1 (close ∷ part ∷ []) at few is (λ rest start pending answers due left e.
      let here = counted (Match (Cond p target) ∷ rest) start at pending answers due left e in
      let step = search-step s start (Match (Cond p target)) rest at pending answers left in
      (Match p ∷ CloseCond target at ∷ rest, pending, (CloseCond target at, closes, (Match p, one, refl)), here ∙ step))

  pub way_step : (id other : PatId) (at cost : ℕ) → id.0 < 4294967295 → other.0 < length nodes → other.0 < 4294967295
      → GivesWay (tree nodes id.0) (tree nodes other.0) s cost at → Steps nodes s id at cost (other ∷ []) at
  way_step id other at cost few known small way =
      let q = tree nodes other.0 in
      let one : IsGoal nodes other (Match q) = (known, small, refl) in
      pattern_step id (tree nodes id.0) at cost (other ∷ []) at few refl (λ rest start pending answers due left e.
      (Match q ∷ rest, pending, (Match q, one, refl), way.gives_way start rest pending answers due left e))

  close_step : (id : PatId) (at : ℕ) → id.0 ≡ 4294967295 → Steps nodes s id at 1 [] at
  close_step id at closes (CloseCond target from) is rest start pending answers due left e =
      let here = counted (CloseCond target from ∷ rest) start at pending answers due left e in
      let step = search-step s start (CloseCond target from) rest at pending answers left in
      (rest, pending ++ assigns target from at ∷ [], refl, here ∙ step)
  close_step id at closes (Match p) is rest start pending answers due left e = absurd (omega (arith, is.1, closes))
  close_step id at closes (CloseImm target from) is rest start pending answers due left e = absurd is
  close_step id at closes (CloseRepeat body from) is rest start pending answers due left e = absurd is
  close_step id at closes (CloseCut mark) is rest start pending answers due left e = absurd is

  -- what the step of the goal with a number comes to
  pub put_meets : (id : PatId) (left cost : ℕ) (ids : List PatId) (old : Straight) (met : Met) (new : Straight) → Puts cost ids old met new
      → cost < left → old.cursor ≤ length s → (((other : PatId) → ids ≡ other ∷ [] → other.0 < 4294967295) → Steps nodes s id old.cursor cost ids old.cursor)
      → Meets nodes s id left old met new
  put_meets id left cost ids old GoesOn new puts room inside step =
      let cursor = puts.1 in (
        subst (λ at. at ≤ length s) (sym cursor) inside,
        omega (arith, puts.2, puts.3),
        omega (arith, puts.2, room),
        λ p from h.
            rw (puts.0, cursor, puts.2) (goes_on p from old.steps (waits old) id old.cursor cost ids old.cursor (step puts.4) h),
      )
  put_meets id left cost ids old Fails new puts room inside step = absurd puts
  put_meets id left cost ids old Open new puts room inside step = tt

  pub end_meets : (id : PatId) (left : ℕ) (first next : Option ℕ) (old : Straight) (met : Met) (new : Straight) → Ends first next old met new
      → IsPrimitive (tree nodes id.0) → end_of (tree nodes id.0) s old.cursor 0 ≡ first → end_of (tree nodes id.0) s old.cursor 1 ≡ next
      → id.0 < 4294967295 → 1 < left → old.cursor ≤ length s → Meets nodes s id left old met new
  end_meets id left first next old GoesOn new ends leaf one two few room inside =
      let end : end_of (tree nodes id.0) s old.cursor 0 ≡ Some new.cursor = one ∙ ends.0 in
      let within = end_of-range (tree nodes id.0) s old.cursor 0 (Some new.cursor) inside (sym end) in (
        omega (arith, within.1),
        omega (arith, ends.3),
        omega (arith, ends.3, room),
        λ p from h.
            rw (ends.2, ends.3) (subst (λ ids. LeadsTo nodes p s from (old.steps + 1) ids new.cursor) (append-nil (waits old))
            (goes_on p from old.steps (waits old) id old.cursor 1 [] new.cursor (leaf_step id old.cursor new.cursor few leaf end (two ∙ ends.1)) h)),
      )
  end_meets id left first next old Fails new ends leaf one two few room inside = (
    omega (arith, ends.1, room),
    λ p from h.
        rw ends.1 (ends_here p from old.steps (waits old) id old.cursor 1 few
        (primitive_vain (tree nodes id.0) s old.cursor leaf (ap is_some (one ∙ ends.0))) h),
  )
  end_meets id left first next old Open new ends leaf one two few room inside = tt

  -- a search that begins, and the end of a part
  pub begun : (pattern : PatId) (at : ℕ) (m : Straight) → pattern.0 < length nodes → pattern.0 < 4294967295 → waits m ≡ pattern ∷ [] → m.cursor ≡ at
      → m.steps ≡ 0 → LeadsTo nodes (tree nodes pattern.0) s at m.steps (waits m) m.cursor
  begun pattern at m known few waiting cursor steps = rw (waiting, cursor, steps) (begins (tree nodes pattern.0) pattern at refl known few)

  pub closed : (p : Pattern) (c : ℕ) (id : PatId) (old new : Straight) → LeadsTo nodes p s c old.steps (waits old) old.cursor
      → waits old ≡ waits new ++ id ∷ [] → new.cursor ≡ old.cursor → new.steps ≡ old.steps → id.0 ≡ 4294967295
      → LeadsTo nodes p s c (new.steps + 1) (waits new) new.cursor
  closed p c id old new h waiting cursor steps closes =
      let here : LeadsTo nodes p s c old.steps (waits new ++ id ∷ []) old.cursor = subst (λ ids. LeadsTo nodes p s c old.steps ids old.cursor) waiting h in
      rw (cursor, steps) (subst (λ ids. LeadsTo nodes p s c (old.steps + 1) ids old.cursor) (append-nil (waits new))
      (goes_on p c old.steps (waits new) id old.cursor 1 [] old.cursor (close_step id old.cursor closes) here))
