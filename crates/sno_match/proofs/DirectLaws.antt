-- What is found out of a search that is followed with nothing gone back to.
use Rattle.std.proofs.Common.{◌≡◌, ℕ, zero, suc, ◌+◌, ◌-◌, ◌<◌, ◌≤◌, Bool, true, false, List, [], ◌∷◌, ◌++◌, None, Some, length, map, slice_get, refl, sym, ◌∙◌}
use Rattle.std.proofs.Common.{ap, subst, arith, take}
use Rattle.std.proofs.lemmas.List.{take-take}
use Rattle.std.specs.Option.{is_some}
use Rattle.sno_value.specs.declared.ids.PatId.{PatId}
use Rattle.sno_value.specs.declared.value.Name.{Name}
use Rattle.sno_pattern.specs.Ends.{count_from, ends}
use Rattle.sno_pattern.specs.Pattern.{Alt, Arb, Arbno, Cat, Cond, Fence, Leaf, Pattern}
use Rattle.sno_pattern.specs.Shape.{end_of, IsPrimitive}
use Rattle.sno_pattern.specs.Table.{Node}
use Rattle.sno_match.specs.declared.direct.DirectWay.{DirectWay}
use Rattle.sno_match.specs.declared.direct.Followed.{Followed}
use Rattle.sno_match.specs.declared.direct.Followed.TheVariants.{Alone, First, Open, Vain}
use Rattle.sno_match.specs.declared.event.Pending.{Pending}
use Rattle.sno_match.specs.Direct.{IsFirst, IsInVain, pending_of}
use Rattle.sno_match.specs.Matching.{IsWithin}
use Rattle.sno_match.specs.Search.{Aborted, abort_if_exhausted, all_events, assigns, CloseCond, CloseRepeat, CutOff, emit, Event, Exhausted, first_goal, further, Gives, Goal}
use Rattle.sno_match.specs.Search.{last_event, Limit, Match, or_else, Search, search, SearchResult, tries, Waiting, Way, whole}
use Rattle.sno_match.specs.inner.Direct.{Comes, FailsBehind, IsBehind, Keeps, opened, PassesEnds, StandsBefore, TellsFirst}
use Rattle.sno_match.specs.inner.Starts.{GoalsFail, Passes, searches_behind}
use Rattle.sno_match.proofs.ArbLaws.{passed}
use Rattle.sno_match.proofs.ReadingLaws.{emit-none}
use Rattle.sno_match.proofs.SearchLaws.{search-step}
use Rattle.sno_match.proofs.StartLaws.{behind_some, primitive_vain}
use Rattle.sno_match.proofs.StraightLaws.{only_end}
use Rattle.sno_match.proofs.WithinLaws.{trace_within}

-- what is told first stays first

first_emitted : (first : Event × ℕ) (events : List (Event × ℕ)) (o : SearchResult) → TellsFirst (emit (first ∷ events) o) first
first_emitted first events (Gives more answers left verdict) = refl

first_or : (o : SearchResult) (next : Search) (told : Event × ℕ) → TellsFirst o told → TellsFirst (or_else o next) told
first_or (Gives [] answers left verdict) next told h = absurd h
first_or (Gives (first ∷ events) answers zero Exhausted) next told h = h
first_or (Gives (first ∷ events) answers (suc left) Exhausted) next told h =
    subst (λ e. TellsFirst (emit (first ∷ events) (next answers left)) e) h (first_emitted first events (next answers left))
first_or (Gives (first ∷ events) answers left Aborted) next told h = h
first_or (Gives (first ∷ events) answers left Limit) next told h = h
first_or (Gives (first ∷ events) answers left Waiting) next told h = h
first_or (Gives (first ∷ events) answers left (CutOff m)) next told h = h

first_further : (o : SearchResult) (rest : List Search) (told : Event × ℕ) → TellsFirst o told → TellsFirst (further o rest) told
first_further o [] told h = h
first_further o (next ∷ rest) told h = first_further (or_else o next) rest told (first_or o next told h)

first_aborted : (o : SearchResult) (told : Event × ℕ) → TellsFirst o told → TellsFirst (abort_if_exhausted o) told
first_aborted (Gives [] answers left verdict) told h = absurd h
first_aborted (Gives (first ∷ events) answers left Exhausted) told h = h
first_aborted (Gives (first ∷ events) answers left Aborted) told h = h
first_aborted (Gives (first ∷ events) answers left Limit) told h = h
first_aborted (Gives (first ∷ events) answers left Waiting) told h = h
first_aborted (Gives (first ∷ events) answers left (CutOff m)) told h = h

-- one search comes to another

module _ (s : List ℕ) where
  -- a search that is another one comes to what that comes to
  same_comes : (from mid : List Goal) (due mid_due : ℕ) (old other : DirectWay) (f : Followed) (to : List Goal) (new : DirectWay)
      → ((start : ℕ) → search s start from old.end (pending_of old) [] due ≡ search s start mid other.end (pending_of other) [] mid_due)
      → Comes s mid mid_due other f to new → Comes s from due old f to new
  same_comes from mid due mid_due old other (Alone left) to new same comes = (comes.0, λ start. same start ∙ comes.1 start)
  same_comes from mid due mid_due old other (First left) to new same comes =
      (comes.0, λ start told h. subst (λ o. TellsFirst o told) (sym (same start)) (comes.1 start told h))
  same_comes from mid due mid_due old other (Vain left) to new same comes = λ start. same start ∙ comes start
  same_comes from mid due mid_due old other Open to new same comes = tt

  -- behind one that it goes on to alone, and behind one that it goes on to first
  pub comes_on : (from mid to : List Goal) (due left : ℕ) (old between new : DirectWay) (f : Followed) → Comes s from due old (Alone left) mid between
      → Comes s mid left between f to new → Comes s from due old f to new
  comes_on from mid to due left old between new f one two = same_comes from mid due left old between f to new one.1 two

  pub comes_first : (from mid to : List Goal) (due left : ℕ) (old between new : DirectWay) (f : Followed) → Comes s from due old (First left) mid between
      → Comes s mid left between f to new → Comes s from due old (opened f) to new
  comes_first from mid to due left old between new (Alone rest) one two =
      (two.0, λ start told h. one.1 start told (subst (λ o. TellsFirst o told) (sym (two.1 start)) h))
  comes_first from mid to due left old between new (First rest) one two = (two.0, λ start told h. one.1 start told (two.1 start told h))
  comes_first from mid to due left old between new (Vain rest) one two = tt
  comes_first from mid to due left old between new Open one two = tt

  -- from the end at which another way is, with the same assignments
  same_way : (start : ℕ) (rest : List Goal) (left end : ℕ) (pending : List Pending) (new : DirectWay) → new.end ≡ end → pending_of new ≡ pending
      → search s start rest end pending [] left ≡ search s start rest new.end (pending_of new) [] left
  same_way start rest left end pending new still same =
      ap (λ n. search s start rest n pending [] left) (sym still) ∙ ap (λ ps. search s start rest new.end ps [] left) (sym same)

  stepped : (goal : Goal) (rest : List Goal) (due left : ℕ) (old : DirectWay) → due ≡ suc left → (start : ℕ)
      → search s start (goal ∷ rest) old.end (pending_of old) [] due ≡ first_goal s (search s start) goal rest old.end (pending_of old) [] left
  stepped goal rest due left old price start =
      ap (λ n. search s start (goal ∷ rest) old.end (pending_of old) [] n) price ∙ search-step s start goal rest old.end (pending_of old) [] left

  -- the end of a part
  module _ (from rest : List Goal) (target : Name) (begin due left : ℕ) (before mid new : DirectWay) (still : new.end ≡ mid.end)
      (more : pending_of new ≡ pending_of mid ++ assigns target begin mid.end ∷ []) where
    closed : (start : ℕ) → search s start (CloseCond target begin ∷ rest) mid.end (pending_of mid) [] (suc left)
        ≡ search s start rest new.end (pending_of new) [] left
    closed start =
        search-step s start (CloseCond target begin) rest mid.end (pending_of mid) [] left ∙
        same_way start rest left mid.end (pending_of mid ++ assigns target begin mid.end ∷ []) new still more

    inside : mid.end ≤ length s → new.end ≤ length s
    inside h = subst (λ n. n ≤ length s) (sym still) h

    pub close_alone : Comes s from due before (Alone (suc left)) (CloseCond target begin ∷ rest) mid → Comes s from due before (Alone left) rest new
    close_alone one = (inside one.0, λ start. one.1 start ∙ closed start)

    pub close_first : Comes s from due before (First (suc left)) (CloseCond target begin ∷ rest) mid → Comes s from due before (First left) rest new
    close_first one = (inside one.0, λ start told h. one.1 start told (subst (λ o. TellsFirst o told) (sym (closed start)) h))

  -- a primitive

  first_of_ends : (es : List ℕ) (f : ℕ → Search) (end left : ℕ) (told : Event × ℕ) → slice_get es 0 ≡ Some end → TellsFirst (f end [] left) told
      → TellsFirst (tries (map f es) [] left) told
  first_of_ends [] f end left told none h = absurd (cc none)
  first_of_ends (first ∷ es) f end left told is h =
      let same : first ≡ end = cc is in
      first_further (f first [] left) (map f es) told (subst (λ n. TellsFirst (f n [] left) told) (sym same) h)

  module _ (p : Pattern) (rest : List Goal) (left : ℕ) (old : DirectWay) (leaf : IsPrimitive p) where
    pub leaf_first : (new : DirectWay) → end_of p s old.end 0 ≡ Some new.end → new.end ≤ length s → pending_of new ≡ pending_of old
        → Comes s (Match p ∷ rest) (suc left) old (First left) rest new
    leaf_first new end inside same =
        subst (λ q. Comes s (Match q ∷ rest) (suc left) old (First left) rest new) (sym leaf.1) (
          inside,
          λ start told h.
              let is : slice_get (ends leaf.0 s old.end) 0 ≡ Some new.end = ap (λ q. end_of q s old.end 0) (sym leaf.1) ∙ end in
              subst (λ o. TellsFirst o told) (sym (stepped (Match (Leaf leaf.0)) rest (suc left) left old refl start))
              (first_of_ends (ends leaf.0 s old.end) (λ e. search s start rest e (pending_of old)) new.end left told is
              (subst (λ o. TellsFirst o told) (sym (same_way start rest left new.end (pending_of old) new refl same)) h)),
        )

    pub leaf_alone : (new : DirectWay) → end_of p s old.end 0 ≡ Some new.end → end_of p s old.end 1 ≡ None → new.end ≤ length s
        → pending_of new ≡ pending_of old → Comes s (Match p ∷ rest) (suc left) old (Alone left) rest new
    leaf_alone new end none inside same =
        let one : slice_get (ends leaf.0 s old.end) 0 ≡ Some new.end = ap (λ q. end_of q s old.end 0) (sym leaf.1) ∙ end in
        let two : slice_get (ends leaf.0 s old.end) 1 ≡ None = ap (λ q. end_of q s old.end 1) (sym leaf.1) ∙ none in
        subst (λ q. Comes s (Match q ∷ rest) (suc left) old (Alone left) rest new) (sym leaf.1) (
          inside,
          λ start.
              stepped (Match (Leaf leaf.0)) rest (suc left) left old refl start ∙
              ap (λ es. tries (map (λ e. search s start rest e (pending_of old)) es) [] left) (only_end (ends leaf.0 s old.end) new.end one two) ∙
              same_way start rest left new.end (pending_of old) new refl same,
        )

    pub leaf_vain : (new : DirectWay) → end_of p s old.end 0 ≡ None → Comes s (Match p ∷ rest) (suc left) old (Vain left) rest new
    leaf_vain new none = λ start.
        (primitive_vain p s old.end leaf (ap is_some none)).fails start rest (pending_of old) [] (suc left) left (omega arith)

  -- ARB, behind the ends from which what comes behind it is in vain

  tries_from : (f : ℕ → Search) (at n left : ℕ) → tries (map f (count_from at (suc n))) [] left
      ≡ further (Gives [] [] (suc left) Exhausted) (map f (count_from at (suc n)))
  tries_from f at n left = ap (λ o. further o (map f (count_from (at + 1) n))) (sym (emit-none (f at [] left)))

  pub arb_begins : (rest : List Goal) (left : ℕ) (old : DirectWay) → old.end ≤ length s
      → Comes s (Match (Leaf Arb) ∷ rest) (suc left) old (First left) rest old
  arb_begins rest left old inside =
      let all : length s + 1 - old.end ≡ suc (length s - old.end) = omega (arith, inside) in
      leaf_first (Leaf Arb) rest left old (Arb, refl) old (ap (λ n. slice_get (count_from old.end n) 0) all) inside refl

  module _ (rest : List Goal) (left steps to : ℕ) (old new : DirectWay) (below : to ≤ length s) (paid : steps ≤ left)
      (passes : PassesEnds s rest old.end to steps) (is : new.end ≡ to) (same : pending_of new ≡ pending_of old) where
    ends_of_arb : (start : ℕ) → search s start (Match (Leaf Arb) ∷ rest) old.end (pending_of old) [] (suc left)
        ≡ tries (map (λ e. search s start rest e (pending_of old)) (count_from to (suc (length s - to)))) [] (left - steps)
    ends_of_arb start =
        let f : ℕ → Search = λ e. search s start rest e (pending_of old) in
        let k = to - old.end in
        let all : length s + 1 - old.end ≡ suc (length s - old.end) = omega (arith, below, passes.1) in
        let less : suc (length s - old.end) - k ≡ suc (length s - to) = omega (arith, below, passes.1) in
        let place : old.end + k ≡ to = omega (arith, passes.1) in
        stepped (Match (Leaf Arb)) rest (suc left) left old refl start ∙
        ap (λ n. tries (map f (count_from old.end n)) [] left) all ∙
        tries_from f old.end (length s - old.end) left ∙
        passed f passes.0 k old.end (suc (length s - old.end)) (omega (arith, below, passes.1))
        (λ e low high. (passes.3 e low (omega (arith, high, place))).fails start (pending_of old)) [] (suc left) (suc (left - steps))
        (omega (arith, passes.2, paid)) ∙
        ap (λ n. further (Gives [] [] (suc (left - steps)) Exhausted) (map f (count_from (old.end + k) n))) less ∙
        ap (λ at. further (Gives [] [] (suc (left - steps)) Exhausted) (map f (count_from at (suc (length s - to))))) place ∙
        sym (tries_from f to (length s - to) (left - steps))

    inside_new : new.end ≤ length s
    inside_new = subst (λ n. n ≤ length s) (sym is) below

    pub arb_first : Comes s (Match (Leaf Arb) ∷ rest) (suc left) old (First (left - steps)) rest new
    arb_first = (
      inside_new,
      λ start told h.
          let f : ℕ → Search = λ e. search s start rest e (pending_of old) in
          subst (λ o. TellsFirst o told) (sym (ends_of_arb start))
          (first_further (f to [] (left - steps)) (map f (count_from (to + 1) (length s - to))) told
          (subst (λ o. TellsFirst o told) (sym (same_way start rest (left - steps) to (pending_of old) new is same)) h)),
    )

    pub arb_alone : to ≡ length s → Comes s (Match (Leaf Arb) ∷ rest) (suc left) old (Alone (left - steps)) rest new
    arb_alone last = (
      inside_new,
      λ start.
          let f : ℕ → Search = λ e. search s start rest e (pending_of old) in
          let none : length s - to ≡ 0 = omega (arith, last) in
          ends_of_arb start ∙
          ap (λ n. tries (map f (count_from to (suc n))) [] (left - steps)) none ∙
          same_way start rest (left - steps) to (pending_of old) new is same,
    )

  -- the steps of other patterns

  module _ (p : Pattern) (rest : List Goal) (due left : ℕ) (old : DirectWay) (price : due ≡ suc left) where
    -- the search of this pattern is, one step later, a search for other goals
    is_step : (q : Pattern) (mid : List Goal) → p ≡ q
        → ((start : ℕ) → first_goal s (search s start) (Match q) rest old.end (pending_of old) [] left ≡ search s start mid old.end (pending_of old) [] left)
        → (start : ℕ) → search s start (Match p ∷ rest) old.end (pending_of old) [] due ≡ search s start mid old.end (pending_of old) [] left
    is_step q mid is step start =
        ap (λ w. search s start (Match w ∷ rest) old.end (pending_of old) [] due) is ∙ stepped (Match q) rest due left old price start ∙ step start

    pub cat_step : (q r : Pattern) → p ≡ Cat q r → old.end ≤ length s → Comes s (Match p ∷ rest) due old (Alone left) (Match q ∷ Match r ∷ rest) old
    cat_step q r is inside = (inside, is_step (Cat q r) (Match q ∷ Match r ∷ rest) is (λ start. refl))

    pub cond_step : (q : Pattern) (target : Name) → p ≡ Cond q target → old.end ≤ length s
        → Comes s (Match p ∷ rest) due old (Alone left) (Match q ∷ CloseCond target old.end ∷ rest) old
    cond_step q target is inside = (inside, is_step (Cond q target) (Match q ∷ CloseCond target old.end ∷ rest) is (λ start. refl))

    pub alt_step : (q r : Pattern) → p ≡ Alt q r → old.end ≤ length s → Comes s (Match p ∷ rest) due old (First left) (Match q ∷ rest) old
    alt_step q r is inside = (
      inside,
      λ start told h.
          subst (λ o. TellsFirst o told) (sym (ap (λ w. search s start (Match w ∷ rest) old.end (pending_of old) [] due) is ∙
          stepped (Match (Alt q r)) rest due left old price start))
          (first_further (search s start (Match q ∷ rest) old.end (pending_of old) [] left) (search s start (Match r ∷ rest) old.end (pending_of old) ∷ []) told h),
    )

    -- the other side of a choice, where the one was in vain
    pub alt_other : (q r : Pattern) (to : ℕ) (again : DirectWay) → p ≡ Alt q r → Comes s (Match q ∷ rest) left old (Vain (suc to)) rest old
        → again.end ≡ old.end → pending_of again ≡ pending_of old → old.end ≤ length s
        → Comes s (Match p ∷ rest) due old (Alone to) (Match r ∷ rest) again
    alt_other q r to again is one end pending inside = (
      subst (λ n. n ≤ length s) (sym end) inside,
      λ start.
          ap (λ w. search s start (Match w ∷ rest) old.end (pending_of old) [] due) is ∙
          stepped (Match (Alt q r)) rest due left old price start ∙
          ap (λ o. further o (search s start (Match r ∷ rest) old.end (pending_of old) ∷ [])) (one start) ∙
          emit-none (search s start (Match r ∷ rest) old.end (pending_of old) [] to) ∙
          same_way start (Match r ∷ rest) to old.end (pending_of old) again end pending,
    )

    pub arbno_first : (q : Pattern) → p ≡ Arbno q → old.end ≤ length s → Comes s (Match p ∷ rest) due old (First left) rest old
    arbno_first q is inside = (
      inside,
      λ start told h.
          subst (λ o. TellsFirst o told) (sym (ap (λ w. search s start (Match w ∷ rest) old.end (pending_of old) [] due) is ∙
          stepped (Match (Arbno q)) rest due left old price start))
          (first_further (search s start rest old.end (pending_of old) [] left)
          (search s start (Match q ∷ CloseRepeat q old.end ∷ rest) old.end (pending_of old) ∷ []) told h),
    )

    pub fence_first : p ≡ Fence → old.end ≤ length s → Comes s (Match p ∷ rest) due old (First left) rest old
    fence_first is inside = (
      inside,
      λ start told h.
          subst (λ o. TellsFirst o told) (sym (ap (λ w. search s start (Match w ∷ rest) old.end (pending_of old) [] due) is ∙
          stepped (Match Fence) rest due left old price start))
          (first_aborted (search s start rest old.end (pending_of old) [] left) told h),
    )

-- goals that begin with the pattern that is known to stand there, and the same behind the end of a part

pub behind_fails : (nodes : List Node) (s : List ℕ) (behind : PatId) (rest : List Goal) → StandsBefore nodes behind rest → FailsBehind nodes s behind 0 rest
behind_fails nodes s behind rest before = λ other price at vain.
    subst (λ gs. GoalsFail s gs (price + 0) at) (sym (before other).1) (record {
      fails = λ start pending answers due left paid. vain.fails start (before other).0 pending answers due left (omega (arith, paid));
    })

pub close_fails : (nodes : List Node) (s : List ℕ) (behind : PatId) (rest : List Goal) (target : Name) (from : ℕ) → StandsBefore nodes behind rest
    → FailsBehind nodes s behind 1 (CloseCond target from ∷ rest)
close_fails nodes s behind rest target from before = λ other price at vain. record {
  fails = λ start pending answers due left paid.
      let same : due ≡ suc (left + price) = omega (arith, paid) in
      let waiting = pending ++ assigns target from at ∷ [] in
      ap (λ n. search s start (CloseCond target from ∷ rest) at pending answers n) same ∙
      search-step s start (CloseCond target from) rest at pending answers (left + price) ∙
      ap (λ gs. search s start gs at waiting answers (left + price)) (before other).1 ∙
      vain.fails start (before other).0 waiting answers (left + price) left refl;
}

-- a way that keeps the assignments of one that keeps those of another
pub keeps_on : (old mid new : DirectWay) → Keeps old mid → Keeps mid new → Keeps old new
keeps_on old mid new one two = (
  omega (arith, one.0, two.0),
  sym (take-take old.count mid.count new.pending one.0) ∙ ap (take old.count) two.1 ∙ take-take old.count mid.count mid.pending one.0 ∙ one.1,
)

-- the whole match

first_of : (o : SearchResult) (limit : ℕ) (told : Event × ℕ) → TellsFirst o told
    → (rest : List (Event × ℕ)) × (map (λ (t : Event × ℕ). (t.0, limit - t.1)) (all_events o) ≡ (told.0, limit - told.1) ∷ rest)
first_of (Gives [] answers left verdict) limit told h = absurd h
first_of (Gives (first ∷ events) answers left verdict) limit told h =
    let rest = map (λ (t : Event × ℕ). (t.0, limit - t.1)) (events ++ last_event verdict left) in
    (rest, ap (λ (t : Event × ℕ). (t.0, limit - t.1) ∷ rest) h)

module _ (p : Pattern) (s : List ℕ) where
  alone_first : (from to : List Goal) (due left : ℕ) (old new : DirectWay) → Comes s from due old (Alone left) to new → Comes s from due old (First left) to new
  alone_first from to due left old new alone = (alone.0, λ start told h. subst (λ o. TellsFirst o told) (sym (alone.1 start)) h)

  -- the search from one start is followed to a way
  tells_way : (due left start : ℕ) (old new : DirectWay) → old.end ≡ start → pending_of old ≡ [] → Comes s (Match p ∷ []) due old (First left) [] new
      → TellsFirst (search s start (Match p ∷ []) start [] [] due) (Way start new.end (pending_of new), left)
  tells_way due left start old new begins none leads =
      let told : Event × ℕ = (Way start new.end (pending_of new), left) in
      let from_start = subst (λ n. TellsFirst (search s start (Match p ∷ []) n (pending_of old) [] due) told) begins (leads.1 start told refl) in
      subst (λ ps. TellsFirst (search s start (Match p ∷ []) start ps [] due) told) none from_start

  -- it is followed in vain
  start_vain : (due left start : ℕ) (old new : DirectWay) → old.end ≡ start → pending_of old ≡ [] → Comes s (Match p ∷ []) due old (Vain left) [] new
      → search s start (Match p ∷ []) start [] [] due ≡ Gives [] [] left Exhausted
  start_vain due left start old new begins none vain =
      ap (λ n. search s start (Match p ∷ []) n [] [] due) (sym begins) ∙
      ap (λ ps. search s start (Match p ∷ []) old.end ps [] due) (sym none) ∙
      vain start

  is_first : (anchored : Bool) (limit left start end : ℕ) (pending : List Pending) → TellsFirst (whole p s anchored [] limit) (Way start end pending, left)
      → IsFirst p s anchored limit start end pending
  is_first anchored limit left start end pending h =
      let all = first_of (whole p s anchored [] limit) limit (Way start end pending, left) h in
      (limit - left, all.0, all.1)

  is_in_vain : (anchored : Bool) (limit left : ℕ) → whole p s anchored [] limit ≡ Gives [] [] left Exhausted → IsInVain p s anchored limit
  is_in_vain anchored limit left e = (limit - left, ap (λ o. map (λ (t : Event × ℕ). (t.0, limit - t.1)) (all_events o)) e)

  -- from the first start
  first_of_whole : (anchored : Bool) (limit : ℕ) (told : Event × ℕ) → TellsFirst (search s 0 (Match p ∷ []) 0 [] [] limit) told
      → TellsFirst (whole p s anchored [] limit) told
  first_of_whole true limit told h = h
  first_of_whole false limit told h =
      first_further (search s 0 (Match p ∷ []) 0 [] [] limit) (map (λ b. search s b (Match p ∷ []) b []) (count_from 1 (length s))) told h

  pub found : (anchored : Bool) (limit left : ℕ) (old new : DirectWay) → old.end ≡ 0 → pending_of old ≡ [] → Comes s (Match p ∷ []) limit old (First left) [] new
      → IsFirst p s anchored limit 0 new.end (pending_of new)
  found anchored limit left old new begins none leads =
      is_first anchored limit left 0 new.end (pending_of new)
      (first_of_whole anchored limit (Way 0 new.end (pending_of new), left) (tells_way limit left 0 old new begins none leads))

  pub found_alone : (anchored : Bool) (limit left : ℕ) (old new : DirectWay) → old.end ≡ 0 → pending_of old ≡ [] → Comes s (Match p ∷ []) limit old (Alone left) [] new
      → IsFirst p s anchored limit 0 new.end (pending_of new)
  found_alone anchored limit left old new begins none alone = found anchored limit left old new begins none (alone_first (Match p ∷ []) [] limit left old new alone)

  pub anchored_vain : (limit left : ℕ) (old new : DirectWay) → old.end ≡ 0 → pending_of old ≡ [] → Comes s (Match p ∷ []) limit old (Vain left) [] new → IsInVain p s true limit
  anchored_vain limit left old new begins none vain = is_in_vain true limit left (start_vain limit left 0 old new begins none vain)

  pub first_vain : (limit left : ℕ) (old new : DirectWay) → old.end ≡ 0 → pending_of old ≡ [] → Comes s (Match p ∷ []) limit old (Vain left) [] new → IsBehind p s limit 0 left
  first_vain limit left old new begins none vain =
      let all : length s - 0 ≡ length s = omega arith in
      ap (λ o. further o (map (λ b. search s b (Match p ∷ []) b []) (count_from 1 (length s)))) (start_vain limit left 0 old new begins none vain) ∙
      ap (λ n. further (Gives [] [] left Exhausted) (map (λ b. search s b (Match p ∷ []) b []) (count_from 1 n))) (sym all)

  -- behind a start that was searched in vain
  pub behind_passed : (limit at to left price rest : ℕ) → IsBehind p s limit at left → Passes false p s at to price → left ≡ rest + price
      → IsBehind p s limit to rest
  behind_passed limit at to left price rest before passed paid = before ∙ passed.passes [] left rest paid

  pub all_vain : (limit at left : ℕ) → IsBehind p s limit at left → length s ≤ at → IsInVain p s false limit
  all_vain limit at left before past =
      let none : length s - at ≡ 0 = omega (arith, past) in
      is_in_vain false limit left (before ∙
      ap (λ n. further (Gives [] [] left Exhausted) (map (λ b. search s b (Match p ∷ []) b []) (count_from (at + 1) n))) none)

  next_taken : (limit at due left : ℕ) → IsBehind p s limit at due → at < length s → due ≡ suc left
      → whole p s false [] limit ≡ further (search s (at + 1) (Match p ∷ []) (at + 1) [] [] left) (searches_behind false p s (at + 1))
  next_taken limit at due left before room price =
      before ∙
      ap (λ n. further (Gives [] [] n Exhausted) (searches_behind false p s at)) price ∙
      ap (further (Gives [] [] (suc left) Exhausted)) (behind_some p s at false refl room) ∙
      ap (λ o. further o (searches_behind false p s (at + 1))) (emit-none (search s (at + 1) (Match p ∷ []) (at + 1) [] [] left))

  pub found_behind : (limit at due left rest : ℕ) (old new : DirectWay) → IsBehind p s limit at due → at < length s → due ≡ suc left → old.end ≡ at + 1
      → pending_of old ≡ [] → Comes s (Match p ∷ []) left old (First rest) [] new → IsFirst p s false limit (at + 1) new.end (pending_of new)
  found_behind limit at due left rest old new before room price begins none leads =
      let told : Event × ℕ = (Way (at + 1) new.end (pending_of new), rest) in
      is_first false limit rest (at + 1) new.end (pending_of new)
      (subst (λ o. TellsFirst o told) (sym (next_taken limit at due left before room price))
      (first_further (search s (at + 1) (Match p ∷ []) (at + 1) [] [] left) (searches_behind false p s (at + 1)) told
      (tells_way left rest (at + 1) old new begins none leads)))

  pub alone_behind : (limit at due left rest : ℕ) (old new : DirectWay) → IsBehind p s limit at due → at < length s → due ≡ suc left → old.end ≡ at + 1
      → pending_of old ≡ [] → Comes s (Match p ∷ []) left old (Alone rest) [] new → IsFirst p s false limit (at + 1) new.end (pending_of new)
  alone_behind limit at due left rest old new before room price begins none alone =
      found_behind limit at due left rest old new before room price begins none (alone_first (Match p ∷ []) [] left rest old new alone)

  pub next_vain : (limit at due left rest : ℕ) (old new : DirectWay) → IsBehind p s limit at due → at < length s → due ≡ suc left → old.end ≡ at + 1
      → pending_of old ≡ [] → Comes s (Match p ∷ []) left old (Vain rest) [] new → IsBehind p s limit (at + 1) rest
  next_vain limit at due left rest old new before room price begins none vain =
      next_taken limit at due left before room price ∙
      ap (λ o. further o (searches_behind false p s (at + 1))) (start_vain left rest (at + 1) old new begins none vain)

  pub within_first : (anchored : Bool) (limit start end : ℕ) (pending : List Pending) → IsFirst p s anchored limit start end pending
      → IsWithin (length s) (Way start end pending)
  within_first anchored limit start end pending first =
      trace_within p s anchored limit [] 0 (Way start end pending, first.0) (ap (λ events. slice_get events 0) first.2)
