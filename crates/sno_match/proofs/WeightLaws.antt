-- A search tells at most two events a step, and one more.
use Rattle.std.proofs.Common.{◌≡◌, ℕ, zero, suc, ◌+◌, ◌*◌, ◌≤◌, ◌==◌, Bool, true, false, List, [], ◌∷◌, ◌++◌, Some, None, length, map, replicate, refl, ap}
use Rattle.std.proofs.Common.{arith, length-append}
use Rattle.sno_pattern.specs.Pattern.{Pattern, Leaf, Fence, Cut, Abort, Succeed, Arbno, Alt, Cat, Cond, Imm, Place, Defer}
use Rattle.sno_pattern.specs.Ends.{ends}
use Rattle.sno_match.specs.declared.event.Pending.{Pending}
use Rattle.sno_match.specs.Search.{Goal, Match, CloseCond, CloseImm, CloseRepeat, Exhausted, Aborted, Limit, Waiting, Event, Assign, Cursor, Value, Answer}
use Rattle.sno_match.specs.Search.{SearchResult, Gives, Search, Finder, emit, or_else, further, tries, abort_if_exhausted, with_answer, if_moved, first_goal}
use Rattle.sno_match.specs.Search.{search_within, search, whole, starts, CloseCut, CutOff, cut_off_if_exhausted, exhausted_if_cut_off}

-- the events told, and two for each step left
abbrev pub weight : SearchResult → ℕ
weight (Gives events answers left verdict) = length events + 2 * left

abbrev pub IsLight : Search → Type 0
IsLight f = (answers : List Answer) (left : ℕ) → weight (f answers left) ≤ 2 * left + 1

abbrev pub AllLight : List Search → Type 0
AllLight [] = Unit {0}
AllLight (f ∷ fs) = IsLight f × AllLight fs

pub weight-emit : (es : List (Event × ℕ)) (r : SearchResult) → weight (emit es r) ≡ length es + weight r
weight-emit es (Gives fs answers left verdict) = omega (arith, length-append es fs)

or_else-weight : (r : SearchResult) (f : Search) → IsLight f → weight (or_else r f) ≤ weight r
or_else-weight (Gives es answers zero Exhausted) f h = omega arith
or_else-weight (Gives es answers (suc left) Exhausted) f h = omega (arith, weight-emit es (f answers left), h answers left)
or_else-weight (Gives es answers left Aborted) f h = omega arith
or_else-weight (Gives es answers left Limit) f h = omega arith
or_else-weight (Gives es answers left Waiting) f h = omega arith
or_else-weight (Gives es answers left (CutOff m)) f h = omega arith

further-weight : (r : SearchResult) (fs : List Search) → AllLight fs → weight (further r fs) ≤ weight r
further-weight r [] h = omega arith
further-weight r (f ∷ fs) h = omega (arith, further-weight (or_else r f) fs h.1, or_else-weight r f h.0)

tries-light : (fs : List Search) → AllLight fs → IsLight (tries fs)
tries-light [] h answers left = omega arith
tries-light (f ∷ fs) h answers left = omega (arith, further-weight (f answers left) fs h.1, h.0 answers left)

light-map : (f : ℕ → Search) (xs : List ℕ) → ((x : ℕ) → IsLight (f x)) → AllLight (map f xs)
light-map f [] h = tt
light-map f (x ∷ xs) h = (h x, light-map f xs h)

light-replicate : (f : Search) (n : ℕ) → IsLight f → AllLight (replicate n f)
light-replicate f zero h = tt
light-replicate f (suc n) h = (h, light-replicate f n h)

weight-abort : (r : SearchResult) → weight (abort_if_exhausted r) ≡ weight r
weight-abort (Gives es answers left Exhausted) = refl
weight-abort (Gives es answers left Aborted) = refl
weight-abort (Gives es answers left Limit) = refl
weight-abort (Gives es answers left Waiting) = refl
weight-abort (Gives es answers left (CutOff m)) = refl

weight-cut : (m : ℕ) (r : SearchResult) → weight (cut_off_if_exhausted m r) ≡ weight r
weight-cut m (Gives es answers left Exhausted) = refl
weight-cut m (Gives es answers left Aborted) = refl
weight-cut m (Gives es answers left Limit) = refl
weight-cut m (Gives es answers left Waiting) = refl
weight-cut m (Gives es answers left (CutOff k)) = refl

weight-ended : (m : ℕ) (r : SearchResult) → weight (exhausted_if_cut_off m r) ≡ weight r
weight-ended m (Gives es answers left Exhausted) = refl
weight-ended m (Gives es answers left Aborted) = refl
weight-ended m (Gives es answers left Limit) = refl
weight-ended m (Gives es answers left Waiting) = refl
weight-ended m (Gives es answers left (CutOff k)) = refl

module _ (s : List ℕ) (find : Finder) (h : (goals : List Goal) (c : ℕ) (pending : List Pending) → IsLight (find goals c pending)) where
  answer-light : (rest : List Goal) (c : ℕ) (pending : List Pending) → IsLight (with_answer find rest c pending)
  answer-light rest c pending [] left = omega arith
  answer-light rest c pending (None ∷ answers) left = omega arith
  answer-light rest c pending (Some p ∷ answers) left = h (Match p ∷ rest) c pending answers left

  moved-light : (b : Bool) (f : Search) → IsLight f → IsLight (if_moved b f)
  moved-light true f k answers left = omega arith
  moved-light false f k answers left = k answers left

  goal-weight : (goal : Goal) (rest : List Goal) (c : ℕ) (pending : List Pending) (answers : List Answer) (left : ℕ)
      → weight (first_goal s find goal rest c pending answers left) ≤ 2 * left + 2
  goal-weight (Match (Leaf a)) rest c pending answers left =
      omega (
        arith,
        tries-light (map (λ e. find rest e pending) (ends a s c))
            (light-map (λ e. find rest e pending) (ends a s c) (λ e. h rest e pending)) answers left,
      )
  goal-weight (Match (Cat p q)) rest c pending answers left = omega (arith, h (Match p ∷ Match q ∷ rest) c pending answers left)
  goal-weight (Match (Alt p q)) rest c pending answers left =
      omega (
        arith,
        tries-light (find (Match p ∷ rest) c pending ∷ find (Match q ∷ rest) c pending ∷ [])
            (h (Match p ∷ rest) c pending, (h (Match q ∷ rest) c pending, tt)) answers left,
      )
  goal-weight (Match (Arbno p)) rest c pending answers left =
      omega (
        arith,
        tries-light (find rest c pending ∷ find (Match p ∷ CloseRepeat p c ∷ rest) c pending ∷ [])
            (h rest c pending, (h (Match p ∷ CloseRepeat p c ∷ rest) c pending, tt)) answers left,
      )
  goal-weight (CloseRepeat p from) rest c pending answers left =
      omega (arith, moved-light (c == from) (find (Match (Arbno p) ∷ rest) c pending) (h (Match (Arbno p) ∷ rest) c pending) answers left)
  goal-weight (Match (Cond p target)) rest c pending answers left = omega (arith, h (Match p ∷ CloseCond target c ∷ rest) c pending answers left)
  goal-weight (Match (Imm p target)) rest c pending answers left = omega (arith, h (Match p ∷ CloseImm target c ∷ rest) c pending answers left)
  goal-weight (CloseCond target from) rest c pending answers left = let l =
      h rest c (pending ++ record { target = target; start = from; end = c } ∷ []) answers left in omega (arith, l)
  goal-weight (CloseImm target from) rest c pending answers left =
      omega (arith, weight-emit ((Assign target from c, left) ∷ []) (find rest c pending answers left), h rest c pending answers left)
  goal-weight (Match (Place target)) rest c pending answers left =
      omega (arith, weight-emit ((Cursor target c, left) ∷ []) (find rest c pending answers left), h rest c pending answers left)
  goal-weight (Match Fence) rest c pending answers left = omega (arith, weight-abort (find rest c pending answers left), h rest c pending answers left)
  goal-weight (Match (Cut p)) rest c pending answers left =
      omega (arith, weight-ended left (find (Match p ∷ CloseCut left ∷ rest) c pending answers left), h (Match p ∷ CloseCut left ∷ rest) c pending answers left)
  goal-weight (CloseCut m) rest c pending answers left = omega (arith, weight-cut m (find rest c pending answers left), h rest c pending answers left)
  goal-weight (Match Abort) rest c pending answers left = omega arith
  goal-weight (Match Succeed) rest c pending answers left =
      omega (
        arith,
        tries-light (find rest c pending ∷ replicate (suc left) (find rest c pending))
            (h rest c pending, light-replicate (find rest c pending) (suc left) (h rest c pending)) answers left,
      )
  goal-weight (Match (Defer primitive expression)) rest c pending answers left =
      omega (
        arith,
        weight-emit ((Value primitive expression, left) ∷ []) (with_answer find rest c pending answers left),
        answer-light rest c pending answers left,
      )

within-light : (s : List ℕ) (start depth : ℕ) (goals : List Goal) (c : ℕ) (pending : List Pending) → IsLight (search_within s start depth goals c pending)
within-light s start depth [] c pending answers left = omega arith
within-light s start depth (goal ∷ rest) c pending answers zero = omega arith
within-light s start zero (goal ∷ rest) c pending answers (suc left) = omega arith
within-light s start (suc depth) (goal ∷ rest) c pending answers (suc left) =
    omega (arith, goal-weight s (search_within s start depth) (within-light s start depth) goal rest c pending answers left)

pub whole-light : (p : Pattern) (s : List ℕ) (anchored : Bool) → IsLight (whole p s anchored)
whole-light p s anchored =
    tries-light (map (λ b. search s b (Match p ∷ []) b []) (starts anchored s))
    (light-map (λ b. search s b (Match p ∷ []) b []) (starts anchored s) (λ b answers left. within-light s b left (Match p ∷ []) b [] answers left))

-- what was told is not much
pub few_told : (p : Pattern) (s : List ℕ) (anchored : Bool) (limit : ℕ) (answers : List Answer) (es : List (Event × ℕ)) (r : SearchResult)
    → whole p s anchored answers limit ≡ emit es r → length es ≤ 2 * limit + 1
few_told p s anchored limit answers es r e = omega (arith, whole-light p s anchored answers limit, ap weight e, weight-emit es r)
