-- Every event of a search is told with no more steps left than it began with.
use Rattle.std.proofs.Common.{ℕ, zero, suc, ◌≤◌, ◌==◌, Bool, true, false, List, [], ◌∷◌, ◌++◌, Some, None, map, replicate, arith}
use Rattle.sno_pattern.specs.Pattern.{Pattern, Leaf, Fence, Cut, Abort, Succeed, Arbno, Alt, Cat, Cond, Imm, Place, Defer}
use Rattle.sno_pattern.specs.Ends.{ends}
use Rattle.sno_match.specs.declared.event.Pending.{Pending}
use Rattle.sno_pattern.specs.Table.{Node, tree}
use Rattle.sno_match.specs.declared.engine.State.TheVariants as S
use Rattle.sno_match.specs.declared.goal.Mark.{Mark}
use Rattle.sno_match.specs.declared.goal.Mark.TheVariants.{Enter, Next}
use Rattle.sno_match.specs.Point.{Point}
use Rattle.sno_match.specs.Remaining.{left_of, goals_of, ends_from, after_pattern, after_goals, behind_mark, behind, resume, from_mark, remaining}
use Rattle.sno_match.specs.Matching.{Matching}
use Rattle.sno_match.specs.inner.Running.{later, later_starts, to_come}
use Rattle.sno_match.specs.Search.{Goal, Match, CloseCond, CloseImm, CloseRepeat, Exhausted, Aborted, Limit, Waiting, Event, Assign, Cursor, Value, Answer}
use Rattle.sno_match.specs.Search.{SearchResult, Gives, Search, Finder, emit, or_else, further, tries, abort_if_exhausted, with_answer, if_moved, first_goal}
use Rattle.sno_match.specs.Search.{search_within, search, all_events, Ended, CloseCut, CutOff, cut_off_if_exhausted, exhausted_if_cut_off}

abbrev pub AllLeft : ℕ → List (Event × ℕ) → Type 0
AllLeft n [] = Unit {0}
AllLeft n (told ∷ es) = (told.1 ≤ n) × AllLeft n es

-- the events, and the steps left at the end
abbrev pub IsWithin : ℕ → SearchResult → Type 0
IsWithin n (Gives events answers left verdict) = AllLeft n events × (left ≤ n)

abbrev pub KeepsWithin : Search → Type 0
KeepsWithin f = (answers : List Answer) (left : ℕ) → IsWithin left (f answers left)

left-more : (n m : ℕ) (es : List (Event × ℕ)) → n ≤ m → AllLeft n es → AllLeft m es
left-more n m [] h a = tt
left-more n m (e ∷ es) h a = (omega (arith, a.0), left-more n m es h a.1)

left-append : (n : ℕ) (es fs : List (Event × ℕ)) → AllLeft n es → AllLeft n fs → AllLeft n (es ++ fs)
left-append n [] fs a b = b
left-append n (e ∷ es) fs a b = (a.0, left-append n es fs a.1 b)

within-more : (n m : ℕ) (r : SearchResult) → n ≤ m → IsWithin n r → IsWithin m r
within-more n m (Gives es answers left verdict) h w = (left-more n m es h w.0, omega (arith, w.1))

emit-within : (n : ℕ) (es : List (Event × ℕ)) (r : SearchResult) → AllLeft n es → IsWithin n r → IsWithin n (emit es r)
emit-within n es (Gives fs answers left verdict) a w = (left-append n es fs a w.0, w.1)

or_else-within : (n : ℕ) (r : SearchResult) (f : Search) → KeepsWithin f → IsWithin n r → IsWithin n (or_else r f)
or_else-within n (Gives es answers zero Exhausted) f k w = w
or_else-within n (Gives es answers (suc left) Exhausted) f k w =
    let le : left ≤ n = omega (arith, w.1) in emit-within n es (f answers left) w.0 (within-more left n (f answers left) le (k answers left))
or_else-within n (Gives es answers left Aborted) f k w = w
or_else-within n (Gives es answers left Limit) f k w = w
or_else-within n (Gives es answers left Waiting) f k w = w
or_else-within n (Gives es answers left (CutOff m)) f k w = w

abbrev AllKeep : List Search → Type 0
AllKeep [] = Unit {0}
AllKeep (f ∷ fs) = KeepsWithin f × AllKeep fs

further-within : (n : ℕ) (r : SearchResult) (fs : List Search) → AllKeep fs → IsWithin n r → IsWithin n (further r fs)
further-within n r [] k w = w
further-within n r (f ∷ fs) k w = further-within n (or_else r f) fs k.1 (or_else-within n r f k.0 w)

tries-within : (fs : List Search) → AllKeep fs → KeepsWithin (tries fs)
tries-within [] k answers left = (tt, omega arith)
tries-within (f ∷ fs) k answers left = further-within left (f answers left) fs k.1 (k.0 answers left)

keep-map : (f : ℕ → Search) (xs : List ℕ) → ((x : ℕ) → KeepsWithin (f x)) → AllKeep (map f xs)
keep-map f [] h = tt
keep-map f (x ∷ xs) h = (h x, keep-map f xs h)

keep-replicate : (f : Search) (n : ℕ) → KeepsWithin f → AllKeep (replicate n f)
keep-replicate f zero h = tt
keep-replicate f (suc n) h = (h, keep-replicate f n h)

abort-within : (n : ℕ) (r : SearchResult) → IsWithin n r → IsWithin n (abort_if_exhausted r)
abort-within n (Gives es answers left Exhausted) w = w
abort-within n (Gives es answers left Aborted) w = w
abort-within n (Gives es answers left Limit) w = w
abort-within n (Gives es answers left Waiting) w = w
abort-within n (Gives es answers left (CutOff m)) w = w

cut-within : (n m : ℕ) (r : SearchResult) → IsWithin n r → IsWithin n (cut_off_if_exhausted m r)
cut-within n m (Gives es answers left Exhausted) w = w
cut-within n m (Gives es answers left Aborted) w = w
cut-within n m (Gives es answers left Limit) w = w
cut-within n m (Gives es answers left Waiting) w = w
cut-within n m (Gives es answers left (CutOff k)) w = w

ended-within : (n m : ℕ) (r : SearchResult) → IsWithin n r → IsWithin n (exhausted_if_cut_off m r)
ended-within n m (Gives es answers left Exhausted) w = w
ended-within n m (Gives es answers left Aborted) w = w
ended-within n m (Gives es answers left Limit) w = w
ended-within n m (Gives es answers left Waiting) w = w
ended-within n m (Gives es answers left (CutOff k)) w = w

module _ (s : List ℕ) (find : Finder) (h : (goals : List Goal) (c : ℕ) (pending : List Pending) → KeepsWithin (find goals c pending)) where
  answer-within : (rest : List Goal) (c : ℕ) (pending : List Pending) → KeepsWithin (with_answer find rest c pending)
  answer-within rest c pending [] left = (tt, omega arith)
  answer-within rest c pending (None ∷ answers) left = (tt, omega arith)
  answer-within rest c pending (Some p ∷ answers) left = h (Match p ∷ rest) c pending answers left

  moved-within : (b : Bool) (f : Search) → KeepsWithin f → KeepsWithin (if_moved b f)
  moved-within true f k answers left = (tt, omega arith)
  moved-within false f k answers left = k answers left

  one : (event : Event) (left : ℕ) → AllLeft left ((event, left) ∷ [])
  one event left = (omega arith, tt)

  goal-within : (goal : Goal) (rest : List Goal) (c : ℕ) (pending : List Pending) → KeepsWithin (first_goal s find goal rest c pending)
  goal-within (Match (Leaf a)) rest c pending answers left =
      tries-within (map (λ e. find rest e pending) (ends a s c)) (keep-map (λ e. find rest e pending) (ends a s c) (λ e. h rest e pending)) answers left
  goal-within (Match (Cat p q)) rest c pending answers left = h (Match p ∷ Match q ∷ rest) c pending answers left
  goal-within (Match (Alt p q)) rest c pending answers left =
      tries-within (find (Match p ∷ rest) c pending ∷ find (Match q ∷ rest) c pending ∷ [])
      (h (Match p ∷ rest) c pending, (h (Match q ∷ rest) c pending, tt)) answers left
  goal-within (Match (Arbno p)) rest c pending answers left =
      tries-within (find rest c pending ∷ find (Match p ∷ CloseRepeat p c ∷ rest) c pending ∷ [])
      (h rest c pending, (h (Match p ∷ CloseRepeat p c ∷ rest) c pending, tt)) answers left
  goal-within (CloseRepeat p from) rest c pending answers left =
      moved-within (c == from) (find (Match (Arbno p) ∷ rest) c pending) (h (Match (Arbno p) ∷ rest) c pending) answers left
  goal-within (Match (Cond p target)) rest c pending answers left = h (Match p ∷ CloseCond target c ∷ rest) c pending answers left
  goal-within (Match (Imm p target)) rest c pending answers left = h (Match p ∷ CloseImm target c ∷ rest) c pending answers left
  goal-within (CloseCond target from) rest c pending answers left = h rest c (pending ++ record { target = target; start = from; end = c } ∷ []) answers left
  goal-within (CloseImm target from) rest c pending answers left =
      emit-within left ((Assign target from c, left) ∷ []) (find rest c pending answers left) (one (Assign target from c) left) (h rest c pending answers left)
  goal-within (Match (Place target)) rest c pending answers left =
      emit-within left ((Cursor target c, left) ∷ []) (find rest c pending answers left) (one (Cursor target c) left) (h rest c pending answers left)
  goal-within (Match Fence) rest c pending answers left = abort-within left (find rest c pending answers left) (h rest c pending answers left)
  goal-within (Match (Cut p)) rest c pending answers left =
      ended-within left left (find (Match p ∷ CloseCut left ∷ rest) c pending answers left) (h (Match p ∷ CloseCut left ∷ rest) c pending answers left)
  goal-within (CloseCut m) rest c pending answers left = cut-within left m (find rest c pending answers left) (h rest c pending answers left)
  goal-within (Match Abort) rest c pending answers left = (tt, omega arith)
  goal-within (Match Succeed) rest c pending answers left =
      tries-within (find rest c pending ∷ replicate (suc left) (find rest c pending))
      (h rest c pending, keep-replicate (find rest c pending) (suc left) (h rest c pending)) answers left
  goal-within (Match (Defer primitive expression)) rest c pending answers left =
      emit-within left ((Value primitive expression, left) ∷ []) (with_answer find rest c pending answers left) (one (Value primitive expression) left)
      (answer-within rest c pending answers left)

pub search_within-keeps : (s : List ℕ) (start depth : ℕ) (goals : List Goal) (c : ℕ) (pending : List Pending)
    → KeepsWithin (search_within s start depth goals c pending)
search_within-keeps s start depth [] c pending answers left = ((omega arith, tt), omega arith)
search_within-keeps s start depth (goal ∷ rest) c pending answers zero = (tt, omega arith)
search_within-keeps s start zero (goal ∷ rest) c pending answers (suc left) = (tt, omega arith)
search_within-keeps s start (suc depth) (goal ∷ rest) c pending answers (suc left) =
    let le : left ≤ suc left = omega arith in
    within-more left (suc left) (first_goal s (search_within s start depth) goal rest c pending answers left) le
    (goal-within s (search_within s start depth) (search_within-keeps s start depth) goal rest c pending answers left)

-- the stack and the later starts

search-keeps : (s : List ℕ) (start : ℕ) (goals : List Goal) (c : ℕ) (pending : List Pending) → KeepsWithin (search s start goals c pending)
search-keeps s start goals c pending answers left = search_within-keeps s start left goals c pending answers left

module _ (nodes : List Node) (s : List ℕ) (start n : ℕ) where
  after_pattern-within : (p : Pattern) (rest : List Goal) (c : ℕ) (pending : List Pending) (i : ℕ) (r : SearchResult) → IsWithin n r
      → IsWithin n (after_pattern s start p rest c pending i r)
  after_pattern-within (Leaf a) rest c pending i r w =
      further-within n r (map (λ e. search s start rest e pending) (ends_from i (ends a s c)))
      (keep-map (λ e. search s start rest e pending) (ends_from i (ends a s c)) (λ e. search-keeps s start rest e pending)) w
  after_pattern-within (Alt p q) rest c pending i r w =
      further-within n r (search s start (Match q ∷ rest) c pending ∷ []) (search-keeps s start (Match q ∷ rest) c pending, tt) w
  after_pattern-within (Arbno p) rest c pending i r w =
      further-within n r (search s start (Match p ∷ CloseRepeat p c ∷ rest) c pending ∷ [])
      (search-keeps s start (Match p ∷ CloseRepeat p c ∷ rest) c pending, tt) w
  after_pattern-within Succeed rest c pending i r w =
      further-within n r (replicate (suc (left_of r)) (search s start rest c pending))
      (keep-replicate (search s start rest c pending) (suc (left_of r)) (search-keeps s start rest c pending)) w
  after_pattern-within Fence rest c pending i r w = abort-within n r w
  after_pattern-within (Cut p) rest c pending i r w = ended-within n i r w
  after_pattern-within Abort rest c pending i r w = w
  after_pattern-within (Cat p q) rest c pending i r w = w
  after_pattern-within (Cond p target) rest c pending i r w = w
  after_pattern-within (Imm p target) rest c pending i r w = w
  after_pattern-within (Place target) rest c pending i r w = w
  after_pattern-within (Defer primitive expression) rest c pending i r w = w

  after_goals-within : (goals : List Goal) (c : ℕ) (pending : List Pending) (i : ℕ) (r : SearchResult) → IsWithin n r
      → IsWithin n (after_goals s start goals c pending i r)
  after_goals-within [] c pending i r w = w
  after_goals-within (Match p ∷ rest) c pending i r w = after_pattern-within p rest c pending i r w
  after_goals-within (CloseCond target from ∷ rest) c pending i r w = w
  after_goals-within (CloseImm target from ∷ rest) c pending i r w = w
  after_goals-within (CloseRepeat p from ∷ rest) c pending i r w = w
  after_goals-within (CloseCut m ∷ rest) c pending i r w = w

  behind_mark-within : (mark : Mark) (goals : List Goal) (c : ℕ) (pending : List Pending) (r : SearchResult) → IsWithin n r
      → IsWithin n (behind_mark s start mark goals c pending r)
  behind_mark-within Enter goals c pending r w = w
  behind_mark-within (Next i) goals c pending r w = after_goals-within goals c pending i r w

  resume-within : (points : List Point) (r : SearchResult) → IsWithin n r → IsWithin n (resume nodes s start points r)
  resume-within [] r w = w
  resume-within (p ∷ ps) r w = resume-within ps (behind nodes s start p r) (behind_mark-within p.mark (goals_of nodes p.goals) p.cursor p.pending r w)

  from_mark-within : (mark : Mark) (goals : List Goal) (c : ℕ) (pending : List Pending) (answers : List Answer)
      → IsWithin n (from_mark s start mark goals c pending answers n)
  from_mark-within Enter goals c pending answers = search-keeps s start goals c pending answers n
  from_mark-within (Next i) goals c pending answers = after_goals-within goals c pending i (Gives [] answers n Exhausted) (tt, omega arith)

  reading-within : (points : List Point) (answers : List Answer) → IsWithin n (remaining nodes s start points answers n)
  reading-within [] answers = (tt, omega arith)
  reading-within (p ∷ ps) answers = resume-within ps (from_mark s start p.mark (goals_of nodes p.goals) p.cursor p.pending answers n)
      (from_mark-within p.mark (goals_of nodes p.goals) p.cursor p.pending answers)

events-within : (n : ℕ) (r : SearchResult) → IsWithin n r → AllLeft n (all_events r)
events-within n (Gives es answers left Exhausted) w = left-append n es ((Ended Exhausted, left) ∷ []) w.0 (w.1, tt)
events-within n (Gives es answers left Aborted) w = left-append n es ((Ended Aborted, left) ∷ []) w.0 (w.1, tt)
events-within n (Gives es answers left Limit) w = left-append n es ((Ended Limit, left) ∷ []) w.0 (w.1, tt)
events-within n (Gives es answers left (CutOff m)) w = left-append n es ((Ended (CutOff m), left) ∷ []) w.0 (w.1, tt)
events-within n (Gives es answers left Waiting) w = left-append n es [] w.0 tt

-- no event that is still to come was told with fewer steps than were taken
pub coming-within : (m : Matching) (start : ℕ) (points : List Point) (answers : List Answer) (left : ℕ)
    → AllLeft left (all_events (to_come S.Going m start points answers left))
coming-within m start points answers left =
    let starts_at = later_starts m.anchored m.subject start in
    events-within left (to_come S.Going m start points answers left)
    (further-within left (remaining m.nodes m.subject start points answers left) (later m start)
    (keep-map (λ b. search m.subject b (Match (tree m.nodes m.pattern.0) ∷ []) b []) starts_at
    (λ b. search-keeps m.subject b (Match (tree m.nodes m.pattern.0) ∷ []) b []))
    (reading-within m.nodes m.subject start left points answers))
