-- What the events of a match tell lies within the subject.
use Rattle.std.proofs.Common.{◌≡◌, ℕ, zero, suc, ◌-◌, ◌≤◌, ◌==◌, Bool, true, false, Some, None, List, [], ◌∷◌, ◌++◌, length, map, replicate, slice_get, subst}
use Rattle.std.proofs.Common.{arith}
use Rattle.std.specs.List.{AllByRecursion}
use Rattle.sno_pattern.specs.Pattern.{Pattern, Leaf, Fence, Cut, Abort, Succeed, Arbno, Alt, Cat, Cond, Imm, Place, Defer}
use Rattle.sno_pattern.specs.Ends.{ends}
use Rattle.sno_pattern.specs.Table.{tree}
use Rattle.sno_pattern.proofs.EndsRange.{Within}
use Rattle.sno_match.specs.declared.event.Event.{Event as Told}
use Rattle.sno_match.specs.declared.event.Pending.{Pending}
use Rattle.sno_match.specs.Search.{Goal, Match, CloseCond, CloseImm, CloseRepeat, assigns, Verdict, Exhausted, Aborted, Limit, Waiting, Event, Assign, Cursor}
use Rattle.sno_match.specs.Search.{Value, Answer, SearchResult, Gives, Search, Finder, emit, or_else, further, tries, abort_if_exhausted, with_answer, if_moved}
use Rattle.sno_match.specs.Search.{first_goal, search_within, search, starts, whole, last_event, all_events, trace, CloseCut, CutOff, cut_off_if_exhausted}
use Rattle.sno_match.specs.Search.{exhausted_if_cut_off}
use Rattle.sno_match.specs.Matching.{in_trace, IsPart, IsWithin, Matching, answers_of, IsTold}
use Rattle.sno_match.proofs.Finds.{Each, Each-map, Each-to, Each-append}
use Rattle.sno_match.proofs.EndsRange.{ends-within}
use Rattle.sno_match.proofs.QuietWays.{starts-within}

abbrev IsInside : ℕ → Event × ℕ → Type 0
IsInside n told = IsWithin n told.0

abbrev Tells : ℕ → SearchResult → Type 0
Tells n (Gives events answers left verdict) = Each (IsInside n) events

abbrev Always : ℕ → Search → Type 0
Always n next = (answers : List Answer) (left : ℕ) → Tells n (next answers left)

tells-emit : (n : ℕ) (before : List (Event × ℕ)) (outcome : SearchResult) → Each (IsInside n) before → Tells n outcome → Tells n (emit before outcome)
tells-emit n before (Gives events answers left verdict) b h = Each-append (IsInside n) before events b h

tells-or : (n : ℕ) (outcome : SearchResult) (next : Search) → Tells n outcome → Always n next → Tells n (or_else outcome next)
tells-or n (Gives events answers zero Exhausted) next h k = h
tells-or n (Gives events answers (suc left) Exhausted) next h k = tells-emit n events (next answers left) h (k answers left)
tells-or n (Gives events answers left Aborted) next h k = h
tells-or n (Gives events answers left Limit) next h k = h
tells-or n (Gives events answers left Waiting) next h k = h
tells-or n (Gives events answers left (CutOff m)) next h k = h

tells-further : (n : ℕ) (outcome : SearchResult) (rest : List Search) → Tells n outcome → Each (Always n) rest → Tells n (further outcome rest)
tells-further n outcome [] h k = h
tells-further n outcome (next ∷ rest) h k = tells-further n (or_else outcome next) rest (tells-or n outcome next h k.0) k.1

tells-tries : (n : ℕ) (searches : List Search) → Each (Always n) searches → Always n (tries searches)
tells-tries n [] h answers left = tt
tells-tries n (first ∷ rest) h answers left = tells-further n (first answers left) rest (h.0 answers left) h.1

tells-abort : (n : ℕ) (outcome : SearchResult) → Tells n outcome → Tells n (abort_if_exhausted outcome)
tells-abort n (Gives events answers left Exhausted) h = h
tells-abort n (Gives events answers left Aborted) h = h
tells-abort n (Gives events answers left Limit) h = h
tells-abort n (Gives events answers left Waiting) h = h
tells-abort n (Gives events answers left (CutOff m)) h = h

tells-cut : (n m : ℕ) (outcome : SearchResult) → Tells n outcome → Tells n (cut_off_if_exhausted m outcome)
tells-cut n m (Gives events answers left Exhausted) h = h
tells-cut n m (Gives events answers left Aborted) h = h
tells-cut n m (Gives events answers left Limit) h = h
tells-cut n m (Gives events answers left Waiting) h = h
tells-cut n m (Gives events answers left (CutOff k)) h = h

tells-ended : (n m : ℕ) (outcome : SearchResult) → Tells n outcome → Tells n (exhausted_if_cut_off m outcome)
tells-ended n m (Gives events answers left Exhausted) h = h
tells-ended n m (Gives events answers left Aborted) h = h
tells-ended n m (Gives events answers left Limit) h = h
tells-ended n m (Gives events answers left Waiting) h = h
tells-ended n m (Gives events answers left (CutOff k)) h = h

tells-moved : (n : ℕ) (stays : Bool) (next : Search) → Always n next → Always n (if_moved stays next)
tells-moved n true next h answers left = tt
tells-moved n false next h answers left = h answers left

each-copy : (P : Search → Type 0) (k : ℕ) (next : Search) → P next → Each P (replicate k next)
each-copy P zero next h = tt
each-copy P (suc k) next h = (h, each-copy P k next h)

-- the part that the goal closes begins at the cursor or before it
abbrev IsBehind : ℕ → Goal → Type 0
IsBehind c (Match pattern) = Unit {0}
IsBehind c (CloseCond target from) = from ≤ c
IsBehind c (CloseImm target from) = from ≤ c
IsBehind c (CloseRepeat body from) = Unit {0}
IsBehind c (CloseCut m) = Unit {0}

behind-later : (c e : ℕ) → c ≤ e → (goal : Goal) → IsBehind c goal → IsBehind e goal
behind-later c e l (Match pattern) h = tt
behind-later c e l (CloseCond target from) h = omega (arith, l, h)
behind-later c e l (CloseImm target from) h = omega (arith, l, h)
behind-later c e l (CloseRepeat body from) h = tt
behind-later c e l (CloseCut m) h = tt

one-more : (n : ℕ) (pending : List Pending) (p : Pending) → AllByRecursion (IsPart n) pending → IsPart n p → AllByRecursion (IsPart n) (pending ++ p ∷ [])
one-more n [] p h k = (k, tt)
one-more n (q ∷ pending) p h k = (h.0, one-more n pending p h.1 k)

abbrev FinderTells : List ℕ → ℕ → Finder → Type 0
FinderTells s start find = (goals : List Goal) (c : ℕ) (pending : List Pending) → Each (IsBehind c) goals → start ≤ c → c ≤ length s
    → AllByRecursion (IsPart (length s)) pending → Always (length s) (find goals c pending)

tells-answer : (s : List ℕ) (start : ℕ) (find : Finder) → FinderTells s start find → (rest : List Goal) (c : ℕ) (pending : List Pending)
    → Each (IsBehind c) rest → start ≤ c → c ≤ length s → AllByRecursion (IsPart (length s)) pending →
    Always (length s) (with_answer find rest c pending)
tells-answer s start find h rest c pending b l k ps [] left = tt
tells-answer s start find h rest c pending b l k ps (None ∷ answers) left = tt
tells-answer s start find h rest c pending b l k ps (Some pattern ∷ answers) left = h (Match pattern ∷ rest) c pending (tt, b) l k ps answers left

first_goal-tells : (s : List ℕ) (start : ℕ) (find : Finder) → FinderTells s start find → (goal : Goal) (rest : List Goal) (c : ℕ) (pending : List Pending)
    → IsBehind c goal → Each (IsBehind c) rest → start ≤ c → c ≤ length s → AllByRecursion (IsPart (length s)) pending →
    Always (length s) (first_goal s find goal rest c pending)
first_goal-tells s start find h (Match (Leaf a)) rest c pending g b l k ps answers left =
    tells-tries (length s) (map (λ e. find rest e pending) (ends a s c))
    (Each-map (λ e. find rest e pending) (Within c (length s)) (Always (length s)) (ends a s c)
    (λ e w. h rest e pending (Each-to (IsBehind c) (IsBehind e) rest (behind-later c e w.0) b) (omega (arith, l, w.0)) w.1 ps)
    (ends-within a s c k)) answers left
first_goal-tells s start find h (Match (Cat p q)) rest c pending g b l k ps answers left =
    h (Match p ∷ Match q ∷ rest) c pending (tt, (tt, b)) l k ps answers left
first_goal-tells s start find h (Match (Alt p q)) rest c pending g b l k ps answers left =
    tells-tries (length s) (find (Match p ∷ rest) c pending ∷ find (Match q ∷ rest) c pending ∷ [])
    (h (Match p ∷ rest) c pending (tt, b) l k ps, (h (Match q ∷ rest) c pending (tt, b) l k ps, tt)) answers left
first_goal-tells s start find h (Match (Arbno p)) rest c pending g b l k ps answers left =
    tells-tries (length s) (find rest c pending ∷ find (Match p ∷ CloseRepeat p c ∷ rest) c pending ∷ [])
    (h rest c pending b l k ps, (h (Match p ∷ CloseRepeat p c ∷ rest) c pending (tt, (tt, b)) l k ps, tt)) answers left
first_goal-tells s start find h (CloseRepeat p from) rest c pending g b l k ps answers left =
    tells-moved (length s) (c == from) (find (Match (Arbno p) ∷ rest) c pending) (h (Match (Arbno p) ∷ rest) c pending (tt, b) l k ps) answers left
first_goal-tells s start find h (Match (Cond p target)) rest c pending g b l k ps answers left =
    h (Match p ∷ CloseCond target c ∷ rest) c pending (tt, (omega arith, b)) l k ps answers left
first_goal-tells s start find h (Match (Imm p target)) rest c pending g b l k ps answers left =
    h (Match p ∷ CloseImm target c ∷ rest) c pending (tt, (omega arith, b)) l k ps answers left
first_goal-tells s start find h (CloseCond target from) rest c pending g b l k ps answers left =
    h rest c (pending ++ assigns target from c ∷ []) b l k (one-more (length s) pending (assigns target from c) ps (g, k)) answers left
first_goal-tells s start find h (CloseImm target from) rest c pending g b l k ps answers left =
    tells-emit (length s) ((Assign target from c, left) ∷ []) (find rest c pending answers left) ((g, k), tt) (h rest c pending b l k ps answers left)
first_goal-tells s start find h (Match (Place target)) rest c pending g b l k ps answers left =
    tells-emit (length s) ((Cursor target c, left) ∷ []) (find rest c pending answers left) (k, tt) (h rest c pending b l k ps answers left)
first_goal-tells s start find h (Match Fence) rest c pending g b l k ps answers left =
    tells-abort (length s) (find rest c pending answers left) (h rest c pending b l k ps answers left)
first_goal-tells s start find h (Match (Cut p)) rest c pending g b l k ps answers left =
    tells-ended (length s) left (find (Match p ∷ CloseCut left ∷ rest) c pending answers left)
    (h (Match p ∷ CloseCut left ∷ rest) c pending (tt, (tt, b)) l k ps answers left)
first_goal-tells s start find h (CloseCut m) rest c pending g b l k ps answers left =
    tells-cut (length s) m (find rest c pending answers left) (h rest c pending b l k ps answers left)
first_goal-tells s start find h (Match Abort) rest c pending g b l k ps answers left = tt
first_goal-tells s start find h (Match Succeed) rest c pending g b l k ps answers left =
    tells-tries (length s) (find rest c pending ∷ replicate (suc left) (find rest c pending))
    (h rest c pending b l k ps, each-copy (Always (length s)) (suc left) (find rest c pending) (h rest c pending b l k ps)) answers left
first_goal-tells s start find h (Match (Defer primitive expression)) rest c pending g b l k ps answers left =
    tells-emit (length s) ((Value primitive expression, left) ∷ []) (with_answer find rest c pending answers left) (tt, tt)
    (tells-answer s start find h rest c pending b l k ps answers left)

search_within-tells : (s : List ℕ) (start depth : ℕ) → FinderTells s start (search_within s start depth)
search_within-tells s start depth [] c pending b l k ps answers left = ((l, k, ps), tt)
search_within-tells s start depth (goal ∷ rest) c pending b l k ps answers zero = tt
search_within-tells s start zero (goal ∷ rest) c pending b l k ps answers (suc left) = tt
search_within-tells s start (suc depth) (goal ∷ rest) c pending b l k ps answers (suc left) =
    first_goal-tells s start (λ goals at list. search_within s start depth goals at list) (search_within-tells s start depth) goal rest c pending
    b.0 b.1 l k ps answers left

whole-tells : (p : Pattern) (s : List ℕ) (anchored : Bool) → Always (length s) (whole p s anchored)
whole-tells p s anchored =
    tells-tries (length s) (map (λ b. search s b (Match p ∷ []) b []) (starts anchored s))
    (Each-map (λ b. search s b (Match p ∷ []) b []) (Within 0 (length s)) (Always (length s)) (starts anchored s)
    (λ b w answers left. search_within-tells s b left (Match p ∷ []) b [] (tt, tt) (omega arith) w.1 tt answers left) (starts-within anchored s))

last-within : (n : ℕ) (verdict : Verdict) (left : ℕ) → Each (IsInside n) (last_event verdict left)
last-within n Exhausted left = (tt, tt)
last-within n Aborted left = (tt, tt)
last-within n Limit left = (tt, tt)
last-within n Waiting left = tt
last-within n (CutOff m) left = (tt, tt)

all-within : (n : ℕ) (outcome : SearchResult) → Tells n outcome → Each (IsInside n) (all_events outcome)
all-within n (Gives events answers left verdict) h = Each-append (IsInside n) events (last_event verdict left) h (last-within n verdict left)

told-at : (P : Event × ℕ → Type 0) (events : List (Event × ℕ)) (k : ℕ) (told : Event × ℕ) → slice_get events k ≡ Some told → Each P events → P told
told-at P [] k told e h = cc
told-at P (first ∷ events) zero told e h = let same : first ≡ told = cc in subst P same h.0
told-at P (first ∷ events) (suc k) told e h = told-at P events k told e h.1

-- each event of a trace
pub trace_within : (p : Pattern) (s : List ℕ) (anchored : Bool) (limit : ℕ) (answers : List Answer) (k : ℕ) (told : Event × ℕ)
    → slice_get (trace p s anchored limit answers) k ≡ Some told → IsWithin (length s) told.0
trace_within p s anchored limit answers k told e =
    told-at (IsInside (length s)) (trace p s anchored limit answers) k told e
    (Each-map (λ told. (told.0, limit - told.1)) (IsInside (length s)) (IsInside (length s)) (all_events (whole p s anchored answers limit)) (λ told h. h)
    (all-within (length s) (whole p s anchored answers limit) (whole-tells p s anchored answers limit)))

-- and so the one that a match tells
pub told_within : (old new : Matching) (event : Told) → IsTold old new event → IsWithin (length new.subject) (in_trace event new.way)
told_within old new event t =
    trace_within (tree new.nodes new.pattern.0) new.subject new.anchored new.limit (answers_of new.nodes new.answers) (new.told - 1)
    (in_trace event new.way, new.steps) t.at
