-- One line of a listing after another: what was written, what is left, and which events were told.
use Rattle.std.proofs.Common.{◌≡◌, ℕ, zero, suc, ◌+◌, ◌*◌, ◌-◌, ◌≤◌, arith, Bool, false, List, [], ◌∷◌, ◌++◌, length, take, slice_get, refl, ap, sym, ◌∙◌}
use Rattle.std.proofs.Common.{subst, append_assoc, Option, None, Some, Result, Ok, Err}
use Rattle.std.proofs.Common.{nat_lt, if◌then◌else◌}
use Rattle.std.proofs.lemmas.Bool.{le-ltb}
use Rattle.std.proofs.lemmas.List.{length-take-le}
use Rattle.std.specs.List.{AllByRecursion}
use Rattle.std.specs.Io.KnownBytes.{Appends}
use Rattle.sno_io.proofs.Bytes.{appends_then}
use Rattle.sno_value.specs.declared.ids.ExprId.{ExprId}
use Rattle.sno_value.specs.declared.ids.PatId.{PatId}
use Rattle.sno_value.specs.declared.kind.PrimitiveKind.{PrimitiveKind}
use Rattle.sno_pattern.specs.Pattern.{Pattern}
use Rattle.sno_pattern.specs.Table.{Node, tree}
use Rattle.sno_text.specs.Program.{Program}
use Rattle.sno_match.specs.declared.event.Pending.{Pending}
use Rattle.sno_match.specs.declared.event.Event.{Event as Told}
use Rattle.sno_match.specs.declared.event.Event.TheVariants as V
use Rattle.sno_match.specs.Matching.{in_trace, is_value, Matching, SameMatch, IsTold, IsCounted, told_of, trace_of}
use Rattle.sno_match.specs.Search.{Event, Value, Answer, trace}
use Rattle.sno_runtime.specs.declared.stops.Exit.{Exit}
use Rattle.sno_runtime.specs.declared.stops.Exit.TheVariants.{Failure, Halt}
use Rattle.sno_runtime.specs.declared.stops.Stop.TheVariants.{Error as HasError, ErrorIn as HasErrorIn, NoMemory, ReadFault, WriteFault, Ended as HasEnded}
use Rattle.sno_runtime.specs.World.{World}
use Rattle.sno_runtime.specs.Action.{Error, Got, Outcome, Action, settled, settles, either, fails, gives, stops}
use Rattle.sno_runtime.specs.Effects.{listed}
use Rattle.sno_runtime.specs.Runtime.{Runtime, world, itself, tree_of, IsPatternOf}
use Rattle.sno_runtime.specs.inner.Runtime.{any}
use Rattle.sno_statement.specs.Running.{CanRun, Devices, MeetsRunning, Runs}
use Rattle.sno_statement.specs.Turns.{answers}
use Rattle.sno_statement.specs.inner.Given.{given_of, IsGivenOf}
use Rattle.sno_runtime.proofs.Outcomes.{grows_none, no_memory_does}
use Rattle.sno_statement.proofs.RunningLaws.{does_runs}
use Rattle.sno_statement.proofs.SessionLaws.{Follows, IsTurn, given_to, left_next}
use Rattle.snobol.specs.declared.enumeration.WaysOutcome.{WaysOutcome}
use Rattle.snobol.specs.declared.enumeration.WaysOutcome.TheVariants as ways
use Rattle.snobol.specs.Enumeration.{EndsIn, Goes, IsDeferred, Leaves, lists_rest}
use Rattle.snobol.specs.Listing.{lists, lists_event, lists_ways, outcome_of}
use Rattle.snobol.specs.Meaning.{calls}
use Rattle.snobol.specs.inner.Told.{outcome_told}
use Rattle.snobol.specs.inner.Telling.{Resumes}
use Rattle.snobol.proofs.EnumerationLaws.{Nothing, nothing_given, built, line_of_event, to_end, whole, whole_listing}
use Rattle.snobol.proofs.ListingLaws.{told_next}

-- ---- what is left

pub leaves_all : (o : Outcome Unit) → Leaves o o []
leaves_all o = record { ends = refl; lines = refl }

pub leaves_then : (o p q : Outcome Unit) (front back : List ℕ) → Leaves o p front → Leaves p q back → Leaves o q (front ++ back)
leaves_then o p q front back h k = record {
  ends = h.ends ∙ k.ends;
  lines = h.lines ∙ (ap (λ (bytes : List ℕ). front ++ bytes) k.lines ∙ sym (append_assoc front back q.wrote));
}

pub ends_then : (o p : Outcome Unit) (front wrote : List ℕ) (outcome : WaysOutcome) → Leaves o p front → EndsIn p wrote outcome
    → EndsIn o (front ++ wrote) outcome
ends_then o p front wrote ways.Done h k = (ap outcome_of h.ends ∙ k.0, h.lines ∙ ap (λ (bytes : List ℕ). front ++ bytes) k.1)
ends_then o p front wrote (ways.Error code) h k = (ap outcome_of h.ends ∙ k.0, h.lines ∙ ap (λ (bytes : List ℕ). front ++ bytes) k.1)
ends_then o p front wrote (ways.Refused error) h k = k
ends_then o p front wrote ways.NoMemory h k =
    (k.0, append_assoc front wrote k.0 ∙ (ap (λ (bytes : List ℕ). front ++ bytes) k.1 ∙ sym h.lines))
ends_then o p front wrote ways.WriteFault h k =
    (k.0, append_assoc front wrote k.0 ∙ (ap (λ (bytes : List ℕ). front ++ bytes) k.1 ∙ sym h.lines))

-- what was performed, in a world with no input

pub performed : {X A : Type 0} (see : List Node → X → A) (fits : List Node → X → Type 0) (act : Action A) (a b : Runtime) (d e : Devices) (x : X)
    → Nothing d.reader → (did : Runs see fits act a b d e (Ok x))
    → act (world a []) ≡ record { ending = Got (see b.nodes x); world = world b []; wrote = did.wrote }
performed {A = A} see fits act a b d e x none did =
    subst (λ (bytes : List ℕ). ◌≡◌ {A = Outcome A} (act (world a bytes)) (record { ending = Got (see b.nodes x); world = world b []; wrote = did.wrote }))
    (ap (λ (bytes : List ℕ). bytes ++ []) (nothing_given d.reader e.reader did.given none did.consumed)) (did.meets [] (λ told. refl))

met : {X : Type 0} (act : Action Unit) (see : List Node → X → Unit) (fits : List Node → X → Type 0) (a b : Runtime) (d e : Devices) (r : Result X Exit)
    → Nothing d.reader → (did : Runs see fits act a b d e r) → MeetsRunning (see b.nodes) (act (world a [])) (world b []) did.wrote r
met act see fits a b d e r none did =
    subst (λ (bytes : List ℕ). MeetsRunning (see b.nodes) (act (world a bytes)) (world b []) did.wrote r)
    (ap (λ (bytes : List ℕ). bytes ++ []) (nothing_given d.reader e.reader did.given none did.consumed)) (did.meets [] (λ told. refl))

pub got_left : {A : Type 0} (act : Action A) (k : Option A → Action Unit) (v w : World) (x : A) (wrote : List ℕ)
    → act v ≡ record { ending = Got x; world = w; wrote = wrote } → Leaves (settles act k v) (k (Some x) w) wrote
unfolding settles
got_left {A} act k v w x wrote is =
    subst (λ (o : Outcome A). Leaves (settled o.ending o.world o.wrote k) (k (Some x) w) wrote) (sym is) (record { ends = refl; lines = refl })

ended_badly : (o : Outcome Unit) (w : World) (wrote : List ℕ) (x : Exit) → MeetsRunning {X = Unit} (λ done. done) o w wrote (Err x)
    → EndsIn o wrote (outcome_told (Err x))
ended_badly o w wrote Failure h = (ap (λ (p : Outcome Unit). outcome_of p.ending) h, ap (λ (p : Outcome Unit). p.wrote) h)
ended_badly o w wrote (Halt (HasError code)) h = (ap outcome_of h.0, h.1)
ended_badly o w wrote (Halt (HasErrorIn code statement)) h = (ap outcome_of h.0, h.1)
ended_badly o w wrote (Halt NoMemory) h = h
ended_badly o w wrote (Halt ReadFault) h = h
ended_badly o w wrote (Halt WriteFault) h = h
ended_badly o w wrote (Halt HasEnded) h = (ap outcome_of h.0, h.1)

-- what was left has ended, behind what was written before

pub ends_here : (start : Outcome Unit) (act : Action Unit) (a b : Runtime) (d e : Devices) (x : Exit) (taken : Option (List ℕ)) (front : List ℕ)
    → Nothing d.reader → Appends taken d.writer.taken front → Leaves start (act (world a [])) front
    → Runs {X = Unit} itself any act a b d e (Err x)
    → (wrote : List ℕ) × Appends taken e.writer.taken wrote × EndsIn start wrote (outcome_told (Err x))
ends_here start act a b d e x taken front none appends leaves did = (
  front ++ did.wrote,
  appends_then taken d.writer.taken e.writer.taken front did.wrote appends did.appends,
  ends_then start (act (world a [])) front did.wrote (outcome_told (Err x)) leaves
      (ended_badly (act (world a [])) (world b []) did.wrote x (met {X = Unit} act itself any a b d e (Err x) none did)),
)

pub done_here : (start : Outcome Unit) (act : Action Unit) (a b : Runtime) (d e : Devices) (taken : Option (List ℕ)) (front : List ℕ)
    → Nothing d.reader → Appends taken d.writer.taken front → Leaves start (act (world a [])) front
    → Runs {X = Unit} itself any act a b d e (Ok tt)
    → (wrote : List ℕ) × Appends taken e.writer.taken wrote × EndsIn start wrote ways.Done
done_here start act a b d e taken front none appends leaves did =
    let is = performed {X = Unit} itself any act a b d e tt none did in (
      front ++ did.wrote,
      appends_then taken d.writer.taken e.writer.taken front did.wrote appends did.appends,
      ends_then start (act (world a [])) front did.wrote ways.Done leaves
          (ap (λ (p : Outcome Unit). outcome_of p.ending) is, ap (λ (p : Outcome Unit). p.wrote) is),
    )

-- want of memory
pub refused_runs : {X A : Type 0} (see : List Node → X → A) (fits : List Node → X → Type 0) (act : Action A) (s : Runtime) (d : Devices) → CanRun s d
    → Runs see fits act s s d d (Err (Halt NoMemory))
refused_runs see fits act s d can = does_runs see fits act s s d (Err (Halt NoMemory)) can (no_memory_does see fits act s s (grows_none s.nodes) refl)

pub goes_then : (o p q : Outcome Unit) (front wrote : List ℕ) (told : Option WaysOutcome) → Leaves o p front → Goes p q wrote told
    → Goes o q (front ++ wrote) told
goes_then o p q front wrote None h k = leaves_then o p q front wrote h k
goes_then o p q front wrote (Some outcome) h k = ends_then o p front wrote outcome h k

-- the pattern, and what is left behind its value

lists_is : (program : Program) (e : ExprId) (subject : List ℕ) (anchored : Bool) (limit : ℕ) (w : World) → length subject ≤ 1_000_000
    → lists program e subject anchored limit w ≡ whole program e subject anchored limit w
lists_is program e subject anchored limit w short =
    let fits : nat_lt 1_000_000 (length subject) ≡ false = le-ltb _ _ short in
    ap (λ (b : Bool). (if b then stops (Error 8) else whole program e subject anchored limit) w) fits

pub lists_whole : (program : Program) (e : ExprId) (subject : List ℕ) (anchored : Bool) (limit : ℕ) (w : World) → length subject ≤ 1_000_000
    → Leaves (lists program e subject anchored limit w) (whole program e subject anchored limit w) []
lists_whole program e subject anchored limit w short =
    subst (λ (o : Outcome Unit). Leaves o (whole program e subject anchored limit w) []) (sym (lists_is program e subject anchored limit w short))
    (leaves_all (whole program e subject anchored limit w))

pub built_left : (program : Program) (e : ExprId) (subject : List ℕ) (anchored : Bool) (limit : ℕ) (a b : Runtime) (d f : Devices) (id : PatId)
    → length subject ≤ 1_000_000 → Nothing d.reader → (did : Runs tree_of IsPatternOf (built program e) a b d f (Ok id))
    → Leaves (lists program e subject anchored limit (world a [])) (to_end program (tree b.nodes id.0) subject anchored limit [] 0 (world b [])) did.wrote
built_left program e subject anchored limit a b d f id short none did =
    subst (λ (o : Outcome Unit). Leaves o (to_end program (tree b.nodes id.0) subject anchored limit [] 0 (world b [])) did.wrote)
    (sym (lists_is program e subject anchored limit (world a []) short))
    (subst (λ (act : Action Unit). Leaves (whole program e subject anchored limit (world a [])) (act (world b [])) did.wrote)
    (sym (whole_listing program (tree b.nodes id.0) subject anchored limit))
    (got_left (built program e) (lists_ways program subject anchored limit) (world a []) (world b []) (tree b.nodes id.0) did.wrote
    (performed tree_of IsPatternOf (built program e) a b d f id none did)))

-- an event with a line, and what is left behind it
pub event_left : (program : Program) (p : Pattern) (subject : List ℕ) (anchored : Bool) (limit told : ℕ) (given : List Answer)
    (event : Told) (way : List Pending) (n : ℕ) (a b : Runtime) (d e : Devices) → is_value event ≡ false
    → IsTurn p subject anchored limit given told (in_trace event way, n) → Nothing d.reader
    → (did : Runs {X = Unit} itself any (listed subject (in_trace event way)) a b d e (Ok tt))
    → Leaves (to_end program p subject anchored limit given told (world a []))
    (to_end program p subject anchored limit given (suc told) (world b [])) did.wrote
event_left program p subject anchored limit told given event way n a b d e no_value turn none did =
    subst (λ (act : Action Unit). Leaves (act (world a [])) (to_end program p subject anchored limit given (suc told) (world b [])) did.wrote)
    (sym (left_next (lists_event subject) (answers program (calls program)) (λ more. trace p subject anchored limit more) (gives tt) limit told given
    (in_trace event way, n) turn.0 turn.1 ∙ line_of_event program subject given event way
    (λ more. to_end program p subject anchored limit more (suc told)) no_value))
    (got_left (listed subject (in_trace event way)) (either fails (λ done. to_end program p subject anchored limit given (suc told)))
    (world a []) (world b []) tt did.wrote (performed {X = Unit} itself any (listed subject (in_trace event way)) a b d e tt none did))

-- a deferred part, and what is left behind its answer
pub value_left : (program : Program) (p : Pattern) (subject : List ℕ) (anchored : Bool) (limit told : ℕ) (given : List Answer)
    (primitive : Option PrimitiveKind) (e n : ℕ) (a b : Runtime) (d f : Devices) (x : Option PatId)
    → IsTurn p subject anchored limit given told (Value primitive e, n) → Nothing d.reader
    → (did : Runs given_of IsGivenOf (answers program (calls program) primitive e) a b d f (Ok x))
    → Leaves (to_end program p subject anchored limit given told (world a []))
    (to_end program p subject anchored limit (given ++ given_of b.nodes x ∷ []) (suc told) (world b [])) did.wrote
value_left program p subject anchored limit told given primitive e n a b d f x turn none did =
    subst (λ (act : Action Unit). Leaves (act (world a []))
    (to_end program p subject anchored limit (given ++ given_of b.nodes x ∷ []) (suc told) (world b [])) did.wrote)
    (sym (left_next (lists_event subject) (answers program (calls program)) (λ more. trace p subject anchored limit more) (gives tt) limit told given
    (Value primitive e, n) turn.0 turn.1))
    (got_left (answers program (calls program) primitive e) (either fails (λ (more : Answer).
    to_end program p subject anchored limit (given ++ more ∷ []) (suc told)))
    (world a []) (world b []) (given_of b.nodes x) did.wrote
    (performed given_of IsGivenOf (answers program (calls program) primitive e) a b d f x none did))

-- what a search is that goes on, and what it has left

pub rest_followed : (program : Program) (m : Matching) (nodes : List Node) (p : Pattern) (subject : List ℕ) (anchored : Bool) (limit : ℕ)
    → Follows m nodes p subject anchored limit → lists_rest program m ≡ to_end program p subject anchored limit (given_to m) m.told
rest_followed program m nodes p subject anchored limit i = rw (i.nodes, i.pattern, i.subject, i.anchored, i.limit) refl

pub resumes_follows : (m : Matching) (nodes : List Node) (subject : List ℕ) (limit : ℕ) → Resumes m nodes subject limit
    → Follows m nodes (tree m.nodes m.pattern.0) subject m.anchored limit
resumes_follows m nodes subject limit h = record {
  nodes = h.nodes_are;
  known = h.known;
  pattern = ap (λ (table : List Node). tree table m.pattern.0) (sym h.nodes_are);
  subject = h.subject_is;
  anchored = refl;
  limit = h.limit_is;
  each = h.each;
  ended = h.ended;
}

pub follows_resumes : (m : Matching) (nodes : List Node) (p : Pattern) (subject : List ℕ) (anchored : Bool) (limit : ℕ)
    → Follows m nodes p subject anchored limit → m.waits ≡ false → Resumes m nodes subject limit
follows_resumes m nodes p subject anchored limit i waits = record {
  nodes_are = i.nodes;
  known = i.known;
  subject_is = i.subject;
  limit_is = i.limit;
  each = i.each;
  ended = i.ended;
  waits = waits;
}

-- ---- the events told

pub take_next : {A : Type 0} (xs : List A) (n : ℕ) (x : A) → slice_get xs n ≡ Some x → take (suc n) xs ≡ take n xs ++ x ∷ []
take_next [] n x at = absurd (cc)
take_next (y ∷ xs) zero x at = let is : y ≡ x = cc in ap (λ z. z ∷ []) is
take_next {A} (y ∷ xs) (suc n) x at = ap (λ (more : List A). y ∷ more) (take_next xs n x at)

pub told_more : (old new : Matching) (event : Told) → SameMatch old new → IsTold old new event → old.ended ≡ false
    → told_of new ≡ told_of old ++ (in_trace event new.way, new.steps) ∷ []
told_more old new event same told going =
    let grows = told.grows going in
    let next : new.told ≡ suc old.told = omega arith in
    ap (λ (events : List (Event × ℕ)). take new.told events) same.trace
    ∙ (ap (λ n. take n (trace_of old)) next ∙ take_next (trace_of old) old.told _ (told_next old new event same told going))

-- behind the parts before
pub told_behind : (before parts old new : List (Event × ℕ)) (x : Event × ℕ) → old ≡ before ++ parts → new ≡ old ++ x ∷ []
    → new ≡ before ++ (parts ++ x ∷ [])
told_behind before parts old new x h k =
    k ∙ (ap (λ (events : List (Event × ℕ)). events ++ x ∷ []) h ∙ append_assoc before parts (x ∷ []))

pub deferred_and : (parts : List (Event × ℕ)) (x : Event × ℕ) → AllByRecursion (λ told. IsDeferred told.0) parts → IsDeferred x.0
    → AllByRecursion (λ told. IsDeferred told.0) (parts ++ x ∷ [])
deferred_and [] x all last = (last, tt)
deferred_and (y ∷ parts) x all last = (all.0, deferred_and parts x all.1 last)

pub not_deferred : (event : Told) (way : List Pending) → is_value event ≡ false → IsDeferred (in_trace event way) → ⊥
not_deferred (V.Way start end) way no_value is = is
not_deferred (V.Assign target start end) way no_value is = is
not_deferred (V.Cursor target at) way no_value is = is
not_deferred (V.Value prim expr) way no_value is = cc no_value
not_deferred V.Exhausted way no_value is = is
not_deferred V.Aborted way no_value is = is
not_deferred V.Limit way no_value is = is

pub few_events : (m : Matching) (limit : ℕ) → IsCounted m → m.limit ≡ limit → length (told_of m) ≤ 2 * limit + 2
few_events m limit counts is =
    let few = counts.few in
    let same : length (told_of m) ≡ m.told = length-take-le m.told (trace_of m) counts.told in
    omega arith
