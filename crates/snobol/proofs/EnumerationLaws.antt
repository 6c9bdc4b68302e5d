-- The listing of a pattern, from what its evaluation did.
use Rattle.std.proofs.Common.{◌≡◌, if◌then◌else◌, ℕ, suc, ◌+◌, ◌*◌, ◌≤◌, ◌<◌, slice_get, Bool, true, false, nat_lt, List, [], ◌∷◌, ◌++◌, length, codes, refl}
use Rattle.std.proofs.Common.{ap, sym, ◌∙◌, subst, Option, Some, None, Result, Ok, Err, ◌⊎◌, inl, inr}
use Rattle.std.proofs.lemmas.Bool.{le-ltb, lt-ltb}
use Rattle.std.specs.Io.KnownBytes.{Appends, Consumes}
use Rattle.sno_io.specs.Devices.{Begins}
use Rattle.sno_value.specs.declared.ids.ExprId.{ExprId}
use Rattle.sno_value.specs.declared.ids.PatId.{PatId}
use Rattle.sno_value.specs.declared.kind.PrimitiveKind.{PrimitiveKind}
use Rattle.sno_pattern.specs.Pattern.{Pattern}
use Rattle.sno_pattern.specs.Table.{tree}
use Rattle.sno_text.specs.Program.{Program, IsTable}
use Rattle.sno_text.specs.Trees.{Tree, Stands, Uses}
use Rattle.sno_text.specs.Refusals.{IsAccepted}
use Rattle.sno_match.specs.declared.event.Pending.{Pending}
use Rattle.sno_match.specs.declared.event.Event.{Event as Told}
use Rattle.sno_match.specs.declared.event.Event.TheVariants as V
use Rattle.sno_match.specs.Matching.{in_trace, is_last, is_value}
use Rattle.sno_match.specs.Search.{Value, Answer, trace}
use Rattle.sno_runtime.specs.declared.stops.Exit.{Exit}
use Rattle.sno_runtime.specs.declared.stops.Exit.TheVariants.{Failure, Halt}
use Rattle.sno_runtime.specs.declared.stops.Stop.{Stop}
use Rattle.sno_runtime.specs.declared.stops.Stop.TheVariants.{Error as HasError, ErrorIn as HasErrorIn, NoMemory, ReadFault, WriteFault, Ended as HasEnded}
use Rattle.sno_runtime.specs.World.{World, Keywords, new_world, listing_keywords}
use Rattle.sno_runtime.specs.Action.{Error, Outcome, Action, gives, settles, stops, and_then}
use Rattle.sno_expression.specs.Forms.{value}
use Rattle.sno_runtime.specs.Operators.{as_pattern}
use Rattle.sno_expression.specs.Evaluate.{expression}
use Rattle.snobol.specs.Meaning.{calls}
use Rattle.sno_runtime.specs.Runtime.{Runtime, world, tree_of, IsPatternOf, itself}
use Rattle.sno_runtime.specs.inner.Runtime.{new_runtime, any}
use Rattle.sno_io.specs.Devices.{Feed}
use Rattle.sno_runtime.specs.Effects.{listed}
use Rattle.sno_runtime.specs.Variables.{writes}
use Rattle.sno_runtime.specs.inner.Performs.{Performs}
use Rattle.snobol.specs.declared.enumeration.WaysOutcome.{WaysOutcome}
use Rattle.snobol.specs.Reading.{IsRead}
use Rattle.snobol.specs.declared.enumeration.WaysOutcome.TheVariants as ways
use Rattle.snobol.specs.Listing.{lists_event, lists_events, lists_ways, listing, IsListed, IsListing}
use Rattle.sno_statement.specs.Running.{Devices, CanRun, Runs, MeetsRunning, HasFault}
use Rattle.sno_statement.specs.Turns.{after_one, answers, most_events}
use Rattle.sno_statement.specs.inner.Given.{given_of, IsGivenOf}
use Rattle.snobol.specs.inner.Told.{Tells, outcome_told}
use Rattle.sno_statement.proofs.RunningLaws.{does_runs, runs_got, runs_failed, runs_halt, then_runs, then_ended}
use Rattle.sno_statement.proofs.SessionLaws.{IsTurn, left, left_next, left_first, left_over, answer_then, answer_ended}
use Rattle.sno_runtime.proofs.Outcomes.{grows_none, gives_does, no_memory_does}

-- the pattern that is listed
abbrev pub built : Program → ExprId → Action Pattern
built program e = and_then (expression program (calls program) (value e)) as_pattern

-- the world before a listing, and the state that shows it
abbrev start : Bool → ℕ → World
start anchored limit = new_world [] (listing_keywords anchored 1_000_000 limit)

abbrev pub begun : Bool → ℕ → Runtime
begun anchored limit = new_runtime (listing_keywords anchored 1_000_000 limit)

-- a reader that has nothing to give
abbrev pub Nothing : Feed → Type 0
Nothing f = f.left ≡ Some []

pub nothing_given : (f g : Feed) (given : List ℕ) → Nothing f → Consumes f.left g.left given → given ≡ []
nothing_given f g given none consumed = by f.left g.left none consumed
  where
    by : (before after : Option (List ℕ)) → before ≡ Some [] → Consumes before after given → given ≡ []
    by None after is h = absurd (cc is)
    by (Some xs) None is h = absurd h
    by (Some xs) (Some ys) is h = let e : xs ≡ [] = cc is in first_none given ys (sym h ∙ e)
      where
        first_none : (front back : List ℕ) → front ++ back ≡ [] → front ≡ []
        first_none [] back e = refl
        first_none (byte ∷ front) back e = absurd (cc e)

listing_is : (program : Program) (e : ExprId) (subject : List ℕ) (anchored : Bool) (limit : ℕ) → length subject ≤ 1_000_000
    → listing program e subject anchored limit ≡ settles (built program e) (lists_ways program subject anchored limit) (start anchored limit)
listing_is program e subject anchored limit short =
    let fits : nat_lt 1_000_000 (length subject) ≡ false = le-ltb _ _ short in
    ap (λ (b : Bool). (if b then stops (Error 8) else settles (built program e) (lists_ways program subject anchored limit)) (start anchored limit)) fits

-- the session of a listing

abbrev pub to_end : Program → Pattern → List ℕ → Bool → ℕ → List Answer → ℕ → Action Unit
to_end program p subject anchored limit =
    left (lists_event subject) (answers program (calls program)) (λ given. trace p subject anchored limit given) (gives tt) limit

pub line_of_event : (program : Program) (subject : List ℕ) (given : List Answer) (event : Told) (way : List Pending)
    (next : List Answer → Action Unit) → is_value event ≡ false
    → after_one (lists_event subject) (answers program (calls program)) next given (in_trace event way)
    ≡ and_then (listed subject (in_trace event way)) (λ done. next given)
line_of_event program subject given (V.Way start end) way next no_value = refl
line_of_event program subject given (V.Assign target start end) way next no_value = refl
line_of_event program subject given (V.Cursor target at) way next no_value = refl
line_of_event program subject given (V.Value prim expr) way next no_value = absurd (cc no_value)
line_of_event program subject given V.Exhausted way next no_value = refl
line_of_event program subject given V.Aborted way next no_value = refl
line_of_event program subject given V.Limit way next no_value = refl

-- an event whose line is written and that takes effect, and what follows it
pub event_then : (program : Program) (p : Pattern) (subject : List ℕ) (anchored : Bool) (limit told : ℕ) (given : List Answer)
    (event : Told) (way : List Pending)
    (n : ℕ) (a b c : Runtime) (d e f : Devices) (r : Result Unit Exit) → is_value event ≡ false → told ≤ 2 * limit + 2
    → slice_get (trace p subject anchored limit given) told ≡ Some (in_trace event way, n)
    → Runs {X = Unit} itself any (listed subject (in_trace event way)) a b d e (Ok tt)
    → Runs {X = Unit} itself any (to_end program p subject anchored limit given (suc told)) b c e f r
    → Runs {X = Unit} itself any (to_end program p subject anchored limit given told) a c d f r
event_then program p subject anchored limit told given event way n a b c d e f r no_value few at did rest =
    subst (λ (act : Action Unit). Runs {X = Unit} itself any act a c d f r)
    (sym (left_next (lists_event subject) (answers program (calls program)) (λ more. trace p subject anchored limit more) (gives tt) limit told given
    (in_trace event way, n) few at ∙ line_of_event program subject given event way
    (λ more. to_end program p subject anchored limit more (suc told)) no_value))
    (then_runs {X = Unit} {Y = Unit} itself any itself any (listed subject (in_trace event way))
    (λ done. to_end program p subject anchored limit given (suc told)) a b c d e f tt r did rest)

pub event_ended : (program : Program) (p : Pattern) (subject : List ℕ) (anchored : Bool) (limit told : ℕ) (given : List Answer) (event : Told)
    (way : List Pending) (n : ℕ) (a b : Runtime) (d e : Devices) (x : Exit) → is_value event ≡ false → told ≤ 2 * limit + 2
    → slice_get (trace p subject anchored limit given) told ≡ Some (in_trace event way, n)
    → Runs {X = Unit} itself any (listed subject (in_trace event way)) a b d e (Err x)
    → Runs {X = Unit} itself any (to_end program p subject anchored limit given told) a b d e (Err x)
event_ended program p subject anchored limit told given event way n a b d e x no_value few at did =
    subst (λ (act : Action Unit). Runs {X = Unit} itself any act a b d e (Err x))
    (sym (left_next (lists_event subject) (answers program (calls program)) (λ more. trace p subject anchored limit more) (gives tt) limit told given
    (in_trace event way, n) few at ∙ line_of_event program subject given event way
    (λ more. to_end program p subject anchored limit more (suc told)) no_value))
    (then_ended {X = Unit} {Y = Unit} itself any itself any (listed subject (in_trace event way))
    (λ done. to_end program p subject anchored limit given (suc told)) a b d e x did)

-- a deferred part, and what follows its answer
pub value_then : (program : Program) (p : Pattern) (subject : List ℕ) (anchored : Bool) (limit told : ℕ) (given : List Answer)
    (primitive : Option PrimitiveKind)
    (e n : ℕ) (a b c : Runtime) (d f g : Devices) (x : Option PatId) (r : Result Unit Exit) → IsTurn p subject anchored limit given told (Value primitive e, n)
    → Runs given_of IsGivenOf (answers program (calls program) primitive e) a b d f (Ok x)
    → Runs {X = Unit} itself any (to_end program p subject anchored limit (given ++ given_of b.nodes x ∷ []) (suc told)) b c f g r
    → Runs {X = Unit} itself any (to_end program p subject anchored limit given told) a c d g r
value_then program p subject anchored limit told given primitive e n a b c d f g x r turn did rest =
    answer_then {Y = Unit} itself any (lists_event subject) (answers program (calls program))
    (λ more. trace p subject anchored limit more) (gives (tt {0})) limit
    told given primitive e n a b c d f g x r turn.0 turn.1 did rest

pub value_ended : (program : Program) (p : Pattern) (subject : List ℕ) (anchored : Bool) (limit told : ℕ) (given : List Answer)
    (primitive : Option PrimitiveKind)
    (e n : ℕ) (a b : Runtime) (d f : Devices) (x : Exit) → IsTurn p subject anchored limit given told (Value primitive e, n)
    → Runs {X = Option PatId} given_of IsGivenOf (answers program (calls program) primitive e) a b d f (Err x)
    → Runs {X = Unit} itself any (to_end program p subject anchored limit given told) a b d f (Err x)
value_ended program p subject anchored limit told given primitive e n a b d f x turn did =
    answer_ended {Y = Unit} itself any (lists_event subject) (answers program (calls program)) (λ more. trace p subject anchored limit more)
    (gives (tt {0})) limit told given primitive e n a b d f x turn.0 turn.1 did

-- want of memory
pub unlisted : (act : Action Unit) (s : Runtime) (d : Devices) → CanRun s d → Runs {X = Unit} itself any act s s d d (Err (Halt NoMemory))
unlisted act s d can = does_runs {X = Unit} itself any act s s d (Err (Halt NoMemory)) can
    (no_memory_does {X = Unit} itself any act s s (grows_none s.nodes) refl)

-- the last event has a line
pub last_told : (event : Told) → (event ≡ V.Exhausted) ⊎ ((event ≡ V.Aborted) ⊎ (event ≡ V.Limit)) → (is_value event ≡ false) × (is_last event ≡ true)
last_told event (inl e) = rw e (refl, refl)
last_told event (inr (inl e)) = rw e (refl, refl)
last_told event (inr (inr e)) = rw e (refl, refl)

-- and so has any that isn't a deferred part
pub line_told : (event : Told) → ((prim : Option PrimitiveKind) (expr : ExprId) → event ≡ V.Value prim expr → ⊥) → (event ≡ V.Exhausted → ⊥)
    → (event ≡ V.Aborted → ⊥) → (event ≡ V.Limit → ⊥) → (is_value event ≡ false) × (is_last event ≡ false)
line_told (V.Way start end) value_not exhausted_not aborted_not limit_not = (refl, refl)
line_told (V.Assign target start end) value_not exhausted_not aborted_not limit_not = (refl, refl)
line_told (V.Cursor target at) value_not exhausted_not aborted_not limit_not = (refl, refl)
line_told (V.Value prim expr) value_not exhausted_not aborted_not limit_not = absurd (value_not prim expr refl)
line_told V.Exhausted value_not exhausted_not aborted_not limit_not = absurd (exhausted_not refl)
line_told V.Aborted value_not exhausted_not aborted_not limit_not = absurd (aborted_not refl)
line_told V.Limit value_not exhausted_not aborted_not limit_not = absurd (limit_not refl)

-- behind the last event
pub events_over : (program : Program) (p : Pattern) (subject : List ℕ) (anchored : Bool) (limit told : ℕ) (given : List Answer) (s : Runtime) (d : Devices)
    → CanRun s d → length (trace p subject anchored limit given) ≤ told
    → Runs {X = Unit} itself any (to_end program p subject anchored limit given told) s s d d (Ok tt)
events_over program p subject anchored limit told given s d can all =
    rw (left_over (lists_event subject) (answers program (calls program)) (λ more. trace p subject anchored limit more) (gives (tt {0})) limit told given all)
    (does_runs {X = Unit} itself any (gives tt) s s d (Ok tt) can (gives_does {X = Unit} itself any s tt tt refl tt))

-- the whole session of a listing
pub whole_listing : (program : Program) (p : Pattern) (subject : List ℕ) (anchored : Bool) (limit : ℕ) → to_end program p subject anchored limit [] 0
    ≡ lists_events program p subject anchored limit (most_events limit) [] 0
whole_listing program p subject anchored limit =
    left_first (lists_event subject) (answers program (calls program)) (λ given. trace p subject anchored limit given) (gives (tt {0})) limit

-- what was performed is told
tells_of : (o : Outcome Unit) (after : World) (wrote : List ℕ) (r : Result Unit Exit) → MeetsRunning (λ done. done) o after wrote r → Tells o wrote r
tells_of o after wrote (Ok done) h = (ap (λ (p : Outcome Unit). p.ending) h, ap (λ (p : Outcome Unit). p.wrote) h)
tells_of o after wrote (Err Failure) h = (ap (λ (p : Outcome Unit). p.ending) h, ap (λ (p : Outcome Unit). p.wrote) h)
tells_of o after wrote (Err (Halt (HasError code))) h = h
tells_of o after wrote (Err (Halt NoMemory)) h = h
tells_of o after wrote (Err (Halt ReadFault)) h = h
tells_of o after wrote (Err (Halt WriteFault)) h = h
tells_of o after wrote (Err (Halt (HasErrorIn code statement))) h = h
tells_of o after wrote (Err (Halt HasEnded)) h = h

pub told : (act : Action Unit) (o : Outcome Unit) (a b : Runtime) (d e : Devices) (r : Result Unit Exit) → o ≡ act (world a []) → Nothing d.reader
    → Runs {X = Unit} itself any act a b d e r → (wrote : List ℕ) × Appends d.writer.taken e.writer.taken wrote × Tells o wrote r
told act o a b d e r is none did = (
  did.wrote,
  did.appends,
  rw is (subst (λ (bytes : List ℕ). Tells (act (world a bytes)) did.wrote r)
      (ap (λ (bytes : List ℕ). bytes ++ []) (nothing_given d.reader e.reader did.given none did.consumed))
      (tells_of (act (world a (did.given ++ []))) (world b []) did.wrote r (did.meets [] (λ end. refl)))),
)

-- a new machine

pub new_closed : (s : Runtime) (keywords : Keywords) → s ≡ new_runtime keywords → s.store.calls ≡ []
new_closed s keywords is = ap (λ (t : Runtime). t.store.calls) is

pub new_runs : (s : Runtime) (keywords : Keywords) (d : Devices) → s ≡ new_runtime keywords → d.reader.broken ≡ false → d.writer.broken ≡ false → CanRun s d
new_runs s keywords d is sound unstuck = rw is (record { reads = record { going = refl; same = λ told. absurd (cc told); sound = sound }; writes = unstuck })

-- a pattern that was built, or not, and what followed

abbrev pub whole : Program → ExprId → List ℕ → Bool → ℕ → Action Unit
whole program e subject anchored limit = settles (built program e) (lists_ways program subject anchored limit)

pub built_listed : (program : Program) (e : ExprId) (subject : List ℕ) (anchored : Bool) (limit : ℕ) (a b c : Runtime) (d f g : Devices) (id : PatId)
    (r : Result Unit Exit) → Runs tree_of IsPatternOf (built program e) a b d f (Ok id)
    → Runs {X = Unit} itself any (lists_events program (tree b.nodes id.0) subject anchored limit (most_events limit) [] 0) b c f g r
    → Runs {X = Unit} itself any (whole program e subject anchored limit) a c d g r
built_listed program e subject anchored limit a b c d f g id r did rest =
    runs_got tree_of IsPatternOf itself any (built program e) (lists_ways program subject anchored limit) a b c d f g id r did rest

pub failed_listed : (program : Program) (e : ExprId) (subject : List ℕ) (anchored : Bool) (limit : ℕ) (a b c : Runtime) (d f g : Devices) (r : Result Unit Exit)
    → Runs {X = PatId} tree_of IsPatternOf (built program e) a b d f (Err Failure)
    → Runs {X = Unit} itself any (writes (codes "exhausted\n")) b c f g r → Runs {X = Unit} itself any (whole program e subject anchored limit) a c d g r
failed_listed program e subject anchored limit a b c d f g r did rest =
    runs_failed {X = PatId} tree_of IsPatternOf itself any (built program e) (lists_ways program subject anchored limit) a b c d f g r did rest

pub stopped_listed : (program : Program) (e : ExprId) (subject : List ℕ) (anchored : Bool) (limit : ℕ) (a b : Runtime) (d f : Devices) (why : Stop)
    → Runs {X = PatId} tree_of IsPatternOf (built program e) a b d f (Err (Halt why))
    → Runs {X = Unit} itself any (whole program e subject anchored limit) a b d f (Err (Halt why))
stopped_listed program e subject anchored limit a b d f why did =
    runs_halt {X = PatId} {Y = Unit} tree_of IsPatternOf itself any (built program e) (lists_ways program subject anchored limit) a b d f why did

-- the line of a pattern that failed while it was built

pub line_put : (bytes : List ℕ) (s : Runtime) (x y : Option (List ℕ)) → Appends x y bytes → Performs (writes bytes) s s x y (Ok tt)
line_put bytes s x y put = record { wrote = bytes; appends = put; ends = λ more. refl; unread = refl }

pub line_cut : (bytes part : List ℕ) (s : Runtime) (x y : Option (List ℕ)) → Begins part bytes → Appends x y part
    → Performs (writes bytes) s s x y (Err WriteFault)
line_cut bytes part s x y begins put = record { wrote = part; appends = put; ends = λ more. begins; unread = refl }

-- how it ended, and what was written, is the listing
pub listed_as : (program : Program) (e : ExprId) (subject : List ℕ) (anchored : Bool) (limit : ℕ) (b : Runtime) (d f : Devices) (r : Result Unit Exit)
    → length subject ≤ 1_000_000 → Nothing d.reader → Runs {X = Unit} itself any (whole program e subject anchored limit) (begun anchored limit) b d f r
    → (wrote : List ℕ) × Appends d.writer.taken f.writer.taken wrote × Tells (listing program e subject anchored limit) wrote r
listed_as program e subject anchored limit b d f r short none did =
    told (whole program e subject anchored limit) (listing program e subject anchored limit) (begun anchored limit) b d f r
    (listing_is program e subject anchored limit short) none did

-- a fault of the writer is its own
pub fault_told : (r : Result Unit Exit) (d : Devices) → HasFault r d → r ≡ Err (Halt WriteFault) → d.writer.broken ≡ true
fault_told r d fault is = rw is at fault

-- what was told of a pattern that is read is its listing
pub is_listing : (pattern subject : List ℕ) (anchored : Bool) (limit : ℕ) (program : Program) (e : ExprId) (outcome : WaysOutcome)
    (end : Result Unit Exit) (wrote : List ℕ)
    → IsRead pattern program e → outcome ≡ outcome_told end → Tells (listing program e subject anchored limit) wrote end
    → IsListing pattern subject anchored limit outcome wrote
is_listing pattern subject anchored limit program e outcome (Ok done) wrote read is told =
    rw is (record { program = program; number = e; read = read; ends = rw told.0 refl; written = told.1 })
is_listing pattern subject anchored limit program e outcome (Err Failure) wrote read is told =
    rw is (record { program = program; number = e; read = read; ends = rw told.0 refl; written = told.1 })
is_listing pattern subject anchored limit program e outcome (Err (Halt (HasError code))) wrote read is told =
    rw is (record { program = program; number = e; read = read; ends = rw told.0 refl; written = told.1 })
is_listing pattern subject anchored limit program e outcome (Err (Halt NoMemory)) wrote read is told =
    rw is (inr (record { program = program; number = e; read = read; begins = told }))
is_listing pattern subject anchored limit program e outcome (Err (Halt ReadFault)) wrote read is told =
    rw is (inr (record { program = program; number = e; read = read; begins = told }))
is_listing pattern subject anchored limit program e outcome (Err (Halt WriteFault)) wrote read is told =
    rw is (record { program = program; number = e; read = read; begins = told })
is_listing pattern subject anchored limit program e outcome (Err (Halt (HasErrorIn code statement))) wrote read is told =
    rw is (record { program = program; number = e; read = read; ends = rw told.0 refl; written = told.1 })
is_listing pattern subject anchored limit program e outcome (Err (Halt HasEnded)) wrote read is told =
    rw is (record { program = program; number = e; read = read; ends = rw told.0 refl; written = told.1 })

-- an expression that the reader accepts is read
pub is_read : (text : List ℕ) (program : Program) (e : ExprId) → ((t : Tree) × IsAccepted text t × Stands program.nodes e t × Uses program.nodes 0 (e ∷ []))
    → program.text ≡ text → e.0 < length program.nodes → IsTable (length program.text) program.nodes → program.statements ≡ [] → IsRead text program e
is_read text program e accepted same number table none =
    record {
      tree = accepted.0;
      accepted = accepted.1;
      stands = accepted.2;
      used = accepted.3;
      program_text = same;
      number = number;
      table = table;
      statements = none;
    }

-- a subject that is too long
pub too_long : (pattern subject : List ℕ) (anchored : Bool) (limit : ℕ) (program : Program) (e : ExprId) → IsRead pattern program e → 1_000_000 < length subject
    → IsListed pattern subject anchored limit (ways.Error 8) []
too_long pattern subject anchored limit program e read h =
    let long : nat_lt 1_000_000 (length subject) ≡ true = lt-ltb 1_000_000 (length subject) h in
    record { program = program; number = e; read = read; ends = rw long refl; written = rw long refl }
