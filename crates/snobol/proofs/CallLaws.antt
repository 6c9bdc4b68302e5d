-- What a call of a program's function does, from its parts.
use Rattle.std.proofs.Common.{◌≡◌, ℕ, zero, suc, ◌+◌, ◌-◌, ◌<◌, ◌≤◌, arith, Bool, true, false, List, [], ◌∷◌, ◌++◌, length, map}
use Rattle.std.proofs.Common.{refl, ap, sym, ◌∙◌, subst, Option, None, Some, Result, Ok, Err}
use Rattle.std.proofs.lemmas.List.{append-nil, length-append}
use Rattle.sno_value.specs.declared.value.Value.{Value as Stored}
use Rattle.sno_value.specs.declared.value.Value.TheVariants as stored
use Rattle.sno_text.specs.Program.{Program}
use Rattle.sno_store.specs.Calls.{saved, function_value}
use Rattle.sno_store.specs.Definitions.{Definition}
use Rattle.sno_store.specs.Functions.{definition_at}
use Rattle.sno_runtime.specs.declared.stops.Exit.{Exit}
use Rattle.sno_runtime.specs.declared.stops.Exit.TheVariants.{Failure, Halt}
use Rattle.sno_runtime.specs.declared.stops.Stop.{Stop}
use Rattle.sno_runtime.specs.declared.stops.Stop.TheVariants.{Error as HasError, ErrorIn as HasErrorIn, NoMemory, ReadFault, WriteFault, Ended as HasEnded}
use Rattle.sno_runtime.specs.World.{World, Keywords}
use Rattle.sno_runtime.specs.Action.{Error, Got, Fails, Outcome, Action, settled, settles, either, and_then, fails, stops}
use Rattle.sno_runtime.specs.Calls.{left_world, Entered}
use Rattle.sno_runtime.specs.inner.Calls.{shown_saved, Enters, Leaves}
use Rattle.sno_runtime.specs.Runtime.{Runtime, world, Grows, OnGoing, OnAnswer, itself}
use Rattle.sno_runtime.specs.inner.Runtime.{Does, any}
use Rattle.sno_runtime.specs.Values.{Value, Str, shown, IsValueOf}
use Rattle.sno_runtime.proofs.Calls.{saved_shown}
use Rattle.sno_runtime.proofs.Outcomes.{no_memory_does, grows_none, saved_shown_stay}
use Rattle.sno_expression.specs.Evaluate.{Caller}
use Rattle.sno_statement.specs.Steps.{label_number}
use Rattle.snobol.specs.Meaning.{chain, leaves, performs_function, performs_call, call_at}
use Rattle.sno_statement.specs.Running.{Devices, CanRun, Goes, Runs, MeetsRunning, HasFault}
use Rattle.sno_statement.proofs.RunningLaws.{does_runs, runs_halt}

-- the entry of the function

-- a function whose entry label the program lacks
pub unlabelled : (program : Program) (f levels : ℕ) (xs : List Value) (d : Definition) (s : Runtime) → length s.store.calls < 200
    → levels + length s.store.calls
    ≡ 200 → definition_at s.store.functions f ≡ Some d → label_number program d.entry ≡ None
    → Does {X = Stored} shown IsValueOf (call_at program levels f xs) s s (Err (Halt (HasError 5)))
unlabelled program f zero xs d s room left defined missing = absurd (omega arith)
unlabelled program f (suc levels) xs d s room left defined missing =
    let same : (more : List ℕ) → call_at program (suc levels) f xs (world s more) ≡ stops (Error 5) (world s more) =
    λ more.
    ap (λ (o : Option Definition). either (stops (Error 4)) (performs_call program (call_at program levels) f xs) o (world s more)) defined
    ∙ ap (λ (o : Option ℕ). either (stops (Error 5)) (performs_function program (call_at program levels) f d xs) o (world s more)) missing
    in
    record {
      grows = grows_none s.nodes;
      meets = λ more. (ap (λ (o : Outcome Value). o.ending) (same more), ap (λ (o : Outcome Value). o.wrote) (same more));
      answer = tt;
      unread = refl;
    }

-- where fewer than 200 calls are open, one more may be
one_fewer : (level inner : ℕ) → level < 200 → inner ≡ level + 1 → 200 - level ≡ suc (200 - inner)
one_fewer level inner room one = omega arith

-- what a call answers whose chain of statements went to RETURN, or to FRETURN
abbrev pub answered : Bool → Stored → Result Stored Exit
answered true value = Ok value
answered false value = Err Failure

-- what a call that begins has saved of the store
abbrev stored_call : ℕ → Definition → Runtime → List (ℕ × Stored)
stored_call f d before = saved (stored.Str []) f d before.store.values

-- one more call is open behind its beginning
opened_level : (f : ℕ) (d : Definition) (xs : List Value) (before mid : Runtime) → Entered f d xs before mid → length mid.store.calls
    ≡ length before.store.calls + 1
opened_level f d xs before mid begun = ap length begun.opened ∙ length-append before.store.calls (stored_call f d before ∷ [])

module _ (program : Program) (f n : ℕ) (d : Definition) (xs : List Value) (before mid : Runtime) (begun : Entered f d xs before mid)
    (defined : definition_at before.store.functions f ≡ Some d) (found : label_number program d.entry ≡ Some n) where
  -- what it has saved of the world
  abbrev shown_call : List (ℕ × Value)
  shown_call = saved (Str []) f d (map (shown before.nodes) before.store.values)

  -- its statements, and its end
  abbrev body : Caller → Action Value
  body call = and_then (chain program call (mid.keywords.cap + 1) n) (leaves shown_call before.keywords.statement)

  call_is : (levels : ℕ) (more : List ℕ) → call_at program (suc levels) f xs (world before more) ≡ body (call_at program levels) (world mid more)
  unfolding settles
  call_is levels more =
      ap (λ (o : Option Definition). either (stops (Error 4)) (performs_call program (call_at program levels) f xs) o (world before more)) defined
      ∙ (ap (λ (o : Option ℕ). either (stops (Error 5)) (performs_function program (call_at program levels) f d xs) o (world before more)) found
      ∙ (ap (λ (w : World). and_then (chain program (call_at program levels) (before.keywords.cap + 1) n) (leaves shown_call before.keywords.statement) w)
      (sym (begun.meets more))
      ∙ ap (λ (k : Keywords). and_then (chain program (call_at program levels) (k.cap + 1) n) (leaves shown_call before.keywords.statement) (world mid more))
      (sym begun.keywords)))

  module _ (late after : Runtime) (value : Stored) (grew : Grows mid.nodes late.nodes)
      (left : Leaves before.store.calls (stored_call f d before) before.keywords.statement late after value) where
    -- what was saved is shown the same behind the statements
    saved_same : shown_saved late.nodes (stored_call f d before) ≡ shown_call
    saved_same = saved_shown_stay before.nodes late.nodes (stored_call f d before) (grew.0, grew.1 ∙ ap (λ nodes. nodes ++ grew.0) begun.nodes) begun.known
        ∙ saved_shown before.nodes f d before.store.values

    value_same : (more : List ℕ) → function_value (Str []) shown_call (world late more).values ≡ shown after.nodes value
    value_same more = ap (λ call. function_value (Str []) call (world late more).values) (sym saved_same)
        ∙ (sym (left.returned more) ∙ ap (λ nodes. shown nodes value) (sym left.nodes))

    world_same : (more : List ℕ) → left_world shown_call before.keywords.statement (world late more) ≡ world after more
    world_same more = ap (λ call. left_world call before.keywords.statement (world late more)) (sym saved_same) ∙ sym (left.meets more)

    -- how a call ends whose statements went to RETURN, or to FRETURN
    left_meets : (success : Bool) (wrote more : List ℕ) (o : Outcome Bool) → o ≡ record { ending = Got success; world = world late more; wrote = wrote }
        → MeetsRunning (shown after.nodes) (settled o.ending o.world o.wrote (either fails (leaves shown_call before.keywords.statement)))
        (world after more) wrote (answered success value)
    left_meets true wrote more o is =
        ap (λ (q : Outcome Bool). settled q.ending q.world q.wrote (either fails (leaves shown_call before.keywords.statement))) is
        ∙ (λ i. record { ending = Got (value_same more i); world = world_same more i; wrote = append-nil wrote i })
    left_meets false wrote more o is =
        ap (λ (q : Outcome Bool). settled q.ending q.world q.wrote (either fails (leaves shown_call before.keywords.statement))) is
        ∙ (λ i. record { ending = Fails; world = world_same more i; wrote = append-nil wrote i })

    left_answer : (success : Bool) → OnAnswer (IsValueOf after.nodes) (answered success value)
    left_answer true = rw left.nodes left.known
    left_answer false = tt

    left_going : (success : Bool) (P : Type 0) → P → OnGoing (answered success value) P
    left_going true P h = h
    left_going false P h = h

    left_sound : (success : Bool) (e : Devices) → HasFault (answered success value) e
    left_sound true e = tt
    left_sound false e = tt

    can_end : (e : Devices) → CanRun late e → CanRun after e
    can_end e can = record {
      reads = record {
        going = rw left.reading can.reads.going;
        same = λ told. can.reads.same (rw left.reading at told);
        sound = can.reads.sound;
      };
      writes = can.writes;
    }

    left_goes : Goes mid.keywords late.keywords → Goes before.keywords after.keywords
    left_goes went = let k = ap (λ (q : Keywords). q.cap) left.keywords in let m = ap (λ (q : Keywords). q.begun) left.keywords in let w = went.begun in
        record { cap = k ∙ (went.cap ∙ ap (λ (q : Keywords). q.cap) begun.keywords); begun = omega (arith, ap (λ (q : Keywords). q.begun) begun.keywords) }

    left_runs : (levels : ℕ) (success : Bool) (old new : Devices) → Runs {X = Bool} itself any (chain program (call_at program levels) (mid.keywords.cap + 1) n)
        mid late old new (Ok success)
        → Runs shown IsValueOf (call_at program (suc levels) f xs) before after old new (answered success value)
    unfolding settles
    left_runs levels success old new p = record {
      given = p.given;
      wrote = p.wrote;
      consumed = p.consumed;
      appends = p.appends;
      ended = λ told. let m = p.ended (rw begun.reading told) in (m.0, rw left.reading m.1);
      tells = λ told. p.tells (rw left.reading at told);
      grows = (p.grows.0, left.nodes ∙ (p.grows.1 ∙ ap (λ nodes. nodes ++ p.grows.0) begun.nodes));
      goes = left_goes p.goes;
      calls = left_going success (after.store.calls ≡ before.store.calls) left.closed;
      meets = λ more none.
          subst (λ (o : Outcome Value). MeetsRunning (shown after.nodes) o (world after more) p.wrote (answered success value))
          (sym (call_is levels (p.given ++ more)))
          (left_meets success p.wrote more (chain program (call_at program levels) (mid.keywords.cap + 1) n (world mid (p.given ++ more)))
          (p.meets more (λ told. none (rw left.reading told))));
      answer = left_answer success;
      ready = left_going success (CanRun after new) (can_end new p.ready);
      cause = left_sound success new;
    }

  -- a call within which the run ended
  halted_runs : (levels : ℕ) (late : Runtime) (old new : Devices) (why : Stop)
      → Runs {X = Bool} itself any (chain program (call_at program levels) (mid.keywords.cap + 1) n) mid late old new (Err (Halt why))
      → Runs {X = Stored} shown IsValueOf (call_at program (suc levels) f xs) before late old new (Err (Halt why))
  halted_runs levels late old new why p =
      let q = runs_halt {X = Bool} {Y = Stored} itself any shown IsValueOf (chain program (call_at program levels) (mid.keywords.cap + 1) n)
      (either fails (leaves shown_call before.keywords.statement)) mid late old new why p in
      record {
        given = q.given;
        wrote = q.wrote;
        consumed = q.consumed;
        appends = q.appends;
        ended = λ told. q.ended (rw begun.reading told);
        tells = q.tells;
        grows = (q.grows.0, q.grows.1 ∙ ap (λ nodes. nodes ++ q.grows.0) begun.nodes);
        goes = rw (sym begun.keywords) q.goes;
        calls = tt;
        meets = λ more none. subst (λ (o : Outcome Value). MeetsRunning {X = Stored} (shown late.nodes) o (world late more) q.wrote (Err (Halt why)))
            (sym (call_is levels (q.given ++ more))) (q.meets more none);
        answer = tt;
        ready = tt;
        cause = q.cause;
      }

  -- the calls that are open behind its statements
  innermost : (late : Runtime) → late.store.calls ≡ mid.store.calls → late.store.calls ≡ before.store.calls ++ (stored_call f d before) ∷ []
  innermost late same = same ∙ begun.opened

  -- one more call is open where its statements are performed
  deeper : (level : ℕ) → level ≡ length mid.store.calls → 200 - length before.store.calls ≡ suc (200 - level)
  deeper level is = one_fewer (length before.store.calls) level begun.room (is ∙ opened_level f d xs before mid begun)

  -- a whole call, whose statements may call others

  pub call_runs : (level : ℕ) (late after : Runtime) (value : Stored) (success : Bool) (old new : Devices) → level ≡ length mid.store.calls
      → Runs {X = Bool} itself any (chain program (call_at program (200 - level)) (mid.keywords.cap + 1) n) mid late old new (Ok success)
      → ((calls : List (List (ℕ × Stored))) (call : List (ℕ × Stored)) → late.store.calls ≡ calls ++ call ∷ []
      → Leaves calls call before.keywords.statement late after value)
      → Runs shown IsValueOf (call_at program (200 - length before.store.calls) f xs) before after old new (answered success value)
  call_runs level late after value success old new inside p leave =
      rw (deeper level inside) (left_runs late after value p.grows (leave before.store.calls (stored_call f d before) (innermost late p.calls))
      (200 - level) success old new p)

  -- one whose statements went to FRETURN, where what it would have given is let go
  pub call_failed : (level : ℕ) (late after : Runtime) (old new : Devices) → level ≡ length mid.store.calls
      → Runs {X = Bool} itself any (chain program (call_at program (200 - level)) (mid.keywords.cap + 1) n) mid late old new (Ok false)
      → ((calls : List (List (ℕ × Stored))) (call : List (ℕ × Stored)) → late.store.calls ≡ calls ++ call ∷ []
      → (value : Stored) × Leaves calls call before.keywords.statement late after value)
      → Runs {X = Stored} shown IsValueOf (call_at program (200 - length before.store.calls) f xs) before after old new (Err Failure)
  call_failed level late after old new inside p leave =
      let left = leave before.store.calls (stored_call f d before) (innermost late p.calls) in
      rw (deeper level inside) (left_runs late after left.0 p.grows left.1 (200 - level) false old new p)

  -- a chain of statements never fails
  pub call_ended : (level : ℕ) (late : Runtime) (old new : Devices) (x : Exit) → level ≡ length mid.store.calls
      → (◌≡◌ {A = Result Bool Exit} (Err x) (Err Failure) → ⊥)
      → Runs {X = Bool} itself any (chain program (call_at program (200 - level)) (mid.keywords.cap + 1) n) mid late old new (Err x)
      → Runs {X = Stored} shown IsValueOf (call_at program (200 - length before.store.calls) f xs) before late old new (Err x)
  call_ended level late old new Failure inside never p = absurd (never refl)
  call_ended level late old new (Halt why) inside never p = rw (deeper level inside) (halted_runs (200 - level) late old new why p)

-- a call that could not begin

pub not_begun : (program : Program) (f : ℕ) (d : Definition) (xs : List Value) (before mid : Runtime) (e : Devices) (x : Exit) → CanRun before e
    → length before.store.calls < 200 → Enters f d xs before mid (Err x)
    → Runs {X = Stored} shown IsValueOf (call_at program (200 - length before.store.calls) f xs) before mid e e (Err x)
not_begun program f d xs before mid e Failure can room began = absurd began
not_begun program f d xs before mid e (Halt (HasError code)) can room began = absurd (let n = began.1 in omega arith)
not_begun program f d xs before mid e (Halt (HasErrorIn code statement)) can room began = absurd began
not_begun program f d xs before mid e (Halt NoMemory) can room began =
    let act = call_at program (200 - length before.store.calls) f xs in
    rw began (does_runs shown IsValueOf act before before e (Err (Halt NoMemory)) can
    (no_memory_does shown IsValueOf act before before (grows_none before.nodes) refl))
not_begun program f d xs before mid e (Halt ReadFault) can room began = absurd began
not_begun program f d xs before mid e (Halt WriteFault) can room began = absurd began
not_begun program f d xs before mid e (Halt HasEnded) can room began = absurd began

pub call_refused : (program : Program) (f : ℕ) (xs : List Value) (s : Runtime) (e : Devices) (x : Exit) → CanRun s e → length s.store.calls ≤ 200
    → ((levels : ℕ) (xs : List Value) → levels + length s.store.calls ≡ 200 → Does {X = Stored} shown IsValueOf (call_at program levels f xs) s s (Err x))
    → Runs {X = Stored} shown IsValueOf (call_at program (200 - length s.store.calls) f xs) s s e e (Err x)
call_refused program f xs s e x can most refused = does_runs shown IsValueOf (call_at program (200 - length s.store.calls) f xs) s s e (Err x) can
    (refused (200 - length s.store.calls) xs (omega arith))
