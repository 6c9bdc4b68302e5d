-- How functions join that read and write what their actions do.
use Rattle.std.proofs.Common.{◌≡◌, ℕ, true, false, List, [], ◌++◌, refl, ap, sym, ◌∙◌, subst, append_assoc, arith, Option, None, Some, Result, Ok, Err}
use Rattle.std.proofs.Common.{OnOk}
use Rattle.std.proofs.lemmas.List.{append-nil}
use Rattle.sno_io.specs.Devices.{Begins, Drain, Feed}
use Rattle.sno_io.proofs.Bytes.{consumes_then, appends_then}
use Rattle.sno_pattern.specs.Table.{Node}
use Rattle.sno_runtime.specs.declared.stops.Exit.{Exit}
use Rattle.sno_runtime.specs.declared.stops.Exit.TheVariants.{Failure, Halt}
use Rattle.sno_runtime.specs.declared.stops.Stop.{Stop}
use Rattle.sno_runtime.specs.declared.stops.Stop.TheVariants.{Error as HasError, ErrorIn as HasErrorIn, NoMemory, ReadFault, WriteFault, Ended as HasEnded}
use Rattle.sno_runtime.specs.World.{World, Keywords}
use Rattle.sno_runtime.specs.Action.{Ending, Got, Fails, Stops, Outcome, Action, settled, settles, either, and_then, fails}
use Rattle.sno_runtime.specs.Runtime.{Runtime, world, IsReady, OnAnswer, OnGoing, itself}
use Rattle.sno_runtime.specs.inner.Runtime.{untouched, MeetsReading, Does, Reads, HasCause, any}
use Rattle.sno_runtime.specs.inner.Performs.{Ends, Performs}
use Rattle.sno_statement.specs.Running.{Devices, devices, CanRun, MeetsRunning, HasFault, Goes, Runs}
use Rattle.sno_runtime.proofs.Outcomes.{grows_twice, fails_does}
use Rattle.sno_runtime.proofs.Reading.{consumes_nothing, none_given, reads_nothing, same_reading, same_keywords, same_calls, ready_unread}
use Rattle.sno_runtime.proofs.Performing.{appends_nothing}

goes_not : (a b : Keywords) → b ≡ a → Goes a b
goes_not a b e = rw e (record { cap = refl; begun = omega arith })

goes_twice : (a b c : Keywords) → Goes a b → Goes b c → Goes a c
goes_twice a b c g h = let x = g.begun in let y = h.begun in record { cap = h.cap ∙ g.cap; begun = omega arith }

-- what holds wherever it ends

pub on_going : {X : Type 0} (r : Result X Exit) (P : Type 0) → P → OnGoing r P
on_going (Ok x) P h = h
on_going (Err Failure) P h = h
on_going (Err (Halt why)) P h = tt

on_going_then : {X : Type 0} (r : Result X Exit) (P Q : Type 0) → (P → Q) → OnGoing r P → OnGoing r Q
on_going_then (Ok x) P Q next h = next h
on_going_then (Err Failure) P Q next h = next h
on_going_then (Err (Halt why)) P Q next h = tt

-- what reads, and writes nothing

running_meets : {X A : Type 0} (see : X → A) (o : Outcome A) (w : World) (r : Result X Exit) → MeetsReading see o w r → MeetsRunning see o w [] r
running_meets see o w (Ok x) h = h
running_meets see o w (Err Failure) h = h
running_meets see o w (Err (Halt (HasError code))) h = h
running_meets see o w (Err (Halt NoMemory)) h = (o.wrote, refl)
running_meets see o w (Err (Halt ReadFault)) h = (o.wrote, refl)
running_meets see o w (Err (Halt WriteFault)) h = absurd h
running_meets see o w (Err (Halt (HasErrorIn code statement))) h = absurd h
running_meets see o w (Err (Halt HasEnded)) h = absurd h

running_ready : {X : Type 0} (r : Result X Exit) (s : Runtime) (f : Feed) (w : Drain) → w.broken ≡ false → OnGoing r (IsReady s f)
    → OnGoing r (CanRun s (devices f w))
running_ready (Ok x) s f w sound h = record { reads = h; writes = sound }
running_ready (Err Failure) s f w sound h = record { reads = h; writes = sound }
running_ready (Err (Halt why)) s f w sound h = tt

running_cause : {X A : Type 0} (see : X → A) (o : Outcome A) (v : World) (r : Result X Exit) (f : Feed) (w : Drain) → MeetsReading see o v r → HasCause r f
    → HasFault r (devices f w)
running_cause see o v (Ok x) f w m h = tt
running_cause see o v (Err Failure) f w m h = tt
running_cause see o v (Err (Halt (HasError code))) f w m h = tt
running_cause see o v (Err (Halt NoMemory)) f w m h = tt
running_cause see o v (Err (Halt ReadFault)) f w m h = h
running_cause see o v (Err (Halt WriteFault)) f w m h = absurd m
running_cause see o v (Err (Halt (HasErrorIn code statement))) f w m h = tt
running_cause see o v (Err (Halt HasEnded)) f w m h = tt

pub reads_runs : {X A : Type 0} (see : List Node → X → A) (fits : List Node → X → Type 0) (act : Action A) (a b : Runtime) (f g : Feed) (w : Drain)
    (r : Result X Exit) → w.broken ≡ false
    → Reads see fits act a b f g r → Runs see fits act a b (devices f w) (devices g w) r
reads_runs see fits act a b f g w r sound did = record {
  given = did.given;
  wrote = [];
  consumed = did.consumed;
  appends = appends_nothing w.taken;
  ended = did.ended;
  tells = did.tells;
  grows = did.grows;
  goes = goes_not a.keywords b.keywords did.kept;
  calls = on_going r (b.store.calls ≡ a.store.calls) did.calls;
  meets = λ more none. running_meets (see b.nodes) (act (world a (did.given ++ more))) (world b more) r (did.meets more none);
  answer = did.answer;
  ready = running_ready r b g w sound did.ready;
  cause = running_cause (see b.nodes) (act (world a (did.given ++ []))) (world b []) r g w (did.meets [] (λ told. refl)) did.cause;
}

-- what reads and writes nothing
pub does_runs : {X A : Type 0} (see : List Node → X → A) (fits : List Node → X → Type 0) (act : Action A) (a b : Runtime) (d : Devices) (r : Result X Exit)
    → CanRun a d → Does see fits act a b r → Runs see fits act a b d d r
does_runs see fits act a b d r can did =
    reads_runs see fits act a b d.reader d.reader d.writer r can.writes (reads_nothing see fits act a b d.reader r can.reads did)

-- what writes, and reads nothing

abbrev pub exited : {X : Type 0} → Result X Stop → Result X Exit
exited (Ok x) = Ok x
exited (Err why) = Err (Halt why)

performed_meets : (o : Outcome Unit) (w : World) (wrote : List ℕ) (r : Result Unit Stop) → Ends o w wrote r → MeetsRunning (λ done. done) o w wrote (exited r)
performed_meets o w wrote (Ok done) h = h
performed_meets o w wrote (Err (HasError code)) h = h
performed_meets o w wrote (Err NoMemory) h = h
performed_meets o w wrote (Err ReadFault) h = absurd h
performed_meets o w wrote (Err WriteFault) h = h
performed_meets o w wrote (Err (HasErrorIn code statement)) h = absurd h
performed_meets o w wrote (Err HasEnded) h = absurd h

performed_cause : (o : Outcome Unit) (w : World) (wrote : List ℕ) (r : Result Unit Stop) (d : Devices) → Ends o w wrote r
    → (r ≡ Err WriteFault → d.writer.broken ≡ true) → HasFault (exited r) d
performed_cause o w wrote (Ok done) d h fault = tt
performed_cause o w wrote (Err (HasError code)) d h fault = tt
performed_cause o w wrote (Err NoMemory) d h fault = tt
performed_cause o w wrote (Err ReadFault) d h fault = absurd h
performed_cause o w wrote (Err WriteFault) d h fault = fault refl
performed_cause o w wrote (Err (HasErrorIn code statement)) d h fault = tt
performed_cause o w wrote (Err HasEnded) d h fault = tt

performed_ready : (r : Result Unit Stop) (a b : Runtime) (f : Feed) (w : Drain) → untouched b ≡ untouched a → IsReady a f → OnOk r (w.broken ≡ false)
    → OnGoing (exited r) (CanRun b (devices f w))
performed_ready (Ok done) a b f w u ready sound = record { reads = ready_unread a b f u ready; writes = sound }
performed_ready (Err why) a b f w u ready sound = tt

performed_answer : (nodes : List Node) (r : Result Unit Stop) → OnAnswer {X = Unit} (any nodes) (exited r)
performed_answer nodes (Ok done) = tt
performed_answer nodes (Err why) = tt

pub performs_runs : (act : Action Unit) (a b : Runtime) (f : Feed) (v w : Drain) (r : Result Unit Stop) → IsReady a f → b.nodes ≡ a.nodes
    → OnOk r (w.broken ≡ false) → (r ≡ Err WriteFault → w.broken ≡ true)
    → Performs act a b v.taken w.taken r → Runs {X = Unit} itself any act a b (devices f v) (devices f w) (exited r)
performs_runs act a b f v w r ready nodes sound fault did = record {
  given = [];
  wrote = did.wrote;
  consumed = consumes_nothing f.left;
  appends = did.appends;
  ended = λ told. (refl, rw (same_reading a b did.unread) told);
  tells = (ready_unread a b f did.unread ready).same;
  grows = ([], nodes ∙ sym (append-nil a.nodes));
  goes = goes_not a.keywords b.keywords (same_keywords a b did.unread);
  calls = on_going (exited r) (b.store.calls ≡ a.store.calls) (same_calls a b did.unread);
  meets = λ more none. performed_meets (act (world a more)) (world b more) did.wrote r (did.ends more);
  answer = performed_answer b.nodes r;
  ready = performed_ready r a b f w did.unread ready sound;
  cause = performed_cause (act (world a [])) (world b []) did.wrote r (devices f w) (did.ends []) fault;
}

-- one action, and what follows its value

begins_behind : (front wrote whole : List ℕ) → Begins wrote whole → Begins (front ++ wrote) (front ++ whole)
begins_behind front wrote whole h = (h.0, append_assoc front wrote h.0 ∙ ap (λ bytes. front ++ bytes) h.1)

meets_behind : {Y B : Type 0} (look : Y → B) (o : Outcome B) (w : World) (front wrote : List ℕ) (r : Result Y Exit) → MeetsRunning look o w wrote r
    → MeetsRunning look (record { ending = o.ending; world = o.world; wrote = front ++ o.wrote }) w (front ++ wrote) r
meets_behind look o w front wrote (Ok y) h = ap (λ (p : Outcome _). record { ending = p.ending; world = p.world; wrote = front ++ p.wrote }) h
meets_behind look o w front wrote (Err Failure) h = ap (λ (p : Outcome _). record { ending = p.ending; world = p.world; wrote = front ++ p.wrote }) h
meets_behind look o w front wrote (Err (Halt (HasError code))) h = (h.0, ap (λ bytes. front ++ bytes) h.1)
meets_behind look o w front wrote (Err (Halt NoMemory)) h = begins_behind front wrote o.wrote h
meets_behind look o w front wrote (Err (Halt ReadFault)) h = begins_behind front wrote o.wrote h
meets_behind look o w front wrote (Err (Halt WriteFault)) h = begins_behind front wrote o.wrote h
meets_behind look o w front wrote (Err (Halt (HasErrorIn code statement))) h = (h.0, ap (λ bytes. front ++ bytes) h.1)
meets_behind look o w front wrote (Err (Halt HasEnded)) h = (h.0, ap (λ bytes. front ++ bytes) h.1)

settled_got : {Y A B : Type 0} (look : Y → B) (k : Option A → Action B) (o : Outcome A) (x : A) (v w : World) (front wrote : List ℕ) (r : Result Y Exit)
    → o ≡ record { ending = Got x; world = v; wrote = front } → MeetsRunning look (k (Some x) v) w wrote r
    → MeetsRunning look (settled o.ending o.world o.wrote k) w (front ++ wrote) r
settled_got look k o x v w front wrote r is h =
    subst (λ (q : Outcome _). MeetsRunning look (settled q.ending q.world q.wrote k) w (front ++ wrote) r) (sym is)
    (meets_behind look (k (Some x) v) w front wrote r h)

settled_fails : {Y A B : Type 0} (look : Y → B) (k : Option A → Action B) (o : Outcome A) (v w : World) (front wrote : List ℕ) (r : Result Y Exit)
    → o ≡ record { ending = Fails; world = v; wrote = front } → MeetsRunning look (k None v) w wrote r
    → MeetsRunning look (settled o.ending o.world o.wrote k) w (front ++ wrote) r
settled_fails look k o v w front wrote r is h =
    subst (λ (q : Outcome _). MeetsRunning look (settled q.ending q.world q.wrote k) w (front ++ wrote) r) (sym is)
    (meets_behind look (k None v) w front wrote r h)

pub runs_got : {X Y A B : Type 0} (see : List Node → X → A) (fits : List Node → X → Type 0) (look : List Node → Y → B) (suits : List Node → Y → Type 0)
    (act : Action A) (k : Option A → Action B) (a b c : Runtime) (d e f : Devices) (x : X) (r : Result Y Exit)
    → Runs see fits act a b d e (Ok x) → Runs look suits (k (Some (see b.nodes x))) b c e f r → Runs look suits (settles act k) a c d f r
unfolding settles
runs_got {A = A} see fits look suits act k a b c d e f x r p q = record {
  given = p.given ++ q.given;
  wrote = p.wrote ++ q.wrote;
  consumed = consumes_then d.reader.left e.reader.left f.reader.left p.given q.given p.consumed q.consumed;
  appends = appends_then d.writer.taken e.writer.taken f.writer.taken p.wrote q.wrote p.appends q.appends;
  ended = λ told. let m = p.ended told in let n = q.ended m.1 in (none_given p.given q.given m.0 n.0, n.1);
  tells = q.tells;
  grows = grows_twice a.nodes b.nodes c.nodes p.grows q.grows;
  goes = goes_twice a.keywords b.keywords c.keywords p.goes q.goes;
  calls = on_going_then r (c.store.calls ≡ b.store.calls) (c.store.calls ≡ a.store.calls) (λ same. same ∙ p.calls) q.calls;
  meets = λ more none.
      subst (λ (bytes : List ℕ). MeetsRunning (look c.nodes) (settled (act (world a bytes)).ending (act (world a bytes)).world (act (world a bytes)).wrote k)
      (world c more) (p.wrote ++ q.wrote) r) (sym (append_assoc p.given q.given more))
      (settled_got (look c.nodes) k (act (world a (p.given ++ (q.given ++ more)))) (see b.nodes x) (world b (q.given ++ more)) (world c more) p.wrote q.wrote r
      (p.meets (q.given ++ more) (λ told. let n = q.ended told in none_given q.given more n.0 (none n.1))) (q.meets more none));
  answer = q.answer;
  ready = q.ready;
  cause = q.cause;
}

pub runs_failed : {X Y A B : Type 0} (see : List Node → X → A) (fits : List Node → X → Type 0) (look : List Node → Y → B) (suits : List Node → Y → Type 0)
    (act : Action A) (k : Option A → Action B) (a b c : Runtime) (d e f : Devices) (r : Result Y Exit)
    → Runs {X = X} see fits act a b d e (Err Failure) → Runs look suits (k None) b c e f r → Runs look suits (settles act k) a c d f r
unfolding settles
runs_failed {A = A} see fits look suits act k a b c d e f r p q = record {
  given = p.given ++ q.given;
  wrote = p.wrote ++ q.wrote;
  consumed = consumes_then d.reader.left e.reader.left f.reader.left p.given q.given p.consumed q.consumed;
  appends = appends_then d.writer.taken e.writer.taken f.writer.taken p.wrote q.wrote p.appends q.appends;
  ended = λ told. let m = p.ended told in let n = q.ended m.1 in (none_given p.given q.given m.0 n.0, n.1);
  tells = q.tells;
  grows = grows_twice a.nodes b.nodes c.nodes p.grows q.grows;
  goes = goes_twice a.keywords b.keywords c.keywords p.goes q.goes;
  calls = on_going_then r (c.store.calls ≡ b.store.calls) (c.store.calls ≡ a.store.calls) (λ same. same ∙ p.calls) q.calls;
  meets = λ more none.
      subst (λ (bytes : List ℕ). MeetsRunning (look c.nodes) (settled (act (world a bytes)).ending (act (world a bytes)).world (act (world a bytes)).wrote k)
      (world c more) (p.wrote ++ q.wrote) r) (sym (append_assoc p.given q.given more))
      (settled_fails (look c.nodes) k (act (world a (p.given ++ (q.given ++ more)))) (world b (q.given ++ more)) (world c more) p.wrote q.wrote r
      (p.meets (q.given ++ more) (λ told. let n = q.ended told in none_given q.given more n.0 (none n.1))) (q.meets more none));
  answer = q.answer;
  ready = q.ready;
  cause = q.cause;
}

begins_settled : {A B : Type 0} (end : Ending A) (w : World) (xs wrote : List ℕ) (k : Option A → Action B) → Begins wrote xs
    → Begins wrote (settled end w xs k).wrote
begins_settled (Got x) w xs wrote k h =
    (h.0 ++ (k (Some x) w).wrote, sym (append_assoc wrote h.0 (k (Some x) w).wrote) ∙ ap (λ bytes. bytes ++ (k (Some x) w).wrote) h.1)
begins_settled Fails w xs wrote k h = (h.0 ++ (k None w).wrote, sym (append_assoc wrote h.0 (k None w).wrote) ∙ ap (λ bytes. bytes ++ (k None w).wrote) h.1)
begins_settled (Stops why) w xs wrote k h = h

settled_halt : {X Y A B : Type 0} (see : X → A) (look : Y → B) (k : Option A → Action B) (o : Outcome A) (w : World) (wrote : List ℕ) (why : Stop)
    → MeetsRunning {X = X} see o w wrote (Err (Halt why))
    → MeetsRunning {X = Y} look (settled o.ending o.world o.wrote k) w wrote (Err (Halt why))
settled_halt see look k o w wrote (HasError code) h = rw h.0 (refl, h.1)
settled_halt see look k o w wrote NoMemory h = begins_settled o.ending o.world o.wrote wrote k h
settled_halt see look k o w wrote ReadFault h = begins_settled o.ending o.world o.wrote wrote k h
settled_halt see look k o w wrote WriteFault h = begins_settled o.ending o.world o.wrote wrote k h
settled_halt see look k o w wrote (HasErrorIn code statement) h = rw h.0 (refl, h.1)
settled_halt see look k o w wrote HasEnded h = rw h.0 (refl, h.1)

same_fault : (X Y : Type 0) (why : Stop) (d : Devices) → HasFault {X = X} (Err (Halt why)) d → HasFault {X = Y} (Err (Halt why)) d
same_fault X Y (HasError code) d h = tt
same_fault X Y NoMemory d h = tt
same_fault X Y ReadFault d h = h
same_fault X Y WriteFault d h = h
same_fault X Y (HasErrorIn code statement) d h = tt
same_fault X Y HasEnded d h = tt

pub runs_halt : {X Y A B : Type 0} (see : List Node → X → A) (fits : List Node → X → Type 0) (look : List Node → Y → B) (suits : List Node → Y → Type 0)
    (act : Action A) (k : Option A → Action B) (a b : Runtime) (d e : Devices) (why : Stop)
    → Runs {X = X} see fits act a b d e (Err (Halt why)) → Runs {X = Y} look suits (settles act k) a b d e (Err (Halt why))
unfolding settles
runs_halt {X = X} {Y = Y} see fits look suits act k a b d e why p = record {
  given = p.given;
  wrote = p.wrote;
  consumed = p.consumed;
  appends = p.appends;
  ended = p.ended;
  tells = p.tells;
  grows = p.grows;
  goes = p.goes;
  calls = tt;
  meets = λ more none. settled_halt (see b.nodes) (look b.nodes) k (act (world a (p.given ++ more))) (world b more) p.wrote why (p.meets more none);
  answer = tt;
  ready = tt;
  cause = same_fault X Y why e p.cause;
}

-- the same of what goes on only with a value

pub then_runs : {X Y A B : Type 0} (see : List Node → X → A) (fits : List Node → X → Type 0) (look : List Node → Y → B) (suits : List Node → Y → Type 0)
    (act : Action A) (next : A → Action B) (a b c : Runtime) (d e f : Devices) (x : X) (r : Result Y Exit)
    → Runs see fits act a b d e (Ok x) → Runs look suits (next (see b.nodes x)) b c e f r → Runs look suits (and_then act next) a c d f r
then_runs see fits look suits act next a b c d e f x r p q = runs_got see fits look suits act (either fails next) a b c d e f x r p q

pub then_ended : {X Y A B : Type 0} (see : List Node → X → A) (fits : List Node → X → Type 0) (look : List Node → Y → B) (suits : List Node → Y → Type 0)
    (act : Action A) (next : A → Action B) (a b : Runtime) (d e : Devices) (x : Exit)
    → Runs {X = X} see fits act a b d e (Err x) → Runs {X = Y} look suits (and_then act next) a b d e (Err x)
then_ended see fits look suits act next a b d e Failure p =
    runs_failed see fits look suits act (either fails next) a b b d e e (Err Failure) p
    (does_runs look suits fails b b e (Err Failure) p.ready (fails_does look suits b))
then_ended see fits look suits act next a b d e (Halt why) p = runs_halt see fits look suits act (either fails next) a b d e why p

-- a result that is known to be another
pub answered : {X A : Type 0} {see : List Node → X → A} {fits : List Node → X → Type 0} {act : Action A} {a b : Runtime} {d e : Devices} {r s : Result X Exit}
    → r ≡ s → Runs see fits act a b d e s → Runs see fits act a b d e r
answered {X} {see = see} {fits = fits} {act = act} {a = a} {b = b} {d = d} {e = e} same did =
    subst (λ (result : Result X Exit). Runs see fits act a b d e result) (sym same) did
