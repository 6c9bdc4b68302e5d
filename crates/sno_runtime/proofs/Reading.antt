-- How functions join that read what their actions read.
use Rattle.std.proofs.Common.{◌≡◌, ℕ, List, [], ◌++◌, refl, ap, sym, ◌∙◌, subst, append_assoc, Option, None, Some, Result, Ok, Err}
use Rattle.std.specs.Io.KnownBytes.{Consumes}
use Rattle.sno_io.proofs.Bytes.{consumes_then}
use Rattle.sno_value.specs.declared.value.Value.{Value as Stored}
use Rattle.sno_pattern.specs.Table.{Node}
use Rattle.sno_runtime.specs.declared.stops.Exit.{Exit}
use Rattle.sno_runtime.specs.declared.stops.Exit.TheVariants.{Failure, Halt}
use Rattle.sno_runtime.specs.declared.stops.Stop.{Stop}
use Rattle.sno_runtime.specs.declared.stops.Stop.TheVariants.{Error as HasError, ErrorIn as HasErrorIn, NoMemory, ReadFault, WriteFault, Ended as HasEnded}
use Rattle.sno_io.specs.Lines.{Input}
use Rattle.sno_runtime.specs.World.{World, Keywords}
use Rattle.sno_runtime.specs.Action.{Outcome, Action, settled, settles, either, and_then, fails}
use Rattle.sno_runtime.specs.Runtime.{Runtime, world, IsReady, OnGoing}
use Rattle.sno_runtime.specs.inner.Runtime.{untouched, Meets, MeetsReading, Does, Reads, HasCause}
use Rattle.sno_io.specs.Devices.{Feed}
use Rattle.sno_runtime.proofs.Outcomes.{grows_twice, fails_does}

pub consumes_nothing : (left : Option (List ℕ)) → Consumes left left []
consumes_nothing None = tt
consumes_nothing (Some bytes) = refl

reading_meets : {X A : Type 0} (see : X → A) (o : Outcome A) (w : World) (r : Result X Exit) → Meets see o w r → MeetsReading see o w r
reading_meets see o w (Ok x) h = h
reading_meets see o w (Err Failure) h = h
reading_meets see o w (Err (Halt (HasError code))) h = h
reading_meets see o w (Err (Halt NoMemory)) h = tt
reading_meets see o w (Err (Halt ReadFault)) h = tt
reading_meets see o w (Err (Halt WriteFault)) h = h
reading_meets see o w (Err (Halt (HasErrorIn code statement))) h = h
reading_meets see o w (Err (Halt HasEnded)) h = h

going_on : {X : Type 0} (r : Result X Exit) (P : Type 0) → P → OnGoing r P
going_on (Ok x) P h = h
going_on (Err Failure) P h = h
going_on (Err (Halt why)) P h = tt

unfaulted : {X A : Type 0} (see : X → A) (o : Outcome A) (w : World) (r : Result X Exit) (f : Feed) → Meets see o w r → HasCause r f
unfaulted see o w (Ok x) f h = tt
unfaulted see o w (Err Failure) f h = tt
unfaulted see o w (Err (Halt (HasError code))) f h = tt
unfaulted see o w (Err (Halt NoMemory)) f h = tt
unfaulted see o w (Err (Halt ReadFault)) f h = absurd h
unfaulted see o w (Err (Halt WriteFault)) f h = tt
unfaulted see o w (Err (Halt (HasErrorIn code statement))) f h = tt
unfaulted see o w (Err (Halt HasEnded)) f h = tt

pub same_reading : (a b : Runtime) → untouched b ≡ untouched a → b.reading ≡ a.reading
same_reading a b u = ap (λ (p : Input × Keywords × List (List (ℕ × Stored))). p.0) u

pub same_keywords : (a b : Runtime) → untouched b ≡ untouched a → b.keywords ≡ a.keywords
same_keywords a b u = ap (λ (p : Input × Keywords × List (List (ℕ × Stored))). p.1) u

pub same_calls : (a b : Runtime) → untouched b ≡ untouched a → b.store.calls ≡ a.store.calls
same_calls a b u = ap (λ (p : Input × Keywords × List (List (ℕ × Stored))). p.2) u

pub ready_unread : (a b : Runtime) (f : Feed) → untouched b ≡ untouched a → IsReady a f → IsReady b f
ready_unread a b f u ready = let s = same_reading a b u in record { going = rw s ready.going; same = λ told. ready.same (rw s at told); sound = ready.sound }

-- what reads nothing
pub reads_nothing : {X A : Type 0} (see : List Node → X → A) (fits : List Node → X → Type 0) (act : Action A) (a b : Runtime) (f : Feed) (r : Result X Exit)
    → IsReady a f → Does see fits act a b r → Reads see fits act a b f f r
reads_nothing see fits act a b f r ready did = record {
  given = [];
  consumed = consumes_nothing f.left;
  ended = λ told. (refl, rw (same_reading a b did.unread) told);
  grows = did.grows;
  meets = λ more none. reading_meets (see b.nodes) (act (world a more)) (world b more) r (did.meets more);
  answer = did.answer;
  kept = same_keywords a b did.unread;
  calls = same_calls a b did.unread;
  tells = (ready_unread a b f did.unread ready).same;
  ready = going_on r (IsReady b f) (ready_unread a b f did.unread ready);
  cause = unfaulted (see b.nodes) (act (world a [])) (world b []) r f (did.meets []);
}

-- an action that ended in one way, and what follows that

settled_reading : {Y A B : Type 0} (look : Y → B) (k : Option A → Action B) (o p : Outcome A) (w : World) (r : Result Y Exit) → o ≡ p
    → MeetsReading {X = Y} look (settled p.ending p.world p.wrote k) w r → MeetsReading look (settled o.ending o.world o.wrote k) w r
settled_reading look k o p w r is h = subst (λ (q : Outcome _). MeetsReading look (settled q.ending q.world q.wrote k) w r) (sym is) h

pub none_given : (first second : List ℕ) → first ≡ [] → second ≡ [] → first ++ second ≡ []
none_given first second h k = rw (h, k) refl

pub reads_got : {X Y A B : Type 0} (see : List Node → X → A) (fits : List Node → X → Type 0) (look : List Node → Y → B) (suits : List Node → Y → Type 0)
    (act : Action A) (k : Option A → Action B) (a b c : Runtime) (f g h : Feed) (x : X) (r : Result Y Exit)
    → Reads see fits act a b f g (Ok x) → Reads look suits (k (Some (see b.nodes x))) b c g h r → Reads look suits (settles act k) a c f h r
unfolding settles
reads_got {A = A} see fits look suits act k a b c f g h x r p q = record {
  given = p.given ++ q.given;
  consumed = consumes_then f.left g.left h.left p.given q.given p.consumed q.consumed;
  ended = λ told. let m = p.ended told in let n = q.ended m.1 in (none_given p.given q.given m.0 n.0, n.1);
  grows = grows_twice a.nodes b.nodes c.nodes p.grows q.grows;
  meets = λ more none.
      subst (λ (bytes : List ℕ). MeetsReading (look c.nodes) (settled (act (world a bytes)).ending (act (world a bytes)).world (act (world a bytes)).wrote k)
      (world c more) r) (sym (append_assoc p.given q.given more))
      (settled_reading (look c.nodes) k (act (world a (p.given ++ (q.given ++ more)))) _ (world c more) r
      (p.meets (q.given ++ more) (λ told. let n = q.ended told in none_given q.given more n.0 (none n.1))) (q.meets more none));
  answer = q.answer;
  kept = q.kept ∙ p.kept;
  calls = q.calls ∙ p.calls;
  tells = q.tells;
  ready = q.ready;
  cause = q.cause;
}

pub reads_failed : {X Y A B : Type 0} (see : List Node → X → A) (fits : List Node → X → Type 0) (look : List Node → Y → B) (suits : List Node → Y → Type 0)
    (act : Action A) (k : Option A → Action B) (a b c : Runtime) (f g h : Feed) (r : Result Y Exit)
    → Reads {X = X} see fits act a b f g (Err Failure) → Reads look suits (k None) b c g h r → Reads look suits (settles act k) a c f h r
unfolding settles
reads_failed {A = A} see fits look suits act k a b c f g h r p q = record {
  given = p.given ++ q.given;
  consumed = consumes_then f.left g.left h.left p.given q.given p.consumed q.consumed;
  ended = λ told. let m = p.ended told in let n = q.ended m.1 in (none_given p.given q.given m.0 n.0, n.1);
  grows = grows_twice a.nodes b.nodes c.nodes p.grows q.grows;
  meets = λ more none.
      subst (λ (bytes : List ℕ). MeetsReading (look c.nodes) (settled (act (world a bytes)).ending (act (world a bytes)).world (act (world a bytes)).wrote k)
      (world c more) r) (sym (append_assoc p.given q.given more))
      (settled_reading (look c.nodes) k (act (world a (p.given ++ (q.given ++ more)))) _ (world c more) r
      (p.meets (q.given ++ more) (λ told. let n = q.ended told in none_given q.given more n.0 (none n.1))) (q.meets more none));
  answer = q.answer;
  kept = q.kept ∙ p.kept;
  calls = q.calls ∙ p.calls;
  tells = q.tells;
  ready = q.ready;
  cause = q.cause;
}

settled_halt : {X Y A B : Type 0} (see : X → A) (look : Y → B) (k : Option A → Action B) (o : Outcome A) (w : World) (why : Stop)
    → MeetsReading {X = X} see o w (Err (Halt why)) → MeetsReading {X = Y} look (settled o.ending o.world o.wrote k) w (Err (Halt why))
settled_halt see look k o w (HasError code) h = rw h.0 (refl, h.1)
settled_halt see look k o w NoMemory h = tt
settled_halt see look k o w ReadFault h = tt
settled_halt see look k o w WriteFault h = h
settled_halt see look k o w (HasErrorIn code statement) h = h
settled_halt see look k o w HasEnded h = h

same_cause : (X Y : Type 0) (why : Stop) (f : Feed) → HasCause {X = X} (Err (Halt why)) f → HasCause {X = Y} (Err (Halt why)) f
same_cause X Y (HasError code) f h = tt
same_cause X Y NoMemory f h = tt
same_cause X Y ReadFault f h = h
same_cause X Y WriteFault f h = tt
same_cause X Y (HasErrorIn code statement) f h = tt
same_cause X Y HasEnded f h = tt

pub reads_halt : {X Y A B : Type 0} (see : List Node → X → A) (fits : List Node → X → Type 0) (look : List Node → Y → B) (suits : List Node → Y → Type 0)
    (act : Action A) (k : Option A → Action B) (a b : Runtime) (f g : Feed) (why : Stop)
    → Reads {X = X} see fits act a b f g (Err (Halt why)) → Reads {X = Y} look suits (settles act k) a b f g (Err (Halt why))
unfolding settles
reads_halt {X = X} {Y = Y} see fits look suits act k a b f g why p = record {
  given = p.given;
  consumed = p.consumed;
  ended = p.ended;
  grows = p.grows;
  meets = λ more none. settled_halt (see b.nodes) (look b.nodes) k (act (world a (p.given ++ more))) (world b more) why (p.meets more none);
  answer = tt;
  kept = p.kept;
  calls = p.calls;
  tells = p.tells;
  ready = tt;
  cause = same_cause X Y why g p.cause;
}

-- the same of what goes on only with a value

pub then_reads : {X Y A B : Type 0} (see : List Node → X → A) (fits : List Node → X → Type 0) (look : List Node → Y → B) (suits : List Node → Y → Type 0)
    (act : Action A) (next : A → Action B) (a b c : Runtime) (f g h : Feed) (x : X) (r : Result Y Exit)
    → Reads see fits act a b f g (Ok x) → Reads look suits (next (see b.nodes x)) b c g h r → Reads look suits (and_then act next) a c f h r
then_reads see fits look suits act next a b c f g h x r p q = reads_got see fits look suits act (either fails next) a b c f g h x r p q

pub then_unread : {X Y A B : Type 0} (see : List Node → X → A) (fits : List Node → X → Type 0) (look : List Node → Y → B) (suits : List Node → Y → Type 0)
    (act : Action A) (next : A → Action B) (a b : Runtime) (f g : Feed) (e : Exit)
    → Reads {X = X} see fits act a b f g (Err e) → Reads {X = Y} look suits (and_then act next) a b f g (Err e)
then_unread see fits look suits act next a b f g Failure p =
    reads_failed see fits look suits act (either fails next) a b b f g g (Err Failure) p
    (reads_nothing look suits fails b b g (Err Failure) p.ready (fails_does look suits b))
then_unread see fits look suits act next a b f g (Halt why) p = reads_halt see fits look suits act (either fails next) a b f g why p
