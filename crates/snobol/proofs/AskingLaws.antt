-- A machine that is asked: what its calls answer, and why there is none.
use Rattle.std.proofs.Common.{◌≡◌, if◌then◌else◌, ℕ, suc, ◌-◌, drop, ◌==◌, ◌<◌, ◌≤◌, inl, inr, sym, slice_get, arith, nat_lt, Bool, true, false, List, [], ◌∷◌}
use Rattle.std.proofs.Common.{length, refl, ap, subst, Option, None, Some, Result, Ok, Err, IfOk, IfSome}
use Rattle.std.proofs.lemmas.List.{length-append, length-take, length-drop}
use Rattle.std.specs.Result.{result_err}
use Rattle.sno_io.specs.declared.jobs.Limits.{Limits}
use Rattle.sno_store.specs.Store.{is_symbol}
use Rattle.sno_pattern.specs.Table.{Node as Part}
use Rattle.sno_text.specs.declared.node.Node.{Node}
use Rattle.sno_text.specs.declared.node.Node.TheVariants as nodes
use Rattle.sno_text.specs.declared.node.Span.{Span}
use Rattle.sno_text.specs.Program.{Program, IsTable, IsNamed, SpansWithin}
use Rattle.sno_expression.specs.Forms.{token}
use Rattle.sno_runtime.specs.declared.stops.Exit.{Exit}
use Rattle.sno_runtime.specs.declared.stops.Exit.TheVariants.{Failure, Halt}
use Rattle.sno_runtime.specs.declared.stops.Stop.TheVariants.{Error as HasError, ErrorIn as HasErrorIn, NoMemory, ReadFault, WriteFault, Ended as HasEnded}
use Rattle.snobol.specs.declared.execution.Outcome.TheVariants as ran
use Rattle.sno_runtime.specs.World.{World, new_keywords}
use Rattle.sno_runtime.specs.Action.{Error, Ending, Got, Fails, Stops, Outcome, Action, settled, settles, either, and_then, gives, fails}
use Rattle.sno_runtime.specs.Variables.{variable_named}
use Rattle.snobol.specs.Meaning.{name_in, joins_name, joins_names}
use Rattle.sno_runtime.specs.Runtime.{Runtime, Grows, OnAnswer, OnGoing, itself}
use Rattle.sno_runtime.specs.inner.Runtime.{new_runtime, Does, any}
use Rattle.sno_statement.specs.Running.{Devices, HasFault}
use Rattle.snobol.specs.Running.{ran_in}
use Rattle.snobol.specs.Machine.{answered, stopped_by, IsTooMuch, IsRefusal}

-- what a call answers

pub stop_told : {X : Type 0} (r : Result X Exit) → result_err (answered r) ≡ stopped_by r
stop_told (Ok x) = refl
stop_told (Err Failure) = refl
stop_told (Err (Halt why)) = refl

pub write_fault_told : {X : Type 0} (r : Result X Exit) (d : Devices) → HasFault r d → answered r ≡ Err ran.WriteFault → d.writer.broken ≡ true
write_fault_told (Ok x) d h e = absurd (cc e)
write_fault_told (Err Failure) d h e = absurd (cc e)
write_fault_told (Err (Halt (HasError code))) d h e = absurd (cc e)
write_fault_told (Err (Halt NoMemory)) d h e = absurd (cc e)
write_fault_told (Err (Halt ReadFault)) d h e = absurd (cc e)
write_fault_told (Err (Halt WriteFault)) d h e = h
write_fault_told (Err (Halt (HasErrorIn code statement))) d h e = absurd (cc e)
write_fault_told (Err (Halt HasEnded)) d h e = absurd (cc e)

pub read_fault_told : {X : Type 0} (r : Result X Exit) (d : Devices) → HasFault r d → answered r ≡ Err ran.ReadFault → d.reader.broken ≡ true
read_fault_told (Ok x) d h e = absurd (cc e)
read_fault_told (Err Failure) d h e = absurd (cc e)
read_fault_told (Err (Halt (HasError code))) d h e = absurd (cc e)
read_fault_told (Err (Halt NoMemory)) d h e = absurd (cc e)
read_fault_told (Err (Halt ReadFault)) d h e = h
read_fault_told (Err (Halt WriteFault)) d h e = absurd (cc e)
read_fault_told (Err (Halt (HasErrorIn code statement))) d h e = absurd (cc e)
read_fault_told (Err (Halt HasEnded)) d h e = absurd (cc e)

-- what holds wherever it goes on, and of what is answered

pub going_told : {X : Type 0} (r : Result X Exit) (P : Type 0) → OnGoing r P → result_err (answered r) ≡ None → P
going_told (Ok x) P h e = h
going_told (Err Failure) P h e = h
going_told (Err (Halt why)) P h e = absurd (cc e)

pub answer_told : {X : Type 0} (r : Result X Exit) (P : X → Type 0) → OnAnswer P r → IfOk (answered r) (λ answer. IfSome answer P)
answer_told (Ok x) P h = h
answer_told (Err Failure) P h = tt
answer_told (Err (Halt why)) P h = tt

pub nodes_kept : (old new : List Part) → Grows old new → length old ≤ length new
nodes_kept old new g = let n = length-append old g.0 in rw g.1 (omega arith)

-- that names join the symbols never fails

abbrev FailsNot : {A : Type 0} → Outcome A → Type 0
FailsNot o = o.ending ≡ Fails → ⊥

if_fails_not : {A : Type 0} (b : Bool) (o p : Outcome A) → FailsNot o → FailsNot p → FailsNot (if b then o else p)
if_fails_not true o p h k = h
if_fails_not false o p h k = k

then_fails_not : {A B : Type 0} (act : Action A) (next : A → Action B) (w : World) → FailsNot (act w) → ((x : A) (v : World) → FailsNot (next x v))
    → FailsNot (and_then act next w)
unfolding settles
then_fails_not {A} act next w h k = by (act w).ending (act w).world (act w).wrote h
  where
    by : (end : Ending A) (v : World) (wrote : List ℕ) → (end ≡ Fails → ⊥) → FailsNot (settled end v wrote (either fails next))
    by (Got x) v wrote g = k x v
    by Fails v wrote g = λ e. g refl
    by (Stops why) v wrote g = λ e. absurd (cc e)

variable_fails_not : (bytes : List ℕ) (w : World) → FailsNot (variable_named bytes w)
variable_fails_not [] w = λ e. absurd (cc e)
variable_fails_not (byte ∷ bytes) w =
    if_fails_not (nat_lt 1_000_000 (length (byte ∷ bytes))) _ _ (λ e. absurd (cc e))
    (if_fails_not (is_symbol (byte ∷ bytes) w.symbols) _ _ (λ e. absurd (cc e))
    (if_fails_not (length w.symbols == 1_000_000) _ _ (λ e. absurd (cc e)) (λ e. absurd (cc e))))

name_fails_not : (name : Option (List ℕ)) (w : World) → FailsNot (joins_name name w)
name_fails_not None w = λ e. absurd (cc e)
name_fails_not (Some bytes) w = then_fails_not (variable_named bytes) (λ target. gives (tt {0})) w (variable_fails_not bytes w) (λ x v e. absurd (cc e))

names_fail_not : (text : List ℕ) (nodes : List Node) (w : World) → FailsNot (joins_names text nodes w)
names_fail_not text [] w = λ e. absurd (cc e)
names_fail_not text (node ∷ nodes) w = then_fails_not (joins_name (name_in text node)) (λ done. joins_names text nodes) w (name_fails_not (name_in text node) w)
    (λ done v. names_fail_not text nodes v)

-- and that nothing but a name that is too long, or one more than there may be, ends it

abbrev StopsAsMeant : {A : Type 0} → Outcome A → Type 0
StopsAsMeant o = (code : ℕ) → o.ending ≡ Stops (Error code) → IsTooMuch code

if_stops : {A : Type 0} (b : Bool) (o p : Outcome A) → StopsAsMeant o → StopsAsMeant p → StopsAsMeant (if b then o else p)
if_stops true o p h k = h
if_stops false o p h k = k

then_stops : {A B : Type 0} (act : Action A) (next : A → Action B) (w : World) → StopsAsMeant (act w) → ((x : A) (v : World) → StopsAsMeant (next x v))
    → StopsAsMeant (and_then act next w)
unfolding settles
then_stops {A} act next w h k = by (act w).ending (act w).world (act w).wrote h
  where
    by : (end : Ending A) (v : World) (wrote : List ℕ) → ((code : ℕ) → end ≡ Stops (Error code) → IsTooMuch code)
        → StopsAsMeant (settled end v wrote (either fails next))
    by (Got x) v wrote g = k x v
    by Fails v wrote g = λ code e. absurd (cc e)
    by (Stops why) v wrote g = λ code e. g code (cc e)

variable_stops : (bytes : List ℕ) (w : World) → 0 < length bytes → StopsAsMeant (variable_named bytes w)
variable_stops [] w h = absurd (omega arith)
variable_stops (byte ∷ bytes) w h =
    if_stops (nat_lt 1_000_000 (length (byte ∷ bytes))) _ _ (λ code e. inr (let same : Error 8 ≡ Error code = cc e in sym (cc same)))
    (if_stops (is_symbol (byte ∷ bytes) w.symbols) _ _ (λ code e. absurd (cc e))
    (if_stops (length w.symbols == 1_000_000) _ _ (λ code e. inl (let same : Error 9 ≡ Error code = cc e in sym (cc same))) (λ code e. absurd (cc e))))

name_stops : (name : Option (List ℕ)) (w : World) → IfSome name (λ bytes. 0 < length bytes) → StopsAsMeant (joins_name name w)
name_stops None w h = λ code e. absurd (cc e)
name_stops (Some bytes) w h = then_stops (variable_named bytes) (λ target. gives (tt {0})) w (variable_stops bytes w h) (λ x v code e. absurd (cc e))

token_some : (text : List ℕ) (span : Span) → span.start < span.end → span.end ≤ length text → 0 < length (token text span)
token_some text span some within =
    omega (arith, length-take (span.end - span.start) (drop span.start text), length-drop span.start text)

some_of : (o : Option (List ℕ)) → ((bytes : List ℕ) → o ≡ Some bytes → 0 < length bytes) → IfSome o (λ bytes. 0 < length bytes)
some_of None f = tt
some_of (Some bytes) f = f bytes refl

-- the name of a node of a table is not null
named_some : (text : List ℕ) (node : Node) → IsNamed node → SpansWithin node (length text) → IfSome (name_in text node) (λ bytes. 0 < length bytes)
named_some text (nodes.Variable span) h w = token_some text span h w.1
named_some text (nodes.Integer value) h w = tt
named_some text (nodes.Literal span) h w = tt
named_some text (nodes.Keyword span) h w = tt
named_some text (nodes.Unary o a) h w = tt
named_some text (nodes.Binary o a b) h w = tt
named_some text (nodes.Call span arguments) h w = token_some text span h w.1
named_some text (nodes.Item span arguments) h w =
    some_of (name_in text (nodes.Item span arguments)) (λ bytes e. let same : token text span ≡ bytes = cc e in
    subst (λ name. 0 < length name) same (token_some text span h w.1))

names_stop : (text : List ℕ) (nodes : List Node) (w : World)
    → ((id : ℕ) (node : Node) → slice_get nodes id ≡ Some node → IfSome (name_in text node) (λ bytes. 0 < length bytes))
    → StopsAsMeant (joins_names text nodes w)
names_stop text [] w h = λ code e. absurd (cc e)
names_stop text (node ∷ nodes) w h =
    then_stops (joins_name (name_in text node)) (λ done. joins_names text nodes) w (name_stops (name_in text node) w (h 0 node refl))
    (λ done v. names_stop text nodes v (λ id other at. h (suc id) other at))

-- why there is no machine

pub machine_refused : (program : Program) (limits : Limits) (s : Runtime) (x : Exit) → IsTable (length program.text) program.nodes
    → Does {X = Unit} itself any (joins_names program.text program.nodes) (new_runtime (new_keywords false limits.statements limits.match_steps)) s (Err x)
    → IsRefusal program limits (ran_in 0 x)
machine_refused program limits s Failure table did = absurd (names_fail_not program.text program.nodes _ (ap (λ (o : Outcome Unit). o.ending) (did.meets [])))
machine_refused program limits s (Halt (HasError code)) table did =
    let named : (id : ℕ) (node : Node) → slice_get program.nodes id ≡ Some node → IfSome (name_in program.text node) (λ bytes. 0 < length bytes) =
    λ id node at. named_some program.text node (table.named id node at) (table.spans id node at) in
    (refl, names_stop program.text program.nodes _ named code (did.meets []).0, λ input. (did.meets input).0)
machine_refused program limits s (Halt NoMemory) table did = tt
machine_refused program limits s (Halt ReadFault) table did = absurd (did.meets [])
machine_refused program limits s (Halt WriteFault) table did = absurd (did.meets [])
machine_refused program limits s (Halt (HasErrorIn code statement)) table did = absurd (did.meets [])
machine_refused program limits s (Halt HasEnded) table did = absurd (did.meets [])
