-- How functions join that did what their actions do.
use Rattle.std.proofs.Common.{◌≡◌, ℕ, List, [], ◌∷◌, ◌++◌, map, refl, ap, sym, ◌∙◌, subst, append_assoc, arith, Option, None, Some, Result, Ok, Err}
use Rattle.std.specs.List.{AllByRecursion}
use Rattle.std.proofs.lemmas.List.{append-nil, length-append}
use Rattle.sno_value.specs.declared.value.Value.{Value as Stored}
use Rattle.sno_value.specs.declared.value.Value.TheVariants as stored
use Rattle.sno_pattern.specs.Table.{Node}
use Rattle.sno_pattern.proofs.TableLaws.{tree-append}
use Rattle.sno_runtime.specs.declared.stops.Exit.{Exit}
use Rattle.sno_runtime.specs.declared.stops.Exit.TheVariants.{Failure, Halt}
use Rattle.sno_runtime.specs.declared.stops.Stop.{Stop}
use Rattle.sno_runtime.specs.declared.stops.Stop.TheVariants.{Error as HasError, ErrorIn as HasErrorIn, NoMemory, ReadFault, WriteFault, Ended as HasEnded}
use Rattle.sno_runtime.specs.World.{World}
use Rattle.sno_store.specs.Objects.{Object, ArrayOf, TableOf, DataOf}
use Rattle.sno_runtime.specs.Values.{Pat, shown, shown_objects, map_entry, map_object, IsValueOf, IsEntryOf, IsObjectOf}
use Rattle.sno_runtime.specs.Action.{Error, Got, Outcome, Action, settled, settles, either, and_then, gives, fails, stops}
use Rattle.sno_runtime.specs.Runtime.{Runtime, world, Grows}
use Rattle.sno_runtime.specs.inner.Runtime.{untouched, Meets, Does}
use Rattle.sno_runtime.specs.inner.Calls.{shown_saved}

-- tables that grow

pub grows_none : (nodes : List Node) → Grows nodes nodes
grows_none nodes = ([], sym (append-nil nodes))

pub grows_twice : (a b c : List Node) → Grows a b → Grows b c → Grows a c
grows_twice a b c g h = (g.0 ++ h.0, h.1 ∙ (ap (λ xs. xs ++ h.0) g.1 ∙ append_assoc a g.0 h.0))

shown_more : (nodes more : List Node) (v : Stored) → IsValueOf nodes v → shown (nodes ++ more) v ≡ shown nodes v
shown_more nodes more (stored.Str bytes) h = refl
shown_more nodes more (stored.Int number) h = refl
shown_more nodes more (stored.Pat id) h = ap Pat (tree-append nodes more id.0 h)
shown_more nodes more (stored.Expr id) h = refl
shown_more nodes more (stored.Name target) h = refl
shown_more nodes more (stored.Array id) h = refl
shown_more nodes more (stored.Table id) h = refl
shown_more nodes more (stored.Data id) h = refl

value_more : (nodes more : List Node) (v : Stored) → IsValueOf nodes v → IsValueOf (nodes ++ more) v
value_more nodes more (stored.Str bytes) h = h
value_more nodes more (stored.Int number) h = tt
value_more nodes more (stored.Pat id) h = omega (arith, length-append nodes more)
value_more nodes more (stored.Expr id) h = tt
value_more nodes more (stored.Name target) h = tt
value_more nodes more (stored.Array id) h = tt
value_more nodes more (stored.Table id) h = tt
value_more nodes more (stored.Data id) h = tt

-- a value that is known stays what it is
pub shown_stays : (old new : List Node) (v : Stored) → Grows old new → IsValueOf old v → shown new v ≡ shown old v
shown_stays old new v g h = ap (λ nodes. shown nodes v) g.1 ∙ shown_more old g.0 v h

pub value_stays : (old new : List Node) (v : Stored) → Grows old new → IsValueOf old v → IsValueOf new v
value_stays old new v g h = subst (λ (nodes : List Node). IsValueOf nodes v) (sym g.1) (value_more old g.0 v h)

pub all_shown_stay : (old new : List Node) (vs : List Stored) → Grows old new → AllByRecursion (IsValueOf old) vs → map (shown new) vs ≡ map (shown old) vs
all_shown_stay old new [] g h = refl
all_shown_stay old new (v ∷ vs) g h = λ i. shown_stays old new v g h.0 i ∷ all_shown_stay old new vs g h.1 i

pub all_values_stay : (old new : List Node) (vs : List Stored) → Grows old new → AllByRecursion (IsValueOf old) vs → AllByRecursion (IsValueOf new) vs
all_values_stay old new [] g h = tt
all_values_stay old new (v ∷ vs) g h = (value_stays old new v g h.0, all_values_stay old new vs g h.1)

entries_shown_stay : (old new : List Node) (es : List (Stored × Stored)) → Grows old new → AllByRecursion (IsEntryOf old) es → map (map_entry (shown new)) es
    ≡ map (map_entry (shown old)) es
entries_shown_stay old new [] g h = refl
entries_shown_stay old new (e ∷ es) g h = λ i. (shown_stays old new e.0 g h.0.0 i, shown_stays old new e.1 g h.0.1 i) ∷ entries_shown_stay old new es g h.1 i

entries_stay : (old new : List Node) (es : List (Stored × Stored)) → Grows old new → AllByRecursion (IsEntryOf old) es → AllByRecursion (IsEntryOf new) es
entries_stay old new [] g h = tt
entries_stay old new (e ∷ es) g h = ((value_stays old new e.0 g h.0.0, value_stays old new e.1 g h.0.1), entries_stay old new es g h.1)

object_shown_stays : (old new : List Node) (o : Object Stored) → Grows old new → IsObjectOf old o → map_object (shown new) o ≡ map_object (shown old) o
object_shown_stays old new (ArrayOf elements) g h =
    ap (λ vs. ArrayOf (record { prototype = elements.prototype; dimensions = elements.dimensions; values = vs })) (all_shown_stay old new elements.values g h.1)
object_shown_stays old new (TableOf entries) g h = ap TableOf (entries_shown_stay old new entries g h)
object_shown_stays old new (DataOf number fields) g h = ap (DataOf number) (all_shown_stay old new fields g h)

object_stays : (old new : List Node) (o : Object Stored) → Grows old new → IsObjectOf old o → IsObjectOf new o
object_stays old new (ArrayOf elements) g h = (h.0, all_values_stay old new elements.values g h.1)
object_stays old new (TableOf entries) g h = entries_stay old new entries g h
object_stays old new (DataOf number fields) g h = all_values_stay old new fields g h

-- objects whose values are known stay what they are
pub shown_objects_stay : (old new : List Node) (os : List (Object Stored)) → Grows old new → AllByRecursion (IsObjectOf old) os
    → shown_objects new os ≡ shown_objects old os
shown_objects_stay old new [] g h = refl
shown_objects_stay old new (o ∷ os) g h = λ i. object_shown_stays old new o g h.0 i ∷ shown_objects_stay old new os g h.1 i

pub all_objects_stay : (old new : List Node) (os : List (Object Stored)) → Grows old new → AllByRecursion (IsObjectOf old) os
    → AllByRecursion (IsObjectOf new) os
all_objects_stay old new [] g h = tt
all_objects_stay old new (o ∷ os) g h = (object_stays old new o g h.0, all_objects_stay old new os g h.1)

-- what calls have saved

-- what was saved is shown the same in a table that has grown
pub saved_shown_stay : (old new : List Node) (call : List (ℕ × Stored)) → Grows old new → AllByRecursion (λ saved. IsValueOf old saved.1) call
    → shown_saved new call ≡ shown_saved old call
saved_shown_stay old new [] g h = refl
saved_shown_stay old new (s ∷ call) g h = λ i. (s.0, shown_stays old new s.1 g h.0 i) ∷ saved_shown_stay old new call g h.1 i

pub all_saved_stay : (old new : List Node) (call : List (ℕ × Stored)) → Grows old new → AllByRecursion (λ saved. IsValueOf old saved.1) call
    → AllByRecursion (λ saved. IsValueOf new saved.1) call
all_saved_stay old new [] g h = tt
all_saved_stay old new (s ∷ call) g h = (value_stays old new s.1 g h.0, all_saved_stay old new call g h.1)

pub all_calls_stay : (old new : List Node) (calls : List (List (ℕ × Stored))) → Grows old new
    → AllByRecursion (AllByRecursion (λ saved. IsValueOf old saved.1)) calls → AllByRecursion (AllByRecursion (λ saved. IsValueOf new saved.1)) calls
all_calls_stay old new [] g h = tt
all_calls_stay old new (call ∷ calls) g h = (all_saved_stay old new call g h.0, all_calls_stay old new calls g h.1)

-- the simplest actions

pub gives_does : {X A : Type 0} (see : List Node → X → A) (fits : List Node → X → Type 0) (s : Runtime) (x : X) (value : A) → see s.nodes x ≡ value
    → fits s.nodes x → Does see fits (gives value) s s (Ok x)
gives_does see fits s x value e h =
    record {
      grows = grows_none s.nodes;
      meets = λ more. ap (λ v. record { ending = Got v; world = world s more; wrote = [] }) (sym e);
      answer = h;
      unread = refl;
    }

pub fails_does : {X A : Type 0} (see : List Node → X → A) (fits : List Node → X → Type 0) (s : Runtime) → Does see fits fails s s (Err Failure)
fails_does see fits s = record { grows = grows_none s.nodes; meets = λ more. refl; answer = tt; unread = refl }

pub stops_does : {X A : Type 0} (see : List Node → X → A) (fits : List Node → X → Type 0) (s : Runtime) (code : ℕ)
    → Does see fits (stops (Error code)) s s (Err (Halt (HasError code)))
stops_does see fits s code = record { grows = grows_none s.nodes; meets = λ more. (refl, refl); answer = tt; unread = refl }

-- want of memory may end any of them
pub no_memory_does : {X A : Type 0} (see : List Node → X → A) (fits : List Node → X → Type 0) (act : Action A) (a b : Runtime) → Grows a.nodes b.nodes
    → untouched b ≡ untouched a → Does see fits act a b (Err (Halt NoMemory))
no_memory_does see fits act a b g u = record { grows = g; meets = λ more. tt; answer = tt; unread = u }

-- an action that ended in one way, and what follows that

pub settles_got : {X Y A B : Type 0} (see : List Node → X → A) (fits : List Node → X → Type 0) (look : List Node → Y → B) (suits : List Node → Y → Type 0)
    (act : Action A) (k : Option A → Action B) (a b c : Runtime) (x : X) (r : Result Y Exit)
    → Does see fits act a b (Ok x) → Does look suits (k (Some (see b.nodes x))) b c r → Does look suits (settles act k) a c r
unfolding settles
settles_got {A = A} see fits look suits act k a b c x r p q =
    record {
      grows = grows_twice a.nodes b.nodes c.nodes p.grows q.grows;
      meets = λ more. subst (λ (o : Outcome A). Meets (look c.nodes) (settled o.ending o.world o.wrote k) (world c more) r) (sym (p.meets more)) (q.meets more);
      answer = q.answer;
      unread = q.unread ∙ p.unread;
    }

pub settles_failed : {X Y A B : Type 0} (see : List Node → X → A) (fits : List Node → X → Type 0) (look : List Node → Y → B) (suits : List Node → Y → Type 0)
    (act : Action A) (k : Option A → Action B) (a b c : Runtime) (r : Result Y Exit)
    → Does see fits act a b (Err Failure) → Does look suits (k None) b c r → Does look suits (settles act k) a c r
unfolding settles
settles_failed {A = A} see fits look suits act k a b c r p q =
    record {
      grows = grows_twice a.nodes b.nodes c.nodes p.grows q.grows;
      meets = λ more. subst (λ (o : Outcome A). Meets (look c.nodes) (settled o.ending o.world o.wrote k) (world c more) r) (sym (p.meets more)) (q.meets more);
      answer = q.answer;
      unread = q.unread ∙ p.unread;
    }

settled_stops : {X Y A B : Type 0} (see : X → A) (look : Y → B) (k : Option A → Action B) (o : Outcome A) (w : World) (why : Stop)
    → Meets {X = X} see o w (Err (Halt why)) → Meets {X = Y} look (settled o.ending o.world o.wrote k) w (Err (Halt why))
settled_stops see look k o w (HasError code) h = rw h.0 (refl, h.1)
settled_stops see look k o w NoMemory h = tt
settled_stops see look k o w ReadFault h = h
settled_stops see look k o w WriteFault h = h
settled_stops see look k o w (HasErrorIn code statement) h = h
settled_stops see look k o w HasEnded h = h

pub settles_halt : {X Y A B : Type 0} (see : List Node → X → A) (fits : List Node → X → Type 0) (look : List Node → Y → B) (suits : List Node → Y → Type 0)
    (act : Action A) (k : Option A → Action B) (a b : Runtime) (why : Stop)
    → Does see fits act a b (Err (Halt why)) → Does look suits (settles act k) a b (Err (Halt why))
unfolding settles
settles_halt see fits look suits act k a b why p =
    record {
      grows = p.grows;
      meets = λ more. settled_stops (see b.nodes) (look b.nodes) k (act (world a more)) (world b more) why (p.meets more);
      answer = tt;
      unread = p.unread;
    }

-- the same of what goes on only with a value

pub then_got : {X Y A B : Type 0} (see : List Node → X → A) (fits : List Node → X → Type 0) (look : List Node → Y → B) (suits : List Node → Y → Type 0)
    (act : Action A) (next : A → Action B) (a b c : Runtime) (x : X) (r : Result Y Exit)
    → Does see fits act a b (Ok x) → Does look suits (next (see b.nodes x)) b c r → Does look suits (and_then act next) a c r
then_got see fits look suits act next a b c x r p q = settles_got see fits look suits act (either fails next) a b c x r p q

pub then_err : {X Y A B : Type 0} (see : List Node → X → A) (fits : List Node → X → Type 0) (look : List Node → Y → B) (suits : List Node → Y → Type 0)
    (act : Action A) (next : A → Action B) (a b : Runtime) (e : Exit)
    → Does see fits act a b (Err e) → Does look suits (and_then act next) a b (Err e)
then_err see fits look suits act next a b Failure p = settles_failed see fits look suits act (either fails next) a b b (Err Failure) p (fails_does look suits b)
then_err see fits look suits act next a b (Halt why) p = settles_halt see fits look suits act (either fails next) a b why p
