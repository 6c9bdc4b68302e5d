-- What the store's calls on functions do to the world.
use Rattle.std.proofs.Common.{◌≡◌, ℕ, zero, suc, ◌+◌, ◌-◌, ◌≤◌, List, [], ◌∷◌, ◌++◌, length, map, replicate, refl, ap, sym, ◌∙◌, subst, arith, Bor, false}
use Rattle.std.proofs.Common.{Option, None, Some, is_none, option_copied, Result, Ok, Err}
use Rattle.std.proofs.lemmas.List.{map-append, length-append}
use Rattle.sno_value.specs.declared.ids.SymId.{SymId}
use Rattle.sno_value.specs.declared.value.Value.{Value as Stored}
use Rattle.sno_value.specs.declared.value.Value.TheVariants as stored
use Rattle.sno_pattern.specs.Table.{Node}
use Rattle.sno_store.specs.Calls.{saved, saved_symbols, function_value}
use Rattle.sno_store.specs.Store.{Store}
use Rattle.sno_store.specs.declared.functions.Function.{Function}
use Rattle.sno_store.specs.Definitions.{Definition}
use Rattle.sno_store.specs.Functions.{with_definition}
use Rattle.sno_store.specs.Outcomes.{IsDefined, IsEntered}
use Rattle.sno_store.specs.declared.error.StoreError.{StoreError}
use Rattle.sno_store.specs.declared.error.StoreError.TheVariants.{NullName, Full, WrongType, BadPrototype, CallLevel, NoMemory}
use Rattle.sno_runtime.specs.declared.stops.Exit.{Exit}
use Rattle.sno_runtime.specs.declared.stops.Exit.TheVariants.{Halt}
use Rattle.sno_runtime.specs.declared.stops.Stop.TheVariants.{Error as HasError}
use Rattle.sno_runtime.specs.Values.{Value, Str, shown, IsValueOf}
use Rattle.sno_runtime.specs.Action.{Error, Got, Stops, Outcome, Action, gives, and_then}
use Rattle.sno_runtime.specs.Calls.{after_definition, defines}
use Rattle.sno_runtime.specs.inner.Calls.{Enters, Leaves, shown_saved}
use Rattle.sno_runtime.specs.Runtime.{Runtime, world, IsKnown, itself}
use Rattle.sno_runtime.specs.inner.Runtime.{Does, any, exit_of_store}
use Rattle.sno_runtime.proofs.CallLaws.{entered_map, restored_map, function_value_map, saved_map}
use Rattle.sno_runtime.proofs.CallsKnown.{without_call, saved_known, function_known}
use Rattle.sno_runtime.proofs.DefinitionLaws.{defined_numbered, defined_short}
use Rattle.sno_runtime.proofs.Members.{all_append, all_same}
use Rattle.sno_runtime.proofs.Outcomes.{grows_none, no_memory_does, gives_does, then_got, then_err}
use Rattle.sno_runtime.proofs.Stores.{calls_untouched, store_untouched}

-- what a call saves of the store is shown as what it saves of the world
pub saved_shown : (nodes : List Node) (function : ℕ) (d : Definition) (values : List Stored) → shown_saved nodes (saved (stored.Str []) function d values)
    ≡ saved (Str []) function d (map (shown nodes) values)
saved_shown nodes function d values = saved_map (shown nodes) (stored.Str []) function d values

-- DEFINE

pub nulls_shown : (nodes : List Node) (n : ℕ) → map (shown nodes) (replicate n (stored.Str [])) ≡ replicate n (Str [])
nulls_shown nodes zero = refl
nulls_shown nodes (suc n) = ap (λ vs. Str [] ∷ vs) (nulls_shown nodes n)

pub more_shown : (nodes : List Node) (values : List Stored) (n : ℕ) → map (shown nodes) (values ++ replicate n (stored.Str []))
    ≡ map (shown nodes) values ++ replicate n (Str [])
more_shown nodes values n = map-append (shown nodes) values (replicate n (stored.Str [])) ∙ ap (λ vs. map (shown nodes) values ++ vs) (nulls_shown nodes n)

pub defined : (s : Runtime) (new : Store) (text entry : List ℕ) (done : Unit {0}) → IsDefined text entry s.store new (Ok done)
    → Does itself any (defines text entry) s (record s { store = new }) (Ok done)
defined s new text entry done h = record {
  grows = grows_none s.nodes;
  meets = λ more.
      ap (λ (r : Result (List (List ℕ) × List Function) ℕ). after_definition r (world s more)) h.0
      ∙ ((λ i. record {
        ending = Got tt;
        world = record (world s more) {
          symbols = new.symbols;
          functions = new.functions;
          values = sym (more_shown s.nodes s.store.values (length new.symbols - length s.store.symbols)) i;
        };
        wrote = [];
      })
      ∙ ap (λ (c : Store). record { ending = Got tt; world = world (record s { store = c }) more; wrote = [] }) (sym h.1));
  answer = tt;
  unread = calls_untouched s new (ap (λ (c : Store). c.calls) h.1);
}

refused_with : (s : Runtime) (new : Store) (text entry : List ℕ) (code : ℕ) → new ≡ s.store
    → with_definition text entry s.store.symbols s.store.functions ≡ Err code
    → Does {X = Unit {0}} itself any (defines text entry) s (record s { store = new }) (Err (Halt (HasError code)))
refused_with s new text entry code same is =
    let ended : (more : List ℕ) → defines text entry (world s more) ≡ record { ending = Stops (Error code); world = world s more; wrote = [] } =
    λ more. ap (λ (r : Result (List (List ℕ) × List Function) ℕ). after_definition r (world s more)) is
    in
    record {
      grows = grows_none s.nodes;
      meets = λ more. (ap (λ (o : Outcome Unit). o.ending) (ended more), ap (λ (o : Outcome Unit). o.wrote) (ended more));
      answer = tt;
      unread = store_untouched s new same;
    }

pub not_defined : (s : Runtime) (new : Store) (text entry : List ℕ) (e : StoreError) → IsDefined text entry s.store new (Err e)
    → Does {X = Unit {0}} itself any (defines text entry) s (record s { store = new }) (Err (exit_of_store e))
not_defined s new text entry NullName h = refused_with s new text entry 6 h.1 h.0
not_defined s new text entry Full h = refused_with s new text entry 9 h.1 h.0
not_defined s new text entry WrongType h = refused_with s new text entry 1 h.1 h.0
not_defined s new text entry BadPrototype h = refused_with s new text entry 12 h.1 h.0
not_defined s new text entry CallLevel h = refused_with s new text entry 10 h.1 h.0
not_defined s new text entry NoMemory h = no_memory_does itself any (defines text entry) s (record s { store = new }) (grows_none s.nodes)
    (store_untouched s new h.1)

pub defined_known : (nodes : List Node) (old new : Store) (text entry : List ℕ) (done : Unit {0}) → length text ≤ 1_000_000 → IsKnown nodes old
    → IsDefined text entry old new (Ok done) → IsKnown nodes new
defined_known nodes old new text entry done short k h = subst (IsKnown nodes) (sym h.1) (record {
  symbols = defined_short 1_000_000 text entry old.symbols old.functions (new.symbols, new.functions) h.0 short k.symbols;
  numbered = defined_numbered text entry old.symbols old.functions (new.symbols, new.functions) h.0 k.numbered;
  values = all_append (IsValueOf nodes) old.values (replicate (length new.symbols - length old.symbols) (stored.Str [])) k.values
      (all_same (IsValueOf nodes) (length new.symbols - length old.symbols) (stored.Str []) (omega arith));
  objects = k.objects;
  types = k.types;
  calls = k.calls;
})

-- the null string behind it
pub defined_null : (act : Action Unit) (a b : Runtime) (done : Unit {0}) → Does itself any act a b (Ok done)
    → Does shown IsValueOf (and_then act (λ done. gives (Str []))) a b (Ok (stored.Str []))
defined_null act a b done h = then_got itself any shown IsValueOf act (λ done. gives (Str [])) a b b done (Ok (stored.Str [])) h
    (gives_does shown IsValueOf b (stored.Str []) (Str []) refl (omega arith))

pub not_defined_null : (act : Action Unit) (a b : Runtime) (e : Exit) → Does {X = Unit {0}} itself any act a b (Err e)
    → Does {X = Stored} shown IsValueOf (and_then act (λ done. gives (Str []))) a b (Err e)
not_defined_null act a b e h = then_err {X = Unit {0}} itself any shown IsValueOf act (λ done. gives (Str [])) a b e h

-- a definition that is there
pub some_copied : (o : Option (Bor Definition)) → is_none o ≡ false → (d : Definition) × (option_copied o ≡ Some d)
some_copied None h = absurd (cc h)
some_copied (Some d) h = (d.now, refl)

-- calls

pub enters : (s : Runtime) (new : Store) (function : SymId) (d : Definition) (arguments : List Stored) (done : Unit {0}) → IsKnown s.nodes s.store
    → IsEntered function d arguments s.store new (Ok done)
    → Enters function.0 d (map (shown s.nodes) arguments) s (record s { store = new }) (Ok done)
enters s new function d arguments done k h =
    let one : length (s.store.calls ++ saved (stored.Str []) function.0 d s.store.values ∷ []) ≡ length s.store.calls + 1 =
    length-append s.store.calls (saved (stored.Str []) function.0 d s.store.values ∷ []) in
    record {
      nodes = refl;
      reading = refl;
      keywords = refl;
      opened = ap (λ (c : Store). c.calls) h.1;
      room = h.0;
      known = saved_known s.nodes (saved_symbols function.0 d) s.store.values k.values;
      meets = λ more.
          ap (λ (c : Store). world (record s { store = c }) more) h.1
          ∙ (λ i. record (world s more) { values = sym (entered_map (shown s.nodes) (stored.Str []) function.0 d arguments s.store.values) i; level = one i });
    }

pub not_entered : (s : Runtime) (new : Store) (function : SymId) (d : Definition) (arguments : List Stored) (xs : List Value) (e : StoreError)
    → IsEntered function d arguments s.store new (Err e) → Enters function.0 d xs s (record s { store = new }) (Err (exit_of_store e))
not_entered s new function d arguments xs NullName h = absurd h
not_entered s new function d arguments xs Full h = absurd h
not_entered s new function d arguments xs WrongType h = absurd h
not_entered s new function d arguments xs BadPrototype h = absurd h
not_entered s new function d arguments xs CallLevel h = (refl, h.0, ap (λ (c : Store). record s { store = c }) h.1)
not_entered s new function d arguments xs NoMemory h = ap (λ (c : Store). record s { store = c }) h.1

pub leaves : (s : Runtime) (new : Store) (calls : List (List (ℕ × Stored))) (call : List (ℕ × Stored)) (statement : ℕ) (value : Stored)
    → IsKnown s.nodes s.store → s.store.calls ≡ calls ++ call ∷ []
    → value ≡ function_value (stored.Str []) call s.store.values → new ≡ without_call s.nodes calls call s.store
    → Leaves calls call statement s (record s { store = new; keywords = record s.keywords { statement = statement } }) value
leaves s new calls call statement value k has told is =
    let more_calls : length s.store.calls ≡ length calls + 1 = ap length has ∙ length-append calls (call ∷ []) in
    let fewer : length calls ≡ length s.store.calls - 1 = omega arith in
    record {
      nodes = refl;
      reading = refl;
      keywords = refl;
      closed = ap (λ (c : Store). c.calls) is;
      known = subst (IsValueOf s.nodes) (sym told) (function_known s.nodes call s.store.values k.values);
      meets = λ more.
          ap (λ (c : Store). world (record s { store = c; keywords = record s.keywords { statement = statement } }) more) is
          ∙ (λ i. record (world s more) {
            values = sym (restored_map (shown s.nodes) call s.store.values) i;
            level = fewer i;
            keywords = record s.keywords { statement = statement };
          });
      returned = λ more. ap (shown s.nodes) told ∙ sym (function_value_map (shown s.nodes) (stored.Str []) call s.store.values);
    }
