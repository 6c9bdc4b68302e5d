-- What the store's calls on arrays and tables do to the world.
use Rattle.std.proofs.Common.{◌≡◌, ℕ, ◌≤◌, true, List, [], ◌∷◌, length, refl, ap, sym, ◌∙◌, subst, Result, Ok, Err}
use Rattle.sno_value.specs.declared.value.Value.{Value as Stored}
use Rattle.sno_value.specs.declared.value.Value.TheVariants as stored
use Rattle.sno_pattern.specs.Table.{Node}
use Rattle.sno_store.specs.Store.{Store}
use Rattle.sno_store.specs.Objects.{Object}
use Rattle.sno_store.specs.Outcomes.{IsDone, IsAnswered, itself as as_told}
use Rattle.sno_store.specs.Stored.{is_null, is_key, same_key, stored_notions}
use Rattle.sno_store.specs.declared.error.StoreError.{StoreError}
use Rattle.sno_store.specs.declared.error.StoreError.TheVariants.{NullName, Full, WrongType, BadPrototype, CallLevel, NoMemory}
use Rattle.sno_runtime.specs.Values.{Value, Str, shown, IsValueOf, is_null as is_null_value}
use Rattle.sno_runtime.specs.Action.{Error, Got, Stops, Outcome, gives, and_then}
use Rattle.sno_runtime.specs.declared.stops.Exit.TheVariants.{Halt}
use Rattle.sno_runtime.specs.declared.stops.Stop.TheVariants.{Error as HasError}
use Rattle.sno_runtime.specs.Containers.{is_key as may_be_key, is_same_key, notions, after_change, answers, does, asks}
use Rattle.sno_runtime.specs.Runtime.{Runtime, world, IsKnown, itself}
use Rattle.sno_runtime.specs.inner.Runtime.{Does, any, exit_of_store}
use Rattle.sno_runtime.proofs.Objects.{mapped, map_made}
use Rattle.sno_runtime.proofs.Stores.{calls_untouched, store_untouched}
use Rattle.sno_runtime.proofs.ObjectOperations.{Agrees}
use Rattle.sno_runtime.proofs.ObjectsKnown.{AllKnown, Leaves}
use Rattle.sno_runtime.proofs.Outcomes.{grows_none, no_memory_does, gives_does, then_got, then_err}

-- values that are shown are asked the same

null_shown : (nodes : List Node) (v : Stored) → is_null_value (shown nodes v) ≡ is_null v
null_shown nodes (stored.Str []) = refl
null_shown nodes (stored.Str (byte ∷ bytes)) = refl
null_shown nodes (stored.Int number) = refl
null_shown nodes (stored.Pat id) = refl
null_shown nodes (stored.Expr id) = refl
null_shown nodes (stored.Name target) = refl
null_shown nodes (stored.Array id) = refl
null_shown nodes (stored.Table id) = refl
null_shown nodes (stored.Data id) = refl

key_shown : (nodes : List Node) (v : Stored) → may_be_key (shown nodes v) ≡ is_key v
key_shown nodes (stored.Str bytes) = refl
key_shown nodes (stored.Int number) = refl
key_shown nodes (stored.Pat id) = refl
key_shown nodes (stored.Expr id) = refl
key_shown nodes (stored.Name target) = refl
key_shown nodes (stored.Array id) = refl
key_shown nodes (stored.Table id) = refl
key_shown nodes (stored.Data id) = refl

same_shown : (nodes : List Node) (v w : Stored) → is_key v ≡ true → is_same_key (shown nodes v) (shown nodes w) ≡ same_key v w
same_shown nodes (stored.Str x) (stored.Str y) is = refl
same_shown nodes (stored.Str x) (stored.Int y) is = refl
same_shown nodes (stored.Str x) (stored.Pat y) is = refl
same_shown nodes (stored.Str x) (stored.Expr y) is = refl
same_shown nodes (stored.Str x) (stored.Name y) is = refl
same_shown nodes (stored.Str x) (stored.Array y) is = refl
same_shown nodes (stored.Str x) (stored.Table y) is = refl
same_shown nodes (stored.Str x) (stored.Data y) is = refl
same_shown nodes (stored.Int x) (stored.Str y) is = refl
same_shown nodes (stored.Int x) (stored.Int y) is = refl
same_shown nodes (stored.Int x) (stored.Pat y) is = refl
same_shown nodes (stored.Int x) (stored.Expr y) is = refl
same_shown nodes (stored.Int x) (stored.Name y) is = refl
same_shown nodes (stored.Int x) (stored.Array y) is = refl
same_shown nodes (stored.Int x) (stored.Table y) is = refl
same_shown nodes (stored.Int x) (stored.Data y) is = refl
same_shown nodes (stored.Pat x) w is = absurd (cc is)
same_shown nodes (stored.Expr x) w is = absurd (cc is)
same_shown nodes (stored.Name x) (stored.Str y) is = refl
same_shown nodes (stored.Name x) (stored.Int y) is = refl
same_shown nodes (stored.Name x) (stored.Pat y) is = refl
same_shown nodes (stored.Name x) (stored.Expr y) is = refl
same_shown nodes (stored.Name x) (stored.Name y) is = refl
same_shown nodes (stored.Name x) (stored.Array y) is = refl
same_shown nodes (stored.Name x) (stored.Table y) is = refl
same_shown nodes (stored.Name x) (stored.Data y) is = refl
same_shown nodes (stored.Array x) (stored.Str y) is = refl
same_shown nodes (stored.Array x) (stored.Int y) is = refl
same_shown nodes (stored.Array x) (stored.Pat y) is = refl
same_shown nodes (stored.Array x) (stored.Expr y) is = refl
same_shown nodes (stored.Array x) (stored.Name y) is = refl
same_shown nodes (stored.Array x) (stored.Array y) is = refl
same_shown nodes (stored.Array x) (stored.Table y) is = refl
same_shown nodes (stored.Array x) (stored.Data y) is = refl
same_shown nodes (stored.Table x) (stored.Str y) is = refl
same_shown nodes (stored.Table x) (stored.Int y) is = refl
same_shown nodes (stored.Table x) (stored.Pat y) is = refl
same_shown nodes (stored.Table x) (stored.Expr y) is = refl
same_shown nodes (stored.Table x) (stored.Name y) is = refl
same_shown nodes (stored.Table x) (stored.Array y) is = refl
same_shown nodes (stored.Table x) (stored.Table y) is = refl
same_shown nodes (stored.Table x) (stored.Data y) is = refl
same_shown nodes (stored.Data x) (stored.Str y) is = refl
same_shown nodes (stored.Data x) (stored.Int y) is = refl
same_shown nodes (stored.Data x) (stored.Pat y) is = refl
same_shown nodes (stored.Data x) (stored.Expr y) is = refl
same_shown nodes (stored.Data x) (stored.Name y) is = refl
same_shown nodes (stored.Data x) (stored.Array y) is = refl
same_shown nodes (stored.Data x) (stored.Table y) is = refl
same_shown nodes (stored.Data x) (stored.Data y) is = refl

pub shown_agrees : (nodes : List Node) → Agrees (shown nodes) stored_notions notions
shown_agrees nodes = record { null = refl; is_null = null_shown nodes; is_key = key_shown nodes; same = same_shown nodes }

-- an operation on the objects

pub done_ok : {X : Type 0} (s : Runtime) (new : Store) (operation : List (Object Stored) → Result (X × List (Object Stored)) ℕ) (meant : List (Object Value)
    → Result (X × List (Object Value)) ℕ) (x : X)
    → ((objects : List (Object Stored)) → meant (mapped (shown s.nodes) objects) ≡ map_made (shown s.nodes) (operation objects))
    → IsDone as_told operation s.store new (Ok x) → Does itself any (does meant) s (record s { store = new }) (Ok x)
done_ok {X = X} s new operation meant x same h = record {
  grows = grows_none s.nodes;
  meets = λ more.
      ap (λ (r : Result (X × List (Object Value)) ℕ). after_change r (world s more)) (same s.store.objects ∙ ap (map_made (shown s.nodes)) h.0)
      ∙ ap (λ (c : Store). record { ending = Got x; world = world (record s { store = c }) more; wrote = [] }) (sym h.1);
  answer = tt;
  unread = calls_untouched s new (ap (λ (c : Store). c.calls) h.1);
}

refused_as : {X : Type 0} (s : Runtime) (new : Store) (meant : List (Object Value) → Result (X × List (Object Value)) ℕ) (code : ℕ)
    → meant (mapped (shown s.nodes) s.store.objects) ≡ Err code
    → (more : List ℕ) → does meant (world s more) ≡ record { ending = Stops (Error code); world = world s more; wrote = [] }
refused_as {X = X} s new meant code is more = ap (λ (r : Result (X × List (Object Value)) ℕ). after_change r (world s more)) is

does_refused : {X : Type 0} (s : Runtime) (new : Store) (meant : List (Object Value) → Result (X × List (Object Value)) ℕ) (code : ℕ) → new ≡ s.store
    → meant (mapped (shown s.nodes) s.store.objects) ≡ Err code
    → Does {X = X} itself any (does meant) s (record s { store = new }) (Err (Halt (HasError code)))
does_refused s new meant code same is = record {
  grows = grows_none s.nodes;
  meets = λ more. (
    ap (λ (o : Outcome _). o.ending) (refused_as s new meant code is more),
    ap (λ (o : Outcome _). o.wrote)
        (refused_as s new meant code is more),
  );
  answer = tt;
  unread = store_untouched s new same;
}

pub done_err : {X : Type 0} (s : Runtime) (new : Store) (operation : List (Object Stored) → Result (X × List (Object Stored)) ℕ) (meant : List (Object Value)
    → Result (X × List (Object Value)) ℕ) (e : StoreError)
    → ((objects : List (Object Stored)) → meant (mapped (shown s.nodes) objects) ≡ map_made (shown s.nodes) (operation objects))
    → IsDone {X = X} as_told operation s.store new (Err e) → Does {X = X} itself any (does meant) s (record s { store = new }) (Err (exit_of_store e))
done_err s new operation meant NullName same h = does_refused s new meant 6 h.1 (same s.store.objects ∙ ap (map_made (shown s.nodes)) h.0)
done_err s new operation meant Full same h = does_refused s new meant 9 h.1 (same s.store.objects ∙ ap (map_made (shown s.nodes)) h.0)
done_err s new operation meant WrongType same h = does_refused s new meant 1 h.1 (same s.store.objects ∙ ap (map_made (shown s.nodes)) h.0)
done_err s new operation meant BadPrototype same h = does_refused s new meant 12 h.1 (same s.store.objects ∙ ap (map_made (shown s.nodes)) h.0)
done_err s new operation meant CallLevel same h = does_refused s new meant 10 h.1 (same s.store.objects ∙ ap (map_made (shown s.nodes)) h.0)
done_err s new operation meant NoMemory same h =
    no_memory_does itself any (does meant) s (record s { store = new }) (grows_none s.nodes) (store_untouched s new h.1)

left_known : {X : Type 0} (nodes : List Node) (x : X) (objects : List (Object Stored)) (r : Result (X × List (Object Stored)) ℕ) → r ≡ Ok (x, objects)
    → Leaves nodes r → AllKnown nodes objects
left_known nodes x objects r is h = subst (λ r. Leaves nodes r) is h

-- what is known stays known
pub done_known : {X : Type 0} (nodes : List Node) (old new : Store) (operation : List (Object Stored) → Result (X × List (Object Stored)) ℕ)
    (r : Result X StoreError)
    → IsKnown nodes old → Leaves nodes (operation old.objects) → IsDone as_told operation old new r → IsKnown nodes new
done_known nodes old new operation (Ok x) k leaves h =
    subst (IsKnown nodes) (sym h.1)
    (record {
      symbols = k.symbols;
      numbered = k.numbered;
      values = k.values;
      objects = left_known nodes x new.objects (operation old.objects) h.0 leaves;
      types = k.types;
      calls = k.calls;
    })
done_known nodes old new operation (Err e) k leaves h = subst (IsKnown nodes) (sym h.1) k

-- a question to the objects

pub asked_ok : {X A : Type 0} (see : X → A) (s : Runtime) (told : Result A ℕ) (meant : List (Object Value) → Result A ℕ) (x : X)
    → meant (mapped (shown s.nodes) s.store.objects) ≡ told → IsAnswered see told (Ok x)
    → (more : List ℕ) → asks meant (world s more) ≡ record { ending = Got (see x); world = world s more; wrote = [] }
asked_ok {A = A} see s told meant x same h more = ap (λ (r : Result A ℕ). answers r (world s more)) (same ∙ h)

pub asked_does : {X : Type 0} (s : Runtime) (told : Result X ℕ) (meant : List (Object Value) → Result X ℕ) (x : X)
    → meant (mapped (shown s.nodes) s.store.objects) ≡ told → IsAnswered as_told told (Ok x)
    → Does itself any (asks meant) s s (Ok x)
asked_does s told meant x same h = record { grows = grows_none s.nodes; meets = asked_ok as_told s told meant x same h; answer = tt; unread = refl }

asked_refused : {X A : Type 0} (s : Runtime) (meant : List (Object Value) → Result A ℕ) (see : List Node → X → A) (fits : List Node → X → Type 0) (code : ℕ)
    → meant (mapped (shown s.nodes) s.store.objects) ≡ Err code → Does {X = X} see fits (asks meant) s s (Err (Halt (HasError code)))
asked_refused {A = A} s meant see fits code is = record {
  grows = grows_none s.nodes;
  meets = λ more. (ap (λ (r : Result A ℕ). (answers r (world s more)).ending) is, ap (λ (r : Result A ℕ). (answers r (world s more)).wrote) is);
  answer = tt;
  unread = refl;
}

pub asked_err : {X Y A : Type 0} (look : Y → A) (s : Runtime) (told : Result A ℕ) (meant : List (Object Value) → Result A ℕ) (see : List Node → X → A)
    (fits : List Node → X → Type 0) (e : StoreError) → meant (mapped (shown s.nodes) s.store.objects) ≡ told → IsAnswered look told (Err e)
    → Does {X = X} see fits (asks meant) s s (Err (exit_of_store e))
asked_err look s told meant see fits NullName same h = asked_refused s meant see fits 6 (same ∙ h)
asked_err look s told meant see fits Full same h = asked_refused s meant see fits 9 (same ∙ h)
asked_err look s told meant see fits WrongType same h = asked_refused s meant see fits 1 (same ∙ h)
asked_err look s told meant see fits BadPrototype same h = asked_refused s meant see fits 12 (same ∙ h)
asked_err look s told meant see fits CallLevel same h = asked_refused s meant see fits 10 (same ∙ h)
asked_err look s told meant see fits NoMemory same h = absurd h

-- the text of a prototype

pub asked_text : (s : Runtime) (meant : List (Object Value) → Result (List ℕ) ℕ) (text : List ℕ) → meant (mapped (shown s.nodes) s.store.objects) ≡ Ok text
    → length text ≤ 1_000_000
    → Does shown IsValueOf (and_then (asks meant) (λ text. gives (Str text))) s s (Ok (stored.Str text))
asked_text s meant text is short = then_got itself any shown IsValueOf (asks meant) (λ text. gives (Str text)) s s s text (Ok (stored.Str text))
    (asked_does s (Ok text) meant text is refl) (gives_does shown IsValueOf s (stored.Str text) (Str text) refl short)

pub asked_text_err : {Y : Type 0} (look : Y → List ℕ) (s : Runtime) (told : Result (List ℕ) ℕ) (meant : List (Object Value)
    → Result (List ℕ) ℕ) (e : StoreError)
    → meant (mapped (shown s.nodes) s.store.objects) ≡ told → IsAnswered look told (Err e)
    → Does {X = Stored} shown IsValueOf (and_then (asks meant) (λ text. gives (Str text))) s s (Err (exit_of_store e))
asked_text_err look s told meant e same h = then_err {X = List ℕ} itself any shown IsValueOf (asks meant) (λ text. gives (Str text)) s s (exit_of_store e)
    (asked_err look s told meant itself any e same h)
