-- What the store's calls do to the world.
use Rattle.std.proofs.Common.{◌≡◌, ℕ, ◌==◌, ◌<◌, ◌≤◌, Bool, true, false, List, [], ◌∷◌, ◌++◌, if◌then◌else◌, length, slice_index_or, refl, ap, sym, ◌∙◌, subst}
use Rattle.std.proofs.Common.{arith, Result, Ok, Err}
use Rattle.std.proofs.lemmas.Bool.{le-ltb, lt-ltb}
use Rattle.std.proofs.lemmas.List.{map-append, map-set}
use Rattle.std.proofs.Math.ListN.{get_or-map}
use Rattle.sno_value.specs.declared.ids.SymId.{SymId}
use Rattle.sno_value.specs.declared.value.Name.{Name as Target}
use Rattle.sno_value.specs.declared.value.Name.TheVariants.{Var, Elem, Entry, Field}
use Rattle.sno_value.specs.declared.value.Value.{Value as Stored}
use Rattle.sno_value.specs.declared.value.Value.TheVariants as stored
use Rattle.sno_pattern.specs.Table.{Node}
use Rattle.sno_store.specs.First.{first_patterns}
use Rattle.sno_store.specs.Store.{Store, new_store, place, is_symbol, joining, with_symbol, IsJoined, value_of, with_value as with_stored}
use Rattle.sno_store.specs.declared.error.StoreError.{StoreError}
use Rattle.sno_store.specs.declared.error.StoreError.TheVariants.{NullName, Full, WrongType, BadPrototype, CallLevel, NoMemory}
use Rattle.sno_runtime.specs.declared.stops.Exit.TheVariants.{Halt}
use Rattle.sno_runtime.specs.declared.stops.Stop.TheVariants.{Error as HasError}
use Rattle.sno_runtime.specs.World.{World}
use Rattle.sno_runtime.specs.Values.{shown, IsValueOf}
use Rattle.sno_runtime.specs.Action.{Error, Got, Outcome, gives, stops}
use Rattle.sno_runtime.specs.Variables.{symbol, variable_named, joins, value_in, with_value, holds, name_value}
use Rattle.sno_runtime.specs.Runtime.{Runtime, world, Grows, itself, IsKnown}
use Rattle.sno_runtime.specs.inner.Runtime.{untouched, Does, any, exit_of_store}
use Rattle.sno_runtime.proofs.Members.{all_end, all_set, all_at}
use Rattle.sno_runtime.proofs.Numbered.{numbered_with, numbered_place, new_numbered}
use Rattle.sno_runtime.proofs.Objects.{element_held, entry_held, field_held, element_set, entry_set, field_set}
use Rattle.sno_runtime.proofs.ObjectsKnown.{element_known, entry_known, field_known, element_set_known, entry_set_known, field_set_known}
use Rattle.sno_runtime.proofs.Outcomes.{grows_none, no_memory_does, all_values_stay, all_objects_stay, all_calls_stay}

-- what is known of a store

pub known_grown : (old new : List Node) (store : Store) → Grows old new → IsKnown old store → IsKnown new store
known_grown old new store g k =
    record {
      symbols = k.symbols;
      numbered = k.numbered;
      values = all_values_stay old new store.values g k.values;
      objects = all_objects_stay old new store.objects g k.objects;
      types = k.types;
      calls = all_calls_stay old new store.calls g k.calls;
    }

pub known_joined : (nodes : List Node) (name : List ℕ) (store : Store) → length name ≤ 1_000_000 → IsKnown nodes store
    → IsKnown nodes (with_symbol name store)
known_joined nodes name store short k = by (is_symbol name store.symbols) refl
  where
    by : (b : Bool) → is_symbol name store.symbols ≡ b
        → IsKnown nodes (if b then store else record store { symbols = store.symbols ++ name ∷ []; values = store.values ++ stored.Str [] ∷ [] })
    by true is = k
    by false is = record {
      numbered = numbered_with name store.symbols is k.numbered;
      symbols = all_end (λ symbol. length symbol ≤ 1_000_000) store.symbols name k.symbols short;
      values = all_end (IsValueOf nodes) store.values (stored.Str []) k.values (omega arith);
      objects = k.objects;
      types = k.types;
      calls = k.calls;
    }

pub known_set : (nodes : List Node) (name : Target) (value : Stored) (store : Store) → IsValueOf nodes value → IsKnown nodes store
    → IsKnown nodes (with_stored name value store)
known_set nodes (Var id) value store v k =
    record {
      symbols = k.symbols;
      numbered = k.numbered;
      values = all_set (IsValueOf nodes) store.values id.0 value k.values v;
      objects = k.objects;
      types = k.types;
      calls = k.calls;
    }
known_set nodes (Elem object i) value store v k =
    record {
      symbols = k.symbols;
      numbered = k.numbered;
      values = k.values;
      objects = element_set_known nodes i value store.objects object v k.objects;
      types = k.types;
      calls = k.calls;
    }
known_set nodes (Entry object i) value store v k =
    record {
      symbols = k.symbols;
      numbered = k.numbered;
      values = k.values;
      objects = entry_set_known nodes i value store.objects object v k.objects;
      types = k.types;
      calls = k.calls;
    }
known_set nodes (Field object i) value store v k =
    record {
      symbols = k.symbols;
      numbered = k.numbered;
      values = k.values;
      objects = field_set_known nodes i value store.objects object v k.objects;
      types = k.types;
      calls = k.calls;
    }

-- a new store
begins_known : IsKnown first_patterns new_store
begins_known = record {
  symbols = (omega arith, (omega arith, (omega arith, (omega arith, (omega arith, (omega arith, (omega arith, (omega arith, (omega arith, tt)))))))));
  numbered = new_numbered;
  values = (omega arith, (omega arith, (omega arith, (omega arith, (omega arith, (omega arith, (omega arith, (omega arith, (omega arith, tt)))))))));
  objects = tt;
  types = tt;
  calls = tt;
}

pub new_known : (nodes : List Node) → nodes ≡ first_patterns → IsKnown nodes new_store
new_known nodes is = subst (λ ns. IsKnown ns new_store) (sym is) begins_known

-- a text that names a variable

abbrev at_store : Runtime → Store → List ℕ → World
at_store a store more = world (record a { store = store }) more

-- a name that joins leaves the calls as they are
joined_calls : (name : List ℕ) (c : Store) → (with_symbol name c).calls ≡ c.calls
joined_calls name c = by (is_symbol name c.symbols)
  where
    by : (b : Bool) → (if b then c else record c { symbols = c.symbols ++ name ∷ []; values = c.values ++ stored.Str [] ∷ [] }).calls ≡ c.calls
    by true = refl
    by false = refl

-- a store with the same calls changes nothing that evaluation leaves
pub calls_untouched : (a : Runtime) (new : Store) → new.calls ≡ a.store.calls → untouched (record a { store = new }) ≡ untouched a
calls_untouched a new same = λ i. (a.reading, a.keywords, same i)

pub store_untouched : (a : Runtime) (new : Store) → new ≡ a.store → untouched (record a { store = new }) ≡ untouched a
store_untouched a new same = calls_untouched a new (ap (λ (c : Store). c.calls) same)

abbrev number_given : Bool → Bool → ℕ → ℕ → Result ℕ StoreError
number_given found full k n = if found then Ok k else (if full then Err Full else Ok n)

joined_by : (found full : Bool) (name : List ℕ) (a : Runtime) (new : Store) (id : SymId) (k : ℕ) (more : List ℕ)
    → number_given found full k (length a.store.symbols) ≡ Ok id.0
    → new ≡ (if found then a.store else record a.store { symbols = a.store.symbols ++ name ∷ []; values = a.store.values ++ stored.Str [] ∷ [] })
    → (if found then gives (Var (symbol k)) (world a more) else if full then stops (Error 9) (world a more) else joins name (world a more))
    ≡ record { ending = Got (Var id); world = at_store a new more; wrote = [] }
joined_by true full name a new id k more is same =
    let e : k ≡ id.0 = cc is in
    λ i. record { ending = Got (Var (symbol (e i))); world = at_store a (sym same i) more; wrote = [] }
joined_by false true name a new id k more is same = absurd (cc is)
joined_by false false name a new id k more is same =
    let e : length a.store.symbols ≡ id.0 = cc is in
    (λ i. record {
      ending = Got (Var (symbol (e i)));
      world = record (world a more) {
        symbols = a.store.symbols ++ name ∷ [];
        values = sym (map-append (shown a.nodes) a.store.values (stored.Str [] ∷ [])) i;
      };
      wrote = [];
    })
    ∙ ap (λ c. record { ending = Got (Var id); world = at_store a c more; wrote = [] }) (sym same)

pub named : (a : Runtime) (new : Store) (name : List ℕ) (id : SymId) → length name ≤ 1_000_000 → IsJoined name a.store new (Ok id)
    → Does itself any (variable_named name) a (record a { store = new }) (Ok (Var id))
named a new [] id short h = absurd (cc h.0)
named a new (byte ∷ bytes) id short h = record {
  grows = grows_none a.nodes;
  meets = λ more. rw (le-ltb 1_000_000 (length (byte ∷ bytes)) short)
      (joined_by (is_symbol (byte ∷ bytes) a.store.symbols) (length a.store.symbols == 1_000_000) (byte ∷ bytes) a new id
      (place (byte ∷ bytes) a.store.symbols) more h.0 h.1);
  answer = tt;
  unread = calls_untouched a new (ap (λ (c : Store). c.calls) h.1 ∙ joined_calls (byte ∷ bytes) a.store);
}

full_by : (found full : Bool) (name : List ℕ) (w : World) (k n : ℕ) (e : StoreError) → number_given found full k n ≡ Err e
    → ((e ≡ Full) × ((if found then gives (Var (symbol k)) w else if full then stops (Error 9) w else joins name w) ≡ stops (Error 9) w))
full_by true full name w k n e is = absurd (cc is)
full_by false true name w k n e is = let same : Full ≡ e = cc is in (sym same, refl)
full_by false false name w k n e is = absurd (cc is)

refused_full : (a : Runtime) (new : Store) (name : List ℕ) → length name ≤ 1_000_000 → joining name a.store.symbols ≡ Err Full → new ≡ a.store
    → Does {X = Target} itself any (variable_named name) a (record a { store = new }) (Err (exit_of_store Full))
refused_full a new [] short is same = absurd (cc is)
refused_full a new (byte ∷ bytes) short is same =
    let is_full : (more : List ℕ) → _ = λ more. full_by (is_symbol (byte ∷ bytes) a.store.symbols) (length a.store.symbols == 1_000_000) (byte ∷ bytes)
    (world a more) (place (byte ∷ bytes) a.store.symbols) (length a.store.symbols) Full is in
    record {
      grows = grows_none a.nodes;
      meets = λ more. rw (le-ltb 1_000_000 (length (byte ∷ bytes)) short)
          (ap (λ (o : Outcome Target). o.ending) (is_full more).1, ap (λ (o : Outcome Target). o.wrote) (is_full more).1);
      answer = tt;
      unread = store_untouched a new same;
    }

refused_null : (a : Runtime) (new : Store) (name : List ℕ) → joining name a.store.symbols ≡ Err NullName → new ≡ a.store
    → Does {X = Target} itself any (variable_named name) a (record a { store = new }) (Err (exit_of_store NullName))
refused_null a new [] is same = record { grows = grows_none a.nodes; meets = λ more. (refl, refl); answer = tt; unread = store_untouched a new same }
refused_null a new (byte ∷ bytes) is same =
    let none = full_by (is_symbol (byte ∷ bytes) a.store.symbols) (length a.store.symbols == 1_000_000) (byte ∷ bytes) (world a [])
    (place (byte ∷ bytes) a.store.symbols) (length a.store.symbols) NullName is in absurd (cc none.0)

-- a name that isn't given is null, or the symbols are full
named_or_full : (name : List ℕ) (c : Store) (e : StoreError) → joining name c.symbols ≡ Err e → (e ≡ NullName → ⊥) → (e ≡ Full → ⊥) → ⊥
named_or_full [] c e is null full = null (sym (cc is))
named_or_full (byte ∷ bytes) c e is null full = by (is_symbol (byte ∷ bytes) c.symbols) (length c.symbols == 1_000_000) is
  where
    by : (found is_full : Bool) → number_given found is_full (place (byte ∷ bytes) c.symbols) (length c.symbols) ≡ Err e → ⊥
    by true is_full is = cc is
    by false true is = full (sym (cc is))
    by false false is = cc is

pub not_named : (a : Runtime) (new : Store) (name : List ℕ) (e : StoreError) → length name ≤ 1_000_000 → IsJoined name a.store new (Err e)
    → Does {X = Target} itself any (variable_named name) a (record a { store = new }) (Err (exit_of_store e))
not_named a new name NullName short h = refused_null a new name h.0 h.1
not_named a new name Full short h = refused_full a new name short h.0 h.1
not_named a new name WrongType short h = absurd (named_or_full name a.store WrongType h.0 (λ e. cc e) (λ e. cc e))
not_named a new name BadPrototype short h = absurd (named_or_full name a.store BadPrototype h.0 (λ e. cc e) (λ e. cc e))
not_named a new name CallLevel short h = absurd (named_or_full name a.store CallLevel h.0 (λ e. cc e) (λ e. cc e))
not_named a new name NoMemory short h = no_memory_does itself any (variable_named name) a (record a { store = new }) (grows_none a.nodes)
    (store_untouched a new h.1)

-- a name that was found before
pub found_again : (s : Runtime) (name : List ℕ) (id : SymId) → IsKnown s.nodes s.store → 0 < length name → slice_index_or s.store.symbols id.0 [] ≡ name
    → Does itself any (variable_named name) s s (Ok (Var id))
found_again s [] id k some is = absurd (omega arith)
found_again s (byte ∷ bytes) id k some is =
    let found = numbered_place (byte ∷ bytes) s.store.symbols id.0 k.numbered some is in
    let short : length (byte ∷ bytes) ≤ 1_000_000 =
    subst (λ t. length t ≤ 1_000_000) is (all_at (λ symbol. length symbol ≤ 1_000_000) s.store.symbols id.0 [] k.symbols (omega arith)) in
    let within : place (byte ∷ bytes) s.store.symbols < length s.store.symbols = subst (λ n. n < length s.store.symbols) (sym found.1) found.0 in
    record {
      grows = grows_none s.nodes;
      meets = λ more. rw (
        le-ltb 1_000_000 (length (byte ∷ bytes)) short,
        lt-ltb (place (byte ∷ bytes) s.store.symbols)
            (length s.store.symbols) within,
        found.1,
      ) refl;
      answer = tt;
      unread = refl;
    }

-- a name that is too long
pub name_too_long : (a : Runtime) (name : List ℕ) → 1_000_000 < length name → Does {X = Target} itself any (variable_named name) a a (Err (Halt (HasError 8)))
name_too_long a [] long = absurd (omega arith)
name_too_long a (byte ∷ bytes) long = record {
  grows = grows_none a.nodes;
  meets = λ more. rw (lt-ltb 1_000_000 (length (byte ∷ bytes)) long) (refl, refl);
  answer = tt;
  unread = refl;
}

-- a variable that is read

value_seen : (s : Runtime) (name : Target) (more : List ℕ) → value_in (world s more) name ≡ shown s.nodes (value_of s.store name)
value_seen s (Var id) more = get_or-map (shown s.nodes) s.store.values id.0 (stored.Str [])
value_seen s (Elem object i) more = element_held (shown s.nodes) (stored.Str []) s.store.objects object i
value_seen s (Entry object i) more = entry_held (shown s.nodes) (stored.Str []) s.store.objects object i
value_seen s (Field object i) more = field_held (shown s.nodes) (stored.Str []) s.store.objects object i

value_known : (s : Runtime) (name : Target) → IsKnown s.nodes s.store → IsValueOf s.nodes (value_of s.store name)
value_known s (Var id) k = all_at (IsValueOf s.nodes) s.store.values id.0 (stored.Str []) k.values (omega arith)
value_known s (Elem object i) k = element_known s.nodes s.store.objects object i k.objects
value_known s (Entry object i) k = entry_known s.nodes s.store.objects object i k.objects
value_known s (Field object i) k = field_known s.nodes s.store.objects object i k.objects

pub holds_does : (s : Runtime) (name : Target) (v : Stored) → IsKnown s.nodes s.store → v ≡ value_of s.store name → Does shown IsValueOf (holds name) s s (Ok v)
holds_does s name v k same = record {
  grows = grows_none s.nodes;
  meets = λ more. rw (same, ← value_seen s name more) refl;
  answer = rw same (value_known s name k);
  unread = refl;
}

-- a name as a value

pub named_text : (s : Runtime) (id : SymId) (bytes : List ℕ) → IsKnown s.nodes s.store → bytes ≡ slice_index_or s.store.symbols id.0 []
    → Does shown IsValueOf (name_value (Var id)) s s (Ok (stored.Str bytes))
named_text s id bytes k same = record {
  grows = grows_none s.nodes;
  meets = λ more. rw same refl;
  unread = refl;
  answer = rw same (all_at (λ symbol. length symbol ≤ 1_000_000) s.store.symbols id.0 [] k.symbols (omega arith));
}

-- a variable that is set

pub set_seen : (s : Runtime) (name : Target) (value : Stored) (more : List ℕ) → world (record s { store = with_stored name value s.store }) more
    ≡ with_value name (shown s.nodes value) (world s more)
set_seen s (Var id) value more = ap (λ vs. record (world s more) { values = vs }) (map-set (shown s.nodes) s.store.values id.0 value)
set_seen s (Elem object i) value more = ap (λ os. record (world s more) { objects = os }) (sym (element_set (shown s.nodes) i value s.store.objects object))
set_seen s (Entry object i) value more = ap (λ os. record (world s more) { objects = os }) (sym (entry_set (shown s.nodes) i value s.store.objects object))
set_seen s (Field object i) value more = ap (λ os. record (world s more) { objects = os }) (sym (field_set (shown s.nodes) i value s.store.objects object))

pub set_untouched : (s : Runtime) (name : Target) (value : Stored) → untouched (record s { store = with_stored name value s.store }) ≡ untouched s
set_untouched s (Var id) value = refl
set_untouched s (Elem object i) value = refl
set_untouched s (Entry object i) value = refl
set_untouched s (Field object i) value = refl
