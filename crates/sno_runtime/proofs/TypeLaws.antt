-- What DATA does to the world, and the names of types.
use Rattle.std.proofs.Common.{◌≡◌, ℕ, ◌-◌, ◌==◌, ◌≤◌, nat_lt, Bool, true, false, List, [], ◌∷◌, ◌++◌, if◌then◌else◌, length, map, replicate, slice_get, refl}
use Rattle.std.proofs.Common.{ap, sym, ◌∙◌, subst, arith, Option, None, Some, Result, Ok, Err}
use Rattle.std.specs.List.{AllByRecursion}
use Rattle.sno_value.specs.declared.value.Value.{Value as Stored}
use Rattle.sno_value.specs.declared.value.Value.TheVariants as stored
use Rattle.sno_pattern.specs.Table.{Node}
use Rattle.sno_store.specs.declared.functions.Function.{Function}
use Rattle.sno_store.specs.declared.functions.Function.TheVariants.{Constructs}
use Rattle.sno_store.specs.Store.{Store, place}
use Rattle.sno_store.specs.Definitions.{Prototype, prototype, names, with_names}
use Rattle.sno_store.specs.Functions.{with_function}
use Rattle.sno_store.specs.Outcomes.{IsTyped}
use Rattle.sno_store.specs.Types.{DataType, makes_type, data_type, with_fields, type_in, type_by, with_type, type_with, type_text}
use Rattle.sno_store.specs.declared.error.StoreError.{StoreError}
use Rattle.sno_store.specs.declared.error.StoreError.TheVariants.{NullName, Full, WrongType, BadPrototype, CallLevel, NoMemory}
use Rattle.sno_runtime.specs.declared.stops.Exit.{Exit}
use Rattle.sno_runtime.specs.declared.stops.Exit.TheVariants.{Halt}
use Rattle.sno_runtime.specs.declared.stops.Stop.TheVariants.{Error as HasError}
use Rattle.sno_runtime.specs.Values.{Value, Str, shown, IsValueOf}
use Rattle.sno_runtime.specs.Action.{Error, Got, Stops, Outcome, stops}
use Rattle.sno_runtime.specs.Types.{after_type, makes_type as makes, type_made, data_called, type_name, datatype}
use Rattle.sno_runtime.specs.Runtime.{Runtime, world, IsKnown, itself}
use Rattle.sno_runtime.specs.inner.Runtime.{Meets, Does, any, exit_of_store}
use Rattle.sno_runtime.proofs.Calls.{more_shown}
use Rattle.sno_runtime.proofs.DefinitionLaws.{AreShort, names_short, joined_numbered, joined_short}
use Rattle.sno_runtime.proofs.Members.{IfThere, member, all_end, all_append, all_same}
use Rattle.sno_runtime.proofs.Numbered.{IsNumbered}
use Rattle.sno_runtime.proofs.Outcomes.{grows_none, no_memory_does}
use Rattle.sno_runtime.proofs.Stores.{calls_untouched, store_untouched}

abbrev Told : Type 0
Told = Result (List (List ℕ) × List DataType × List Function) ℕ

-- the symbols behind a prototype of a type are those before it and its names, and the types have one more of its name
data HasType (text : List ℕ) (symbols : List (List ℕ)) (types : List DataType) (new : List (List ℕ)) (after : List DataType) : Type 0 where
  has_type : (p : Prototype) → prototype text ≡ Some p → new ≡ with_names (names p) symbols → after ≡ types ++ data_type p (with_names (names p) symbols) ∷ []
      → HasType text symbols types new after

abbrev made_of : Prototype → List (List ℕ) → List DataType → List Function → List (List ℕ) × List DataType × List Function
made_of p symbols types functions = (
  symbols,
  types ++ data_type p symbols ∷ [],
  with_fields (map (λ name. place name symbols) p.formals) (with_function (place p.function symbols) (Constructs (length types)) functions),
)

typed_names : (text : List ℕ) (symbols : List (List ℕ)) (types : List DataType) (functions : List Function) (new : List (List ℕ) × List DataType
    × List Function) → with_type text symbols types functions ≡ Ok new → HasType text symbols types new.0 new.1
typed_names text symbols types functions new is = by (prototype text) refl is
  where
    within : (p : Prototype) (many : Bool) → prototype text ≡ Some p
        → if◌then◌else◌ {A = Told} many (Err 9) (Ok (made_of p (with_names (names p) symbols) types functions)) ≡ Ok new
        → HasType text symbols types new.0 new.1
    within p true has is = absurd (cc is)
    within p false has is =
        let same : made_of p (with_names (names p) symbols) types functions ≡ new = cc is in
        has_type p has (sym (ap (λ (made : List (List ℕ) × List DataType × List Function). made.0) same))
        (sym (ap (λ (made : List (List ℕ) × List DataType × List Function). made.1) same))

    few : (p : Prototype) (full : Bool) → prototype text ≡ Some p
        → if◌then◌else◌ {A = Told} full (Err 9) (type_in p (with_names (names p) symbols) types functions) ≡ Ok new → HasType text symbols types new.0 new.1
    few p true has is = absurd (cc is)
    few p false has is = within p (nat_lt 1_000_000 (length (with_names (names p) symbols))) has is

    sound : (p : Prototype) (b : Bool) → prototype text ≡ Some p
        → if◌then◌else◌ {A = Told} b (if length types == 100_000 then Err 9 else type_in p (with_names (names p) symbols) types functions) (Err 12) ≡ Ok new
        → HasType text symbols types new.0 new.1
    sound p true has is = few p (length types == 100_000) has is
    sound p false has is = absurd (cc is)

    by : (o : Option Prototype) → prototype text ≡ o → type_by symbols types functions o ≡ Ok new → HasType text symbols types new.0 new.1
    by None has is = absurd (cc is)
    by (Some p) has is = sound p (makes_type p) has is

-- a type has a short name
abbrev pub HasShortName : ℕ → DataType → Type 0
HasShortName n t = length t.name ≤ n

typed_numbered : (text : List ℕ) (symbols new : List (List ℕ)) (types after : List DataType) → HasType text symbols types new after
    → IsNumbered symbols → IsNumbered new
typed_numbered text symbols new types after (has_type p has same one) k = subst IsNumbered (sym same) (joined_numbered (names p) symbols k)

typed_short : (n : ℕ) (text : List ℕ) (symbols new : List (List ℕ)) (types after : List DataType) → length text ≤ n → HasType text symbols types new after
    → AreShort n symbols → AreShort n new
typed_short n text symbols new types after short (has_type p has same one) k =
    subst (AreShort n) (sym same) (joined_short n (names p) symbols (names_short n text p short has) k)

types_short : (n : ℕ) (text : List ℕ) (symbols new : List (List ℕ)) (types after : List DataType) → length text ≤ n → HasType text symbols types new after
    → AllByRecursion (HasShortName n) types → AllByRecursion (HasShortName n) after
types_short n text symbols new types after short (has_type p has same one) k =
    let name = names_short n text p short has in
    subst (AllByRecursion (HasShortName n)) (sym one) (all_end (HasShortName n) types (data_type p (with_names (names p) symbols)) k name.0)

-- DATA

pub typed : (s : Runtime) (new : Store) (text : List ℕ) (done : Unit {0}) → IsTyped text s.store new (Ok done)
    → Does itself any (makes text) s (record s { store = new }) (Ok done)
typed s new text done h = record {
  grows = grows_none s.nodes;
  meets = λ more.
      ap (λ (r : Told). after_type r (world s more)) h.0
      ∙ ((λ i. record {
        ending = Got tt;
        world = record (world s more) {
          symbols = new.symbols;
          types = new.types;
          functions = new.functions;
          values = sym (more_shown s.nodes s.store.values (length new.symbols - length s.store.symbols)) i;
        };
        wrote = [];
      })
      ∙ ap (λ (c : Store). record { ending = Got tt; world = world (record s { store = c }) more; wrote = [] }) (sym h.1));
  answer = tt;
  unread = calls_untouched s new (ap (λ (c : Store). c.calls) h.1);
}

refused_with : (s : Runtime) (new : Store) (text : List ℕ) (code : ℕ) → new ≡ s.store
    → with_type text s.store.symbols s.store.types s.store.functions ≡ Err code
    → Does {X = Unit {0}} itself any (makes text) s (record s { store = new }) (Err (Halt (HasError code)))
refused_with s new text code same is =
    let ended : (more : List ℕ) → makes text (world s more) ≡ record { ending = Stops (Error code); world = world s more; wrote = [] } =
    λ more. ap (λ (r : Told). after_type r (world s more)) is
    in
    record {
      grows = grows_none s.nodes;
      meets = λ more. (ap (λ (o : Outcome Unit). o.ending) (ended more), ap (λ (o : Outcome Unit). o.wrote) (ended more));
      answer = tt;
      unread = store_untouched s new same;
    }

pub not_typed : (s : Runtime) (new : Store) (text : List ℕ) (e : StoreError) → IsTyped text s.store new (Err e)
    → Does {X = Unit {0}} itself any (makes text) s (record s { store = new }) (Err (exit_of_store e))
not_typed s new text NullName h = refused_with s new text 6 h.1 h.0
not_typed s new text Full h = refused_with s new text 9 h.1 h.0
not_typed s new text WrongType h = refused_with s new text 1 h.1 h.0
not_typed s new text BadPrototype h = refused_with s new text 12 h.1 h.0
not_typed s new text CallLevel h = refused_with s new text 10 h.1 h.0
not_typed s new text NoMemory h = no_memory_does itself any (makes text) s (record s { store = new }) (grows_none s.nodes) (store_untouched s new h.1)

pub typed_known : (nodes : List Node) (old new : Store) (text : List ℕ) (done : Unit {0}) → length text ≤ 1_000_000 → IsKnown nodes old
    → IsTyped text old new (Ok done) → IsKnown nodes new
typed_known nodes old new text done short k h =
    let has = typed_names text old.symbols old.types old.functions (new.symbols, new.types, new.functions) h.0 in
    subst (IsKnown nodes) (sym h.1) (record {
      symbols = typed_short 1_000_000 text old.symbols new.symbols old.types new.types short has k.symbols;
      numbered = typed_numbered text old.symbols new.symbols old.types new.types has k.numbered;
      values = all_append (IsValueOf nodes) old.values (replicate (length new.symbols - length old.symbols) (stored.Str [])) k.values
          (all_same (IsValueOf nodes) (length new.symbols - length old.symbols) (stored.Str []) (omega arith));
      objects = k.objects;
      types = types_short 1_000_000 text old.symbols new.symbols old.types new.types short has k.types;
      calls = k.calls;
    })

-- where DATA is a function, and where it is none

chosen : (p : Value) (s : Runtime) (more : List ℕ) (has : Bool) → s.keywords.has_data ≡ has → data_called p (world s more)
    ≡ (if has then type_made p (world s more) else stops (Error 4) (world s more))
chosen p s more has is = ap (λ b. if b then type_made p (world s more) else stops (Error 4) (world s more)) is

pub with_data : (p : Value) (a b : Runtime) (r : Result Stored Exit) → a.keywords.has_data ≡ true → Does shown IsValueOf (type_made p) a b r
    → Does shown IsValueOf (data_called p) a b r
with_data p a b r has h = record {
  grows = h.grows;
  meets = λ more. subst (λ (o : Outcome Value). Meets (shown b.nodes) o (world b more) r) (sym (chosen p a more true has)) (h.meets more);
  answer = h.answer;
  unread = h.unread;
}

pub without_data : (p : Value) (s : Runtime) → s.keywords.has_data ≡ false → Does {X = Stored} shown IsValueOf (data_called p) s s (Err (Halt (HasError 4)))
without_data p s none = record {
  grows = grows_none s.nodes;
  meets = λ more. (ap (λ (o : Outcome Value). o.ending) (chosen p s more false none), ap (λ (o : Outcome Value). o.wrote) (chosen p s more false none));
  answer = tt;
  unread = refl;
}

-- names of types

pub type_text_short : (types : List DataType) (o : Option ℕ) → AllByRecursion (HasShortName 1_000_000) types
    → length (type_text (type_with types o)) ≤ 1_000_000
type_text_short types None h = omega arith
type_text_short types (Some n) h = by (slice_get types n) (member (HasShortName 1_000_000) types n h)
  where
    by : (o : Option DataType) → IfThere (HasShortName 1_000_000) o → length (type_text o) ≤ 1_000_000
    by None h = omega arith
    by (Some t) h = h

pub type_given : (s : Runtime) (v : Stored) (bytes : List ℕ) → ((more : List ℕ) → bytes ≡ type_name (world s more) (shown s.nodes v)) → length bytes ≤ 1_000_000
    → Does shown IsValueOf (datatype (shown s.nodes v)) s s (Ok (stored.Str bytes))
type_given s v bytes same short = record {
  grows = grows_none s.nodes;
  meets = λ more. ap (λ (t : List ℕ). record { ending = Got (Str t); world = world s more; wrote = [] }) (sym (same more));
  answer = short;
  unread = refl;
}
