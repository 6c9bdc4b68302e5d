-- What a call did, beside what is meant: a value, or the number of an error.
use Rattle.std.specs.Prelude.{◌≡◌, ◌<◌, ℕ, ◌-◌, List, [], ◌∷◌, ◌++◌, length, replicate, Result, Ok, Err, IsOk}
use Rattle.sno_value.specs.declared.ids.SymId.{SymId}
use Rattle.sno_value.specs.declared.value.Value.{Value}
use Rattle.sno_value.specs.declared.value.Value.TheVariants.{Str}
use Rattle.sno_store.specs.declared.error.StoreError.{StoreError}
use Rattle.sno_store.specs.declared.error.StoreError.TheVariants.{NullName, Full, WrongType, BadPrototype, CallLevel}
use Rattle.sno_store.specs.declared.error.StoreError.TheVariants.{NoMemory}
use Rattle.sno_store.specs.Calls.{saved, entered}
use Rattle.sno_store.specs.Store.{Store}
use Rattle.sno_store.specs.Definitions.{Definition}
use Rattle.sno_store.specs.Functions.{with_definition}
use Rattle.sno_store.specs.Objects.{Object}
use Rattle.sno_store.specs.Types.{with_type}

-- the error that is meant is told by its name; that memory was refused is told only where a success is meant
abbrev pub IsError : {A : Type 0} → Result A ℕ → StoreError → Type 0
IsError meant NullName = meant ≡ Err 6
IsError meant Full = meant ≡ Err 9
IsError meant WrongType = meant ≡ Err 1
IsError meant BadPrototype = meant ≡ Err 12
IsError meant CallLevel = meant ≡ Err 10
IsError meant NoMemory = IsOk meant

-- What a call did that asks for no memory and changes nothing; `see` says what an answer stands for.
abbrev pub IsAnswered : {X A : Type 0} → (X → A) → Result A ℕ → Result X StoreError → Type 0
IsAnswered see meant (Ok x) = meant ≡ Ok (see x)
IsAnswered see meant (Err NoMemory) = ⊥
IsAnswered see meant (Err refusal) = IsError meant refusal

-- What a call did that changes no more than the objects, and nothing where it is refused.
abbrev pub IsDone : {X A : Type 0} → (X → A) → (List (Object Value) → Result (A × List (Object Value)) ℕ) → Store
    → Store → Result X StoreError → Type 0
IsDone see meant old new (Ok x) = (meant old.objects ≡ Ok (see x, new.objects))
    × (new ≡ record old { objects = new.objects })
IsDone see meant old new (Err refusal) = IsError (meant old.objects) refusal × (new ≡ old)

abbrev pub itself : {X : Type 0} → X → X
itself x = x

-- What DEFINE did: the names joined, the variables of the new
-- ones begin with null, and the function has its definition.
abbrev pub IsDefined : List ℕ → List ℕ → Store → Store → Result (Unit {0}) StoreError → Type 0
IsDefined text entry old new (Ok done) =
    (with_definition text entry old.symbols old.functions ≡ Ok (new.symbols, new.functions)) ×
    (new ≡ record old {
      symbols = new.symbols;
      functions = new.functions;
      values = old.values ++ replicate (length new.symbols - length old.symbols) (Str []);
    })
IsDefined text entry old new (Err refusal) =
    IsError (with_definition text entry old.symbols old.functions) refusal × (new ≡ old)

-- What DATA did: the names joined, the variables of the new ones begin with null, and the names have their type.
abbrev pub IsTyped : List ℕ → Store → Store → Result (Unit {0}) StoreError → Type 0
IsTyped text old new (Ok done) =
    (with_type text old.symbols old.types old.functions ≡ Ok (new.symbols, new.types, new.functions)) ×
    (new ≡ record old {
      symbols = new.symbols;
      types = new.types;
      functions = new.functions;
      values = old.values ++ replicate (length new.symbols - length old.symbols) (Str []);
    })
IsTyped text old new (Err refusal) = IsError (with_type text old.symbols old.types old.functions) refusal × (new ≡ old)

-- What the begin of a call of a function with this definition did. There are at most 200 open calls (this profile).
abbrev pub IsEntered : SymId → Definition → List Value → Store → Store → Result (Unit {0}) StoreError → Type 0
IsEntered function d arguments old new (Ok done) =
    (length old.calls < 200) ×
    (new ≡ record old {
      values = entered (Str []) function.0 d arguments old.values;
      calls = old.calls ++ saved (Str []) function.0 d old.values ∷ [];
    })
IsEntered function d arguments old new (Err CallLevel) = (length old.calls ≡ 200) × (new ≡ old)
IsEntered function d arguments old new (Err NoMemory) = (length old.calls < 200) × (new ≡ old)
IsEntered function d arguments old new (Err other) = ⊥
