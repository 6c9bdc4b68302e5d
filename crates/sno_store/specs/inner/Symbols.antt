-- Words of private clauses: symbols and variables that join.
use Rattle.std.specs.Prelude.{◌≡◌, ℕ, ◌<◌, ◌≤◌, List, [], ◌∷◌, ◌++◌, codes, length, map, slice_index_or, Vec}
use Rattle.std.specs.Prelude.{Result, Ok, Err}
use Rattle.std.specs.declared.alloc.Global.{Global}
use Rattle.sno_value.specs.declared.ids.SymId.{SymId}
use Rattle.sno_value.specs.declared.value.Value.{Value}
use Rattle.sno_store.specs.declared.error.StoreError.{StoreError}
use Rattle.sno_store.specs.declared.error.StoreError.TheVariants.{Full, NoMemory}
use Rattle.sno_store.specs.Store.{Store, place, pattern}
use Rattle.sno_store.specs.declared.functions.Function.TheVariants.{Constructs, Defined}
use Rattle.sno_store.specs.Definitions.{Prototype, names, with_names, definition}
use Rattle.sno_store.specs.Functions.{with_function}
use Rattle.sno_store.specs.Types.{data_type, with_fields}
use Rattle.sno_store.specs.Symbols.{HasKey, HasMore}

-- keys are those of the symbols in the same places; 1, which no name has, where none is kept
abbrev pub AreKeysOf : List (List ℕ) → List ℕ → Type 0
AreKeysOf symbols keys = (i : ℕ) → HasKey i (slice_index_or keys i 1) symbols

-- a name joins with a value
abbrev pub appended : List ℕ → Value → Store → Store
appended name value c = record c { symbols = c.symbols ++ name ∷ []; values = c.values ++ value ∷ [] }

-- a new store by stages: nothing, then with the variables of the patterns that search for an end, then with those of
-- the patterns that steer the search
abbrev pub no_contents : Store
no_contents = record { symbols = []; values = []; objects = []; types = []; functions = []; calls = [] }

abbrev pub with_searches : Store
with_searches = record {
  symbols = codes "ARB" ∷ codes "BAL" ∷ codes "REM" ∷ codes "FAIL" ∷ [];
  values = pattern 0 ∷ pattern 1 ∷ pattern 2 ∷ pattern 3 ∷ [];
  objects = [];
  types = [];
  functions = [];
  calls = [];
}

abbrev pub with_controls : Store
with_controls = record {
  symbols = codes "ARB" ∷ codes "BAL" ∷ codes "REM" ∷ codes "FAIL" ∷ codes "FENCE"
      ∷ codes "ABORT" ∷ codes "SUCCEED" ∷ [];
  values = pattern 0 ∷ pattern 1 ∷ pattern 2 ∷ pattern 3 ∷ pattern 4 ∷ pattern 5 ∷ pattern 6 ∷ [];
  objects = [];
  types = [];
  functions = [];
  calls = [];
}

-- why names could not join: the symbols would be too many, or memory was refused
abbrev pub AreTooMany : List (List ℕ) → List (List ℕ) → StoreError → Type 0
AreTooMany ns symbols NoMemory = Unit {0}
AreTooMany ns symbols Full = 1_000_000 < length (with_names ns symbols)
AreTooMany ns symbols other = ⊥

-- what the call that joins names did
abbrev pub AreJoined : List (List ℕ) → Store → Store → Result (Vec SymId Global) StoreError → Type 0
AreJoined ns old new (Ok numbers) =
    (new.symbols ≡ with_names ns old.symbols) × HasMore old new
    × (map (λ id. id.0) numbers.items ≡ map (λ name. place name new.symbols) ns) × (length new.symbols ≤ 1_000_000)
AreJoined ns old new (Err refusal) = AreTooMany ns old.symbols refusal × HasMore old new

-- what the call that defines a function by the parts of its prototype did
abbrev pub IsDefinedByParts : Prototype → List ℕ → Store → Store → Result (Unit {0}) StoreError → Type 0
IsDefinedByParts p entry old new (Ok done) =
    (new.symbols ≡ with_names (names p) old.symbols) ×
    (length new.symbols ≤ 1_000_000) ×
    HasMore old (record new { functions = old.functions }) ×
    (new.functions ≡ with_function (place p.function new.symbols)
    (Defined (definition entry p new.symbols)) old.functions)
IsDefinedByParts p entry old new (Err refusal) = AreTooMany (names p) old.symbols refusal × HasMore old new

-- what the call that makes a type by the parts of its prototype did
abbrev pub IsTypedByParts : Prototype → Store → Store → Result (Unit {0}) StoreError → Type 0
IsTypedByParts p old new (Ok done) =
    (new.symbols ≡ with_names (names p) old.symbols) ×
    (length new.symbols ≤ 1_000_000) ×
    HasMore old (record new { types = old.types; functions = old.functions }) ×
    (new.types ≡ old.types ++ data_type p new.symbols ∷ []) ×
    (new.functions ≡ with_fields (map (λ name. place name new.symbols) p.formals)
    (with_function (place p.function new.symbols) (Constructs (length old.types)) old.functions))
IsTypedByParts p old new (Err refusal) = AreTooMany (names p) old.symbols refusal × HasMore old new
