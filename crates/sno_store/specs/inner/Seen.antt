-- What private calls say of objects, of calls and of prototypes. Private contracts alone cite it.
use Rattle.std.specs.Prelude.{◌≡◌, ℕ, ◌+◌, max, ◌==◌, List, [], ◌∷◌, ◌++◌, length, map, take, drop}
use Rattle.std.specs.Prelude.{slice_index_or, slice_set}
use Rattle.std.specs.Prelude.{Option, None, Some, Result, Ok, Err, if◌then◌else◌}
use Rattle.sno_value.specs.declared.ids.SymId.{SymId}
use Rattle.sno_value.specs.declared.value.Value.{Value}
use Rattle.sno_value.specs.declared.value.Value.TheVariants.{Str}
use Rattle.sno_store.specs.declared.error.StoreError.{StoreError}
use Rattle.sno_store.specs.declared.function_prototype.FunctionPrototype.{FunctionPrototype}
use Rattle.sno_store.specs.declared.object.Object.{Object as Kept}
use Rattle.sno_store.specs.declared.object.Object.TheVariants.{Array, Table, Data}
use Rattle.sno_store.specs.Definitions.{Prototype, listed}
use Rattle.sno_store.specs.Objects.{Object, ArrayOf, TableOf, DataOf}
use Rattle.sno_store.specs.Outcomes.{IsError}
use Rattle.sno_store.specs.Stored.{stored_notions}
use Rattle.sno_store.specs.Tables.{entry_place}

-- the object that is kept
abbrev pub seen : Kept → Object Value
seen (Array elements) = ArrayOf elements.value
seen (Table entries) = TableOf entries.value
seen (Data instance) = DataOf instance.data_type instance.fields.items

-- what a call on the objects did
abbrev pub Does : {X : Type 0} → (List (Object Value) → Result (X × List (Object Value)) ℕ) → List (Object Value)
    → List (Object Value) → Result X StoreError → Type 0
Does meant old new (Ok x) = meant old ≡ Ok (x, new)
Does meant old new (Err refusal) = IsError (meant old) refusal × (new ≡ old)

-- the entries with an entry for the key, which goes last with null where there was none; beside 1,000,000 others it is
-- error 9
abbrev pub with_key : Value → List (Value × Value) → Option ℕ → Result (ℕ × List (Value × Value)) ℕ
with_key key entries (Some place) = Ok (place, entries)
with_key key entries None =
    if length entries == 1_000_000 then Err 9 else Ok (length entries, entries ++ (key, Str []) ∷ [])

-- what a call on the entries of a table did
abbrev pub IsEntry : Value → List (Value × Value) → List (Value × Value) → Result ℕ StoreError → Type 0
IsEntry key old new (Ok place) = with_key key old (entry_place stored_notions key old) ≡ Ok (place, new)
IsEntry key old new (Err refusal) =
    IsError (with_key key old (entry_place stored_notions key old)) refusal × (new ≡ old)

-- what the parts of a prototype say
abbrev pub prototype_seen : FunctionPrototype → Prototype
prototype_seen p = record { function = p.function.now; formals = listed p.formals.now; locals = listed p.locals.now }

-- how long a list is that has a place for each of these symbols
abbrev pub reach : List SymId → ℕ
reach [] = 0
reach (symbol ∷ symbols) = max (symbol.0 + 1) (reach symbols)

-- Values are moved out of variables, which are null from then on: of a symbol that stands more than once, the value
-- goes with the first.
abbrev pub moved : List SymId → List Value → List (SymId × Value)
moved [] values = []
moved (symbol ∷ symbols) values =
    (symbol, slice_index_or values symbol.0 (Str [])) ∷ moved symbols (slice_set values symbol.0 (Str []))

-- a symbol's value, wherever it stands
abbrev pub known : ℕ → Value → List (ℕ × Value) → List (ℕ × Value)
known symbol value ss = map (λ s. (s.0, if symbol == s.0 then value else s.1)) ss

-- what was saved, each symbol with the value that went with the first of it
abbrev pub saved_seen : List (SymId × Value) → List (ℕ × Value)
saved_seen [] = []
saved_seen (s ∷ ss) = (s.0.0, s.1) ∷ known s.0.0 s.1 (saved_seen ss)

-- what was saved, as it is kept
abbrev pub numbered : List (SymId × Value) → List (ℕ × Value)
numbered ss = map (λ s. (s.0.0, s.1)) ss

-- what each of the open calls has saved, by how many values each has saved
abbrev pub calls_seen : List ℕ → List (SymId × Value) → List (List (ℕ × Value))
calls_seen [] ss = []
calls_seen (count ∷ counts) ss = saved_seen (take count ss) ∷ calls_seen counts (drop count ss)
