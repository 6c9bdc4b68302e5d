-- What a store holds, and what its calls do with that.
use Rattle.std.specs.Prelude.{◌≡◌, ℕ, ◌==◌, List, [], ◌∷◌, ◌++◌, codes, length, slice_index_or, slice_set, Result, Ok}
use Rattle.std.specs.Prelude.{Err, IsOk, if◌then◌else◌}
use Rattle.sno_value.specs.declared.ids.SymId.{SymId}
use Rattle.sno_value.specs.declared.value.Name.{Name}
use Rattle.sno_value.specs.declared.value.Name.TheVariants.{Var, Elem, Entry, Field}
use Rattle.sno_value.specs.declared.value.Value.{Value}
use Rattle.sno_value.specs.declared.value.Value.TheVariants.{Str, Pat}
use Rattle.sno_store.specs.declared.error.StoreError.{StoreError}
use Rattle.sno_store.specs.declared.error.StoreError.TheVariants.{NullName, Full, NoMemory}
use Rattle.sno_store.specs.declared.functions.Function.{Function}
pub use Rattle.sno_store.specs.Names.{place, is_symbol}
use Rattle.sno_store.specs.Objects.{Object, array_at, table_at, fields_at, element_value, entry_value, field_value}
use Rattle.sno_store.specs.Objects.{with_element, with_entry_value, with_field, changed}
use Rattle.sno_store.specs.Types.{DataType}

-- What a store holds.
pub record Store : Type 0 where
  -- the symbols, in the order in which they joined
  pub symbols : List (List ℕ)
  -- the values of the variables, by the symbols' numbers
  pub values : List Value
  -- the arrays, the tables and the objects of a program's own types, by their numbers
  pub objects : List (Object Value)
  -- these types, by their numbers
  pub types : List DataType
  -- what the names of functions are, by the numbers of their symbols; nothing behind the list's end
  pub functions : List Function
  -- what the open calls have saved, the innermost call last: the symbols, each with the value that its variable had
  pub calls : List (List (ℕ × Value))

-- the number that a name is given, or why it is refused
abbrev pub joining : List ℕ → List (List ℕ) → Result ℕ StoreError
joining [] symbols = Err NullName
joining (byte ∷ bytes) symbols =
    if is_symbol (byte ∷ bytes) symbols then Ok (place (byte ∷ bytes) symbols)
    else (if length symbols == 1_000_000 then Err Full else Ok (length symbols))

-- a name joins the symbols where it is none of them, and begins with the null string
abbrev pub with_symbol : List ℕ → Store → Store
with_symbol name c = if is_symbol name c.symbols then c
    else record c { symbols = c.symbols ++ name ∷ []; values = c.values ++ Str [] ∷ [] }

-- what `symbol` did
abbrev pub IsJoined : List ℕ → Store → Store → Result SymId StoreError → Type 0
IsJoined name old new (Ok id) = (joining name old.symbols ≡ Ok id.0) × (new ≡ with_symbol name old)
IsJoined name old new (Err NoMemory) = IsOk (joining name old.symbols) × (new ≡ old)
IsJoined name old new (Err refusal) = (joining name old.symbols ≡ Err refusal) × (new ≡ old)

-- the value of what is named; null where the store has no such name
abbrev pub value_of : Store → Name → Value
value_of c (Var symbol) = slice_index_or c.values symbol.0 (Str [])
value_of c (Elem object k) = element_value (Str []) (array_at c.objects object) k
value_of c (Entry object k) = entry_value (Str []) (table_at c.objects object) k
value_of c (Field object k) = field_value (Str []) (fields_at c.objects object) k

-- what is named is given a value; nothing changes where the store has no such name
abbrev pub with_value : Name → Value → Store → Store
with_value (Var symbol) value c = record c { values = slice_set c.values symbol.0 value }
with_value (Elem object k) value c = record c { objects = changed (with_element k value) c.objects object }
with_value (Entry object k) value c = record c { objects = changed (with_entry_value k value) c.objects object }
with_value (Field object k) value c = record c { objects = changed (with_field k value) c.objects object }

abbrev pub pattern : ℕ → Value
pattern n = Pat (record { 0 = n })

-- a new store: the variables that begin with a pattern, then INPUT and OUTPUT, which begin with null
abbrev pub new_store : Store
new_store = record {
  symbols = codes "ARB" ∷ codes "BAL" ∷ codes "REM" ∷ codes "FAIL" ∷ codes "FENCE" ∷ codes "ABORT" ∷ codes "SUCCEED"
      ∷ codes "INPUT" ∷ codes "OUTPUT" ∷ [];
  values = pattern 0 ∷ pattern 1 ∷ pattern 2 ∷ pattern 3 ∷ pattern 4 ∷ pattern 5 ∷ pattern 6 ∷ Str [] ∷ Str [] ∷ [];
  objects = [];
  types = [];
  functions = [];
  calls = [];
}
