-- Types of a program's own: what a prototype of DATA says, and the objects of a type.
use Rattle.std.specs.Prelude.{ℕ, zero, suc, nat_le, nat_lt, ◌==◌, Bool, true, not, ◌&&◌, ◌||◌, List, [], ◌∷◌, ◌++◌}
use Rattle.std.specs.Prelude.{codes, length, map, position, option_map, slice_get, Option, None, Some, Result, Ok, Err}
use Rattle.std.specs.Prelude.{if◌then◌else◌}
use Rattle.std.specs.List.{list_all, list_any}
use Rattle.std.specs.Str.{bytes_eq}
use Rattle.sno_value.specs.declared.ids.ObjId.{ObjId}
use Rattle.sno_value.specs.declared.value.Name.{Name}
use Rattle.sno_value.specs.declared.value.Name.TheVariants.{Field}
use Rattle.sno_store.specs.declared.functions.Function.{Function}
use Rattle.sno_store.specs.declared.functions.Function.TheVariants.{Constructs, IsField}
use Rattle.sno_store.specs.Definitions.{Prototype, is_name, names, prototype, with_names}
use Rattle.sno_store.specs.Functions.{with_function}
use Rattle.sno_store.specs.Names.{place}
use Rattle.sno_store.specs.Objects.{Object, DataOf, type_at, joined}

pub record DataType : Type 0 where
  pub name : List ℕ
  -- the numbers of the symbols of its fields, in the prototype's order
  pub fields : List ℕ

-- the types of the language, by the names that DATATYPE gives
abbrev pub is_of_language : List ℕ → Bool
is_of_language name =
    bytes_eq name (codes "STRING") || bytes_eq name (codes "INTEGER") || bytes_eq name (codes "PATTERN")
    || bytes_eq name (codes "ARRAY")
    || bytes_eq name (codes "TABLE") || bytes_eq name (codes "NAME") || bytes_eq name (codes "EXPRESSION")

-- no name is one of those before it, nor of the first ones
abbrev pub are_new : List (List ℕ) → List (List ℕ) → Bool
are_new firsts [] = true
are_new firsts (name ∷ names) = not (list_any (bytes_eq name) firsts) && are_new (firsts ++ name ∷ []) names

-- A prototype `T(F,G)` makes a type: it has 1 to 99 fields, which stand where a function has its formals, so at most
-- 100 names (this profile), and nothing behind them; all are names, and none stands twice; and the language has no type
-- of this name.
abbrev pub makes_type : Prototype → Bool
makes_type p =
    nat_le 1 (length p.formals) && nat_le (length p.formals) 99 && length p.locals == 0 && is_name p.function
    && list_all is_name p.formals && are_new (p.function ∷ []) p.formals
    && not (is_of_language p.function)

-- the type that a prototype makes, by the numbers of these symbols
abbrev pub data_type : Prototype → List (List ℕ) → DataType
data_type p symbols = record { name = p.function; fields = map (λ name. place name symbols) p.formals }

-- these functions are fields, and the others are what they were
abbrev pub with_fields : List ℕ → List Function → List Function
with_fields [] functions = functions
with_fields (field ∷ fields) functions = with_fields fields (with_function field IsField functions)

-- the symbols with the names, the types with a new last one, and the functions with its constructor and its fields;
-- more than 1,000,000 symbols are error 9 (this profile)
abbrev pub type_in : Prototype → List (List ℕ) → List DataType → List Function
    → Result (List (List ℕ) × List DataType × List Function) ℕ
type_in p symbols types functions =
    if nat_lt 1_000_000 (length symbols) then Err 9
    else Ok (
      symbols,
      types ++ data_type p symbols ∷ [],
      with_fields (map (λ name. place name symbols) p.formals)
          (with_function (place p.function symbols) (Constructs (length types)) functions),
    )

-- beside 100,000 types it is error 9 (this profile)
abbrev pub type_by : List (List ℕ) → List DataType → List Function → Option Prototype
    → Result (List (List ℕ) × List DataType × List Function) ℕ
type_by symbols types functions (Some p) =
    if makes_type p then (if length types == 100_000 then Err 9
    else type_in p (with_names (names p) symbols) types functions) else Err 12
type_by symbols types functions None = Err 12

-- the symbols, the types and the functions behind DATA; another text than a prototype that makes a type is error 12
abbrev pub with_type : List ℕ → List (List ℕ) → List DataType → List Function
    → Result (List (List ℕ) × List DataType × List Function) ℕ
with_type text symbols types functions = type_by symbols types functions (prototype text)

abbrev pub type_fields : Option DataType → List ℕ
type_fields (Some t) = t.fields
type_fields None = []

abbrev pub type_text : Option DataType → List ℕ
type_text (Some t) = t.name
type_text None = []

abbrev pub type_with : List DataType → Option ℕ → Option DataType
type_with types (Some number) = slice_get types number
type_with types None = None

module _ {V : Type 0} where
  -- the type of an object, if the number is one's
  abbrev pub object_type : List DataType → List (Object V) → ObjId → Option DataType
  object_type types objects id = type_with types (type_at objects id)

  -- the field of an object that a symbol names, if its type has one
  abbrev pub field_name : List DataType → List (Object V) → ObjId → ℕ → Option Name
  field_name types objects id symbol =
      option_map (Field id) (position (λ field. field == symbol) (type_fields (object_type types objects id)))

  -- the name of an object's type; null where the number is no object's
  abbrev pub type_name : List DataType → List (Object V) → ObjId → List ℕ
  type_name types objects id = type_text (object_type types objects id)

  -- the values of so many fields: missing ones are null, and extra ones are dropped
  abbrev pub field_values : V → ℕ → List V → List V
  field_values null zero values = []
  field_values null (suc n) [] = null ∷ field_values null n []
  field_values null (suc n) (value ∷ values) = value ∷ field_values null n values

  -- a new object of a type
  abbrev pub new_data : V → List DataType → ℕ → List V → List (Object V) → Result (ObjId × List (Object V)) ℕ
  new_data null types number values objects =
      joined (DataOf number (field_values null (length (type_fields (slice_get types number))) values)) objects
