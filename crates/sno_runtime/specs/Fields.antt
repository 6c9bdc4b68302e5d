-- Objects of a program's own types, and their fields.
use Rattle.std.specs.Prelude.{ℕ, Bool, true, false, if◌then◌else◌, List, [], Option, None, Some}
use Rattle.sno_value.specs.declared.ids.ObjId.{ObjId}
use Rattle.sno_value.specs.declared.value.Name.{Name as Target}
use Rattle.sno_store.specs.declared.functions.Function.{Function}
use Rattle.sno_store.specs.declared.functions.Function.TheVariants.{Undefined, Defined, Constructs, IsField}
use Rattle.sno_store.specs.Functions.{is_field_at}
use Rattle.sno_store.specs.Objects.{object_number}
use Rattle.sno_store.specs.Symbols.{found as symbol_found}
use Rattle.sno_store.specs.Types.{new_data, field_name}
use Rattle.sno_runtime.specs.Values.{Value, Str, Name, Data}
use Rattle.sno_runtime.specs.Action.{Error, Action, gives, stops, either, and_then}
use Rattle.sno_runtime.specs.Variables.{wrong_type, holds}
use Rattle.sno_runtime.specs.Containers.{does}

-- a new object of a type: missing arguments are null, and extra ones are dropped
abbrev pub makes_object : ℕ → List Value → Action ObjId
makes_object number xs w = does (new_data (Str []) w.types number xs) w

abbrev pub constructs : ℕ → List Value → Action Value
constructs number xs = and_then (makes_object number xs) (λ id. gives (Data id.0))

-- the field of an object that a symbol names; where its type has none, or the value is no object, it is error 1
abbrev pub field_of : ℕ → Value → Action Target
field_of symbol (Data n) w = either wrong_type gives (field_name w.types w.objects (object_number n) symbol) w
field_of symbol other w = wrong_type w

-- F(x) as a value
abbrev pub field_value : ℕ → Value → Action Value
field_value symbol x = and_then (field_of symbol x) holds

-- whether a function's name is a field now, without a look at the arguments; where it is none the call has no name
abbrev pub is_field_named : Option ℕ → List Function → Bool
is_field_named (Some symbol) functions = is_field_at functions symbol
is_field_named None functions = false

abbrev pub asks_field : List ℕ → Action Value
asks_field function w = if is_field_named (symbol_found function w.symbols) w.functions
    then gives (Str []) w else stops (Error 15) w

-- F(x) as a name
abbrev pub field_as_name : List ℕ → Value → Action Value
field_as_name function x w =
    and_then (either wrong_type (λ symbol. field_of symbol x) (symbol_found function w.symbols))
    (λ target. gives (Name target)) w

-- whether the program has made a function's name a function
abbrev pub is_made : Function → Bool
is_made Undefined = false
is_made (Defined d) = true
is_made (Constructs number) = true
is_made IsField = true
