-- Types that a program makes, and the names of types.
use Rattle.std.specs.Prelude.{ℕ, ◌-◌, List, [], ◌++◌, codes, length, replicate, if◌then◌else◌, Result, Ok, Err}
use Rattle.sno_store.specs.declared.functions.Function.{Function}
use Rattle.sno_store.specs.Objects.{object_number}
use Rattle.sno_store.specs.Types.{DataType, with_type, type_name as type_of_object}
use Rattle.sno_runtime.specs.World.{World}
use Rattle.sno_runtime.specs.Values.{Value, Str, Int, Pat, Expr, Name, Array, Table, Data}
use Rattle.sno_runtime.specs.Action.{Error, Got, Action, gives, stops, and_then}
use Rattle.sno_runtime.specs.Functions.{with_text}

-- the prototype's names join the symbols, there is a new type, and the functions have its constructor and its fields
abbrev pub after_type : Result (List (List ℕ) × List DataType × List Function) ℕ → Action Unit
after_type (Ok new) w = record {
  ending = Got tt;
  world = record w {
    symbols = new.0;
    types = new.1;
    functions = new.2;
    values = w.values ++ replicate (length new.0 - length w.symbols) (Str []);
  };
  wrote = [];
}
after_type (Err code) w = stops (Error code) w

abbrev pub makes_type : List ℕ → Action Unit
makes_type prototype w = after_type (with_type prototype w.symbols w.types w.functions) w

abbrev pub type_made : Value → Action Value
type_made p = with_text p (λ prototype. and_then (makes_type prototype) (λ done. gives (Str [])))

-- DATA(p), where DATA is a function
abbrev pub data_called : Value → Action Value
data_called p w = if w.keywords.has_data then type_made p w else stops (Error 4) w

-- the name of a value's type: of an object that of the type that the program made it of
abbrev pub type_name : World → Value → List ℕ
type_name w (Str bytes) = codes "STRING"
type_name w (Int number) = codes "INTEGER"
type_name w (Pat pattern) = codes "PATTERN"
type_name w (Expr expression) = codes "EXPRESSION"
type_name w (Name target) = codes "NAME"
type_name w (Array object) = codes "ARRAY"
type_name w (Table object) = codes "TABLE"
type_name w (Data object) = type_of_object w.types w.objects (object_number object)

-- DATATYPE(x)
abbrev pub datatype : Value → Action Value
datatype x w = gives (Str (type_name w x)) w
