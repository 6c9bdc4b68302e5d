-- What tables ask of stored values.
use Rattle.std.specs.Prelude.{◌==◌, Bool, true, false, ◌&&◌, []}
use Rattle.std.specs.Ordering.{int_eq}
use Rattle.std.specs.Str.{bytes_eq}
use Rattle.sno_value.specs.declared.value.Name.{Name as Target}
use Rattle.sno_value.specs.declared.value.Name.TheVariants.{Var, Elem, Entry, Field}
use Rattle.sno_value.specs.declared.value.Value.{Value}
use Rattle.sno_value.specs.declared.value.Value.TheVariants.{Str, Int, Pat, Expr, Name, Array, Table, Data}
use Rattle.sno_store.specs.Tables.{Notions}

abbrev pub is_null : Value → Bool
is_null (Str []) = true
is_null other = false

-- patterns and expressions are no keys
abbrev pub is_key : Value → Bool
is_key (Pat pattern) = false
is_key (Expr expression) = false
is_key other = true

abbrev pub same_name : Target → Target → Bool
same_name (Var a) (Var b) = a.0 == b.0
same_name (Elem a i) (Elem b j) = a.0 == b.0 && i == j
same_name (Entry a i) (Entry b j) = a.0 == b.0 && i == j
same_name (Field a i) (Field b j) = a.0 == b.0 && i == j
same_name a b = false

-- whether two keys are of equal type and value; an object is equal to itself alone
abbrev pub same_key : Value → Value → Bool
same_key (Str a) (Str b) = bytes_eq a b
same_key (Int a) (Int b) = int_eq a b
same_key (Name a) (Name b) = same_name a b
same_key (Array a) (Array b) = a.0 == b.0
same_key (Table a) (Table b) = a.0 == b.0
same_key (Data a) (Data b) = a.0 == b.0
same_key a b = false

abbrev pub stored_notions : Notions Value
stored_notions = record { null = Str []; is_null = is_null; is_key = is_key; same = same_key }
