-- Arrays and tables, as a program makes and reads them.
use Rattle.std.specs.Prelude.{ℕ, ℤ, Bool, true, false, List, [], ◌∷◌, Option, None, Some, Result, Ok, Err}
use Rattle.sno_value.specs.declared.ids.ObjId.{ObjId}
use Rattle.sno_value.specs.declared.value.Name.{Name as Target}
use Rattle.sno_store.specs.Objects.{Object, object_number}
use Rattle.sno_store.specs.Arrays.{new_array, element_name, prototype_of}
use Rattle.sno_store.specs.Tables.{Notions, new_table, find_entry, make_entry, table_to_array}
use Rattle.sno_runtime.specs.Values.{Value, Str, Pat, Expr, Array, Table, is_null}
use Rattle.sno_runtime.specs.Action.{Error, Got, Action, gives, fails, stops, either, and_then}
use Rattle.sno_runtime.specs.Variables.{wrong_type, holds}
use Rattle.sno_runtime.specs.Numbers.{number_of}
use Rattle.sno_runtime.specs.Functions.{same, with_text}

-- a key of a table is a value of any type but pattern and expression
abbrev pub is_key : Value → Bool
is_key (Pat pattern) = false
is_key (Expr expression) = false
is_key other = true

-- keys are one where IDENT says so
abbrev pub is_same_key : Value → Value → Bool
is_same_key x y = either false (λ equal. equal) (same x y)

abbrev pub notions : Notions Value
notions = record { null = Str []; is_null = is_null; is_key = is_key; same = is_same_key }

-- what is made or found, or the error
abbrev pub after_change : {A : Type 0} → Result (A × List (Object Value)) ℕ → Action A
after_change (Ok done) w = record { ending = Got done.0; world = record w { objects = done.1 }; wrote = [] }
after_change (Err code) w = stops (Error code) w

abbrev pub answers : {A : Type 0} → Result A ℕ → Action A
answers (Ok answer) = gives answer
answers (Err code) = stops (Error code)

-- an operation on the objects, and a question to them
abbrev pub does : {A : Type 0} → (List (Object Value) → Result (A × List (Object Value)) ℕ) → Action A
does operation w = after_change (operation w.objects) w

abbrev pub asks : {A : Type 0} → (List (Object Value) → Result A ℕ) → Action A
asks question w = answers (question w.objects) w

-- the numbers of subscripts, where each has one
abbrev pub before : Option ℤ → Option (List ℤ) → Option (List ℤ)
before (Some n) (Some ns) = Some (n ∷ ns)
before n ns = None

abbrev pub numbers_of : List Value → Option (List ℤ)
numbers_of [] = Some []
numbers_of (x ∷ xs) = before (number_of x) (numbers_of xs)

-- The element that subscripts name. One that isn't a number is error 1, a wrong number of them error 12, and one out of
-- range is failure.
abbrev pub element_numbered : ObjId → Option (List ℤ) → Action Target
element_numbered id None = wrong_type
element_numbered id (Some subscripts) =
    and_then (asks (λ objects. element_name objects id subscripts)) (either fails gives)

-- a table has one subscript; another number of them is error 12
abbrev pub with_key : {A : Type 0} → List Value → (Value → Action A) → Action A
with_key (key ∷ []) next = next key
with_key other next = stops (Error 12)

-- what a table holds for a key: null where it has no entry, which reading doesn't make
abbrev pub entry_read : ObjId → Value → Action Value
entry_read id key = and_then (asks (λ objects. find_entry notions objects id key)) (either (gives (Str [])) holds)

-- A<i,..>, where A holds x
abbrev pub item : Value → List Value → Action Value
item (Array n) subscripts = and_then (element_numbered (object_number n) (numbers_of subscripts)) holds
item (Table n) subscripts = with_key subscripts (entry_read (object_number n))
item other subscripts = wrong_type

-- the name of A<i,..>, where A holds x; an entry that isn't there is made
abbrev pub item_named : Value → List Value → Action Target
item_named (Array n) subscripts = element_numbered (object_number n) (numbers_of subscripts)
item_named (Table n) subscripts = with_key subscripts (λ key. does (make_entry notions (object_number n) key))
item_named other subscripts = wrong_type

-- ARRAY(p,v)
abbrev pub array : Value → Value → Action Value
array p v = with_text p (λ text. and_then (does (new_array text v)) (λ id. gives (Array id.0)))

-- TABLE()
abbrev pub table : Action Value
table = and_then (does new_table) (λ id. gives (Table id.0))

-- PROTOTYPE(a)
abbrev pub prototype : Value → Action Value
prototype (Array n) = and_then (asks (λ objects. prototype_of objects (object_number n))) (λ text. gives (Str text))
prototype other = wrong_type

-- the array of a table's entries whose value isn't null; where there are none it fails
abbrev pub as_array : Value → Action Value
as_array (Array n) = gives (Array n)
as_array (Table n) = and_then (does (table_to_array notions (object_number n)))
    (either fails (λ id. gives (Array id.0)))
as_array other = fails
