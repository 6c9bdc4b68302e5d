-- Arrays, tables and objects of a program's own types, over any type V of values. An object's number is its place in
-- the list of objects.
use Rattle.std.specs.Prelude.{ℕ, zero, suc, ◌==◌, List, [], ◌∷◌, ◌++◌, length, map, slice_get, slice_index_or}
use Rattle.std.specs.Prelude.{slice_set, Option, None, Some, Result, Ok, Err, if◌then◌else◌}
use Rattle.sno_value.specs.declared.ids.ObjId.{ObjId}
use Rattle.sno_store.specs.declared.dimension.Dimension.{Dimension}

-- the dimensions of an array
abbrev pub Dimensions : Type 0
Dimensions = List Dimension

pub record Elements (V : Type 0) : Type 0 where
  -- the text that the array was made by
  pub prototype : List ℕ
  -- the subscripts that it says, each from `low` to `high`
  pub dimensions : Dimensions
  pub values : List V

pub data Object (V : Type 0) : Type 0 where
  ArrayOf : (elements : Elements V) → Object V
  -- each a key and its value, in the order in which the keys joined
  TableOf : (entries : List (V × V)) → Object V
  -- an object of a type of the program's own: the number of the type, and the values of the fields in their order
  DataOf : (number : ℕ) (fields : List V) → Object V

abbrev pub object_number : ℕ → ObjId
object_number n = record { 0 = n }

-- the array and the table with a number, if it is one's, and so the fields of an object of a program's own type, and
-- the number of its type
abbrev pub as_array : {V : Type 0} → Option (Object V) → Option (Elements V)
as_array (Some (ArrayOf elements)) = Some elements
as_array other = None

abbrev pub as_table : {V : Type 0} → Option (Object V) → Option (List (V × V))
as_table (Some (TableOf entries)) = Some entries
as_table other = None

abbrev pub as_fields : {V : Type 0} → Option (Object V) → Option (List V)
as_fields (Some (DataOf number fields)) = Some fields
as_fields other = None

abbrev pub as_type : {V : Type 0} → Option (Object V) → Option ℕ
as_type (Some (DataOf number fields)) = Some number
as_type other = None

abbrev pub array_at : {V : Type 0} → List (Object V) → ObjId → Option (Elements V)
array_at objects id = as_array (slice_get objects id.0)

abbrev pub table_at : {V : Type 0} → List (Object V) → ObjId → Option (List (V × V))
table_at objects id = as_table (slice_get objects id.0)

abbrev pub fields_at : {V : Type 0} → List (Object V) → ObjId → Option (List V)
fields_at objects id = as_fields (slice_get objects id.0)

abbrev pub type_at : {V : Type 0} → List (Object V) → ObjId → Option ℕ
type_at objects id = as_type (slice_get objects id.0)

-- the value of element k of an array; null where there is none
abbrev pub element_value : {V : Type 0} → V → Option (Elements V) → ℕ → V
element_value null (Some elements) k = slice_index_or elements.values k null
element_value null None k = null

-- the value of entry k of a table; null where there is none
abbrev pub entry_value : {V : Type 0} → V → Option (List (V × V)) → ℕ → V
entry_value null (Some entries) k = slice_index_or (map (λ entry. entry.1) entries) k null
entry_value null None k = null

-- the value of field k of an object; null where there is none
abbrev pub field_value : {V : Type 0} → V → Option (List V) → ℕ → V
field_value null (Some fields) k = slice_index_or fields k null
field_value null None k = null

-- entry k is given a value
abbrev pub with_value_at : {V : Type 0} → ℕ → V → List (V × V) → List (V × V)
with_value_at k value [] = []
with_value_at zero value (entry ∷ entries) = (entry.0, value) ∷ entries
with_value_at (suc k) value (entry ∷ entries) = entry ∷ with_value_at k value entries

-- element k of an array is given a value
abbrev pub with_element : {V : Type 0} → ℕ → V → Object V → Object V
with_element k value (ArrayOf elements) = ArrayOf (record elements { values = slice_set elements.values k value })
with_element k value (TableOf entries) = TableOf entries
with_element k value (DataOf number fields) = DataOf number fields

-- entry k of a table is given a value
abbrev pub with_entry_value : {V : Type 0} → ℕ → V → Object V → Object V
with_entry_value k value (ArrayOf elements) = ArrayOf elements
with_entry_value k value (TableOf entries) = TableOf (with_value_at k value entries)
with_entry_value k value (DataOf number fields) = DataOf number fields

-- field k of an object is given a value
abbrev pub with_field : {V : Type 0} → ℕ → V → Object V → Object V
with_field k value (ArrayOf elements) = ArrayOf elements
with_field k value (TableOf entries) = TableOf entries
with_field k value (DataOf number fields) = DataOf number (slice_set fields k value)

-- the object at a place is changed
abbrev pub changed_at : {V : Type 0} → (Object V → Object V) → List (Object V) → ℕ → List (Object V)
changed_at change [] place = []
changed_at change (object ∷ objects) zero = change object ∷ objects
changed_at change (object ∷ objects) (suc place) = object ∷ changed_at change objects place

abbrev pub changed : {V : Type 0} → (Object V → Object V) → List (Object V) → ObjId → List (Object V)
changed change objects id = changed_at change objects id.0

-- a new object; beside 1,000,000 others it is error 9
abbrev pub joined : {V : Type 0} → Object V → List (Object V) → Result (ObjId × List (Object V)) ℕ
joined object objects = if length objects == 1_000_000 then Err 9
    else Ok (object_number (length objects), objects ++ object ∷ [])
