-- Values as a program knows them: a string is its bytes, and a pattern its tree.
use Rattle.std.specs.Prelude.{ℕ, ◌<◌, ◌≤◌, ℤ, Bool, true, false, List, [], length, map}
use Rattle.std.specs.List.{AllByRecursion}
use Rattle.sno_value.specs.declared.value.Name.{Name as Target}
use Rattle.sno_value.specs.declared.value.Value.{Value as Stored}
use Rattle.sno_value.specs.declared.value.Value.TheVariants as stored
use Rattle.sno_pattern.specs.Pattern.{Pattern}
use Rattle.sno_pattern.specs.Table.{Node, tree}
use Rattle.sno_store.specs.Objects.{Elements, Object, ArrayOf, TableOf, DataOf}

pub data Value : Type 0 where
  Str : (bytes : List ℕ) → Value
  Int : (number : ℤ) → Value
  Pat : (pattern : Pattern) → Value
  -- an expression that isn't evaluated, by its number in the program's table
  Expr : (expression : ℕ) → Value
  Name : (target : Target) → Value
  Array : (object : ℕ) → Value
  Table : (object : ℕ) → Value
  -- an object of a type that the program made
  Data : (object : ℕ) → Value

abbrev pub is_null : Value → Bool
is_null (Str []) = true
is_null other = false

-- the value that is stored, where these are the pattern nodes
abbrev pub shown : List Node → Stored → Value
shown nodes (stored.Str bytes) = Str bytes
shown nodes (stored.Int number) = Int number
shown nodes (stored.Pat id) = Pat (tree nodes id.0)
shown nodes (stored.Expr id) = Expr id.0
shown nodes (stored.Name target) = Name target
shown nodes (stored.Array id) = Array id.0
shown nodes (stored.Table id) = Table id.0
shown nodes (stored.Data id) = Data id.0

-- the value has at most 1,000,000 bytes, and a number of these nodes
abbrev pub IsValueOf : List Node → Stored → Type 0
IsValueOf nodes (stored.Str bytes) = length bytes ≤ 1_000_000
IsValueOf nodes (stored.Pat id) = id.0 < length nodes
IsValueOf nodes value = Unit {0}

-- each value of an array, of an entry and of an object turned into another
abbrev pub map_elements : {V W : Type 0} → (V → W) → Elements V → Elements W
map_elements f elements =
    record { prototype = elements.prototype; dimensions = elements.dimensions; values = map f elements.values }

abbrev pub map_entry : {V W : Type 0} → (V → W) → V × V → W × W
map_entry f entry = (f entry.0, f entry.1)

abbrev pub map_object : {V W : Type 0} → (V → W) → Object V → Object W
map_object f (ArrayOf elements) = ArrayOf (map_elements f elements)
map_object f (TableOf entries) = TableOf (map (map_entry f) entries)
map_object f (DataOf number fields) = DataOf number (map f fields)

-- the objects that are stored
abbrev pub shown_objects : List Node → List (Object Stored) → List (Object Value)
shown_objects nodes objects = map (map_object (shown nodes)) objects

-- what an object holds is of these nodes, and an array's prototype is no longer than a string
abbrev pub IsEntryOf : List Node → Stored × Stored → Type 0
IsEntryOf nodes entry = IsValueOf nodes entry.0 × IsValueOf nodes entry.1

abbrev pub IsObjectOf : List Node → Object Stored → Type 0
IsObjectOf nodes (ArrayOf elements) = (length elements.prototype ≤ 1_000_000)
    × AllByRecursion (IsValueOf nodes) elements.values
IsObjectOf nodes (TableOf entries) = AllByRecursion (IsEntryOf nodes) entries
IsObjectOf nodes (DataOf number fields) = AllByRecursion (IsValueOf nodes) fields
