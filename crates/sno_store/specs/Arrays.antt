-- Arrays: what a prototype says, and which element subscripts name.
use Rattle.std.specs.Prelude.{ℕ, ◌+◌, ◌*◌, ◌==◌, nat_lt, ℤ, pos, ◌-ℤ◌, int_le, unsigned_abs, Bool, ◌&&◌, List, [], ◌∷◌}
use Rattle.std.specs.Prelude.{length, take, drop, replicate, position, option_map, Option, None, Some, Result, Ok, Err}
use Rattle.std.specs.Prelude.{if◌then◌else◌}
use Rattle.std.specs.List.{slice_split}
use Rattle.sno_value.specs.declared.ids.ObjId.{ObjId}
use Rattle.sno_value.specs.declared.value.Name.{Name}
use Rattle.sno_value.specs.declared.value.Name.TheVariants.{Elem}
use Rattle.sno_value.specs.Integer.{integer_of}
use Rattle.sno_store.specs.declared.dimension.Dimension.{Dimension}
use Rattle.sno_store.specs.Objects.{Elements, Object, ArrayOf, array_at, joined}

-- an optional sign and digits that write an integer of 64 bits
abbrev pub bound_of : List ℕ → Option ℤ
bound_of [] = None
bound_of (byte ∷ bytes) = integer_of (byte ∷ bytes)

-- the dimension from one bound to another, which is no less
abbrev pub range : Option ℤ → Option ℤ → Option Dimension
range (Some low) (Some high) = if int_le low high then Some (record { low = low; high = high }) else None
range low high = None

abbrev pub is_comma : ℕ → Bool
is_comma byte = byte == 44

abbrev pub is_colon : ℕ → Bool
is_colon byte = byte == 58

-- `l:u` is from l to u, and `n` from 1 to n; the place of the first colon tells them apart
abbrev pub dimension_at : List ℕ → Option ℕ → Option Dimension
dimension_at text (Some colon) = range (bound_of (take colon text)) (bound_of (drop (colon + 1) text))
dimension_at text None = range (Some (pos 1)) (bound_of text)

abbrev pub dimension_of : List ℕ → Option Dimension
dimension_of text = dimension_at text (position is_colon text)

abbrev pub before : Option Dimension → Option (List Dimension) → Option (List Dimension)
before (Some dimension) (Some dimensions) = Some (dimension ∷ dimensions)
before dimension dimensions = None

-- the dimensions that these texts are, if each is one
abbrev pub dimensions_from : List (List ℕ) → Option (List Dimension)
dimensions_from [] = Some []
dimensions_from (text ∷ texts) = before (dimension_of text) (dimensions_from texts)

-- the dimensions of a prototype, with commas between them
abbrev pub dimensions_of : List ℕ → Option (List Dimension)
dimensions_of text = dimensions_from (slice_split is_comma text)

-- how many subscripts a dimension has
abbrev pub size : Dimension → ℕ
size dimension = unsigned_abs (dimension.high -ℤ dimension.low) + 1

abbrev pub element_count : List Dimension → ℕ
element_count [] = 1
element_count (dimension ∷ dimensions) = size dimension * element_count dimensions

-- how far a subscript stands behind the lowest, if it is one of the dimension's
abbrev pub offset : Dimension → ℤ → Option ℕ
offset dimension i = if int_le dimension.low i && int_le i dimension.high
    then Some (unsigned_abs (i -ℤ dimension.low)) else None

-- so many blocks of elements, and some more
abbrev pub behind : ℕ → Option ℕ → Option ℕ → Option ℕ
behind block (Some blocks) (Some more) = Some (blocks * block + more)
behind block blocks more = None

-- The element that subscripts name, counted from 0. The last subscript varies fastest (this profile): a step of an
-- earlier one passes over all elements of the dimensions behind it.
abbrev pub element_place : List Dimension → List ℤ → Option ℕ
element_place [] [] = Some 0
element_place (dimension ∷ dimensions) (i ∷ is) =
    behind (element_count dimensions) (offset dimension i) (element_place dimensions is)
element_place dimensions is = None

module _ {V : Type 0} where
  -- a new array; one of more than 1,000,000 elements is error 9 (this profile)
  abbrev pub array_from : List ℕ → List Dimension → List V → List (Object V) → Result (ObjId × List (Object V)) ℕ
  array_from prototype dimensions values objects =
      if nat_lt 1_000_000 (element_count dimensions) then Err 9
      else joined (ArrayOf (record { prototype = prototype; dimensions = dimensions; values = values })) objects

  abbrev pub filled_array : List ℕ → V → List (Object V) → Option (List Dimension) → Result (ObjId × List (Object V)) ℕ
  filled_array prototype value objects (Some dimensions) =
      array_from prototype dimensions (replicate (element_count dimensions) value) objects
  filled_array prototype value objects None = Err 12

  -- an array each of whose elements has the value; another text than a prototype is error 12
  abbrev pub new_array : List ℕ → V → List (Object V) → Result (ObjId × List (Object V)) ℕ
  new_array prototype value objects = filled_array prototype value objects (dimensions_of prototype)

  abbrev pub element_of : ObjId → List ℤ → Option (Elements V) → Result (Option Name) ℕ
  element_of id is (Some elements) =
      if length is == length elements.dimensions
      then Ok (option_map (Elem id) (element_place elements.dimensions is)) else Err 12
  element_of id is None = Err 1

  -- the element that subscripts name, if they are in range; of no array it is error 1, and with a wrong number of
  -- subscripts error 12
  abbrev pub element_name : List (Object V) → ObjId → List ℤ → Result (Option Name) ℕ
  element_name objects id is = element_of id is (array_at objects id)

  abbrev pub text_of : Option (Elements V) → Result (List ℕ) ℕ
  text_of (Some elements) = Ok elements.prototype
  text_of None = Err 1

  -- the text that an array was made by; of no array it is error 1
  abbrev pub prototype_of : List (Object V) → ObjId → Result (List ℕ) ℕ
  prototype_of objects id = text_of (array_at objects id)
