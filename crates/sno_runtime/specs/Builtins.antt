-- The functions of the language.
use Rattle.std.specs.Prelude.{ℕ, List, [], ◌∷◌, Option, Some, None, codes, if◌then◌else◌}
use Rattle.std.specs.Str.{bytes_eq}
use Rattle.sno_value.specs.declared.kind.PrimitiveKind.TheVariants.{Len, Pos, Rpos, Tab, Rtab, Any, NotAny, Span, Break}
use Rattle.sno_value.specs.declared.kind.PrimitiveKind.TheVariants.{BreakX}
use Rattle.sno_runtime.specs.declared.builtins.Builtin.{Builtin}
use Rattle.sno_runtime.specs.declared.builtins.Builtin.TheVariants.{Primitive, Arbno, Cut, Convert, MakeArray}
use Rattle.sno_runtime.specs.declared.builtins.Builtin.TheVariants.{MakeTable, Prototype, Define, Data, Datatype, Plain}
use Rattle.sno_runtime.specs.declared.builtins.Conversion.{Conversion}
use Rattle.sno_runtime.specs.declared.builtins.Conversion.TheVariants.{ToString, ToInteger, ToPattern, ToArray}
use Rattle.sno_runtime.specs.declared.builtins.Plain.TheVariants.{Compare, Remdr, Ident, Differ, Lgt, Integer, Size}
use Rattle.sno_runtime.specs.declared.builtins.Plain.TheVariants.{Trim, Dupl, Replace}
use Rattle.sno_runtime.specs.declared.builtins.Relation.TheVariants.{Equal, Unequal, Less, AtMost, Greater, AtLeast}

-- what stands beside a name in a table
abbrev pub found : {A : Type 0} → List ℕ → List (List ℕ × A) → Option A
found name [] = None
found name (row ∷ rows) = if bytes_eq name row.0 then Some row.1 else found name rows

-- the functions that make a pattern
abbrev pub pattern_functions : List (List ℕ × Builtin)
pattern_functions =
    (codes "LEN", Primitive Len) ∷ (codes "POS", Primitive Pos) ∷ (codes "RPOS", Primitive Rpos)
    ∷ (codes "TAB", Primitive Tab)
    ∷ (codes "RTAB", Primitive Rtab) ∷ (codes "ANY", Primitive Any) ∷ (codes "NOTANY", Primitive NotAny)
    ∷ (codes "SPAN", Primitive Span)
    ∷ (codes "BREAK", Primitive Break) ∷ (codes "BREAKX", Primitive BreakX) ∷ (codes "ARBNO", Arbno)
    ∷ (codes "FENCE", Cut) ∷ []

-- the functions of numbers
abbrev pub number_functions : List (List ℕ × Builtin)
number_functions =
    (codes "EQ", Plain (Compare Equal)) ∷ (codes "NE", Plain (Compare Unequal)) ∷ (codes "LT", Plain (Compare Less))
    ∷ (codes "LE", Plain (Compare AtMost))
    ∷ (codes "GT", Plain (Compare Greater)) ∷ (codes "GE", Plain (Compare AtLeast)) ∷ (codes "REMDR", Plain Remdr) ∷ []

-- the functions of texts and types
abbrev pub text_functions : List (List ℕ × Builtin)
text_functions =
    (codes "IDENT", Plain Ident) ∷ (codes "DIFFER", Plain Differ) ∷ (codes "LGT", Plain Lgt)
    ∷ (codes "INTEGER", Plain Integer) ∷ (codes "SIZE", Plain Size)
    ∷ (codes "TRIM", Plain Trim) ∷ (codes "DUPL", Plain Dupl) ∷ (codes "REPLACE", Plain Replace)
    ∷ (codes "DATATYPE", Datatype) ∷ []

-- the functions of arrays and tables, and those that make functions and types
abbrev pub object_functions : List (List ℕ × Builtin)
object_functions =
    (codes "CONVERT", Convert) ∷ (codes "ARRAY", MakeArray) ∷ (codes "TABLE", MakeTable)
    ∷ (codes "PROTOTYPE", Prototype) ∷ (codes "DEFINE", Define)
    ∷ (codes "DATA", Data) ∷ []

-- the types to which CONVERT converts
abbrev pub conversions : List (List ℕ × Conversion)
conversions = (codes "STRING", ToString) ∷ (codes "INTEGER", ToInteger) ∷ (codes "PATTERN", ToPattern)
    ∷ (codes "ARRAY", ToArray) ∷ []

-- the first of two that there is
abbrev pub first_found : {A : Type 0} → Option A → Option A → Option A
first_found (Some x) other = Some x
first_found None other = other

abbrev pub function_named : List ℕ → Option Builtin
function_named name =
    first_found (found name pattern_functions)
    (first_found (found name number_functions)
    (first_found (found name text_functions) (found name object_functions)))
