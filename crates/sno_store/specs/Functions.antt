-- What the names of functions are, by the numbers of their symbols: what the latest DEFINE or DATA has made of each.
use Rattle.std.specs.Prelude.{ℕ, zero, suc, nat_lt, Bool, true, false, List, [], ◌∷◌, length, slice_index_or, Option}
use Rattle.std.specs.Prelude.{None, Some, Result, Ok, Err, if◌then◌else◌}
use Rattle.sno_store.specs.declared.functions.Function.{Function}
use Rattle.sno_store.specs.declared.functions.Function.TheVariants.{Undefined, Defined, Constructs, IsField}
use Rattle.sno_store.specs.Definitions.{Definition, Prototype, definition, is_sound, names, prototype, with_names}
use Rattle.sno_store.specs.Names.{place}

-- function name n is this, and the others are what they were
abbrev pub with_function : ℕ → Function → List Function → List Function
with_function zero function [] = function ∷ []
with_function zero function (old ∷ functions) = function ∷ functions
with_function (suc n) function [] = Undefined ∷ with_function n function []
with_function (suc n) function (old ∷ functions) = old ∷ with_function n function functions

-- what function name n is; nothing behind the list's end
abbrev pub function_at : List Function → ℕ → Function
function_at functions n = slice_index_or functions n Undefined

abbrev pub as_definition : Function → Option Definition
as_definition (Defined d) = Some d
as_definition other = None

-- the definition of function n, if it has one
abbrev pub definition_at : List Function → ℕ → Option Definition
definition_at functions n = as_definition (function_at functions n)

abbrev pub as_constructor : Function → Option ℕ
as_constructor (Constructs number) = Some number
as_constructor other = None

-- the number of the type whose constructor function n is, if it is one
abbrev pub constructor_at : List Function → ℕ → Option ℕ
constructor_at functions n = as_constructor (function_at functions n)

abbrev pub is_field : Function → Bool
is_field IsField = true
is_field other = false

-- whether function n is a field
abbrev pub is_field_at : List Function → ℕ → Bool
is_field_at functions n = is_field (function_at functions n)

-- the symbols with the names, and the functions with the definition;
-- more than 1,000,000 symbols are error 9 (this profile)
abbrev pub definition_in : List ℕ → Prototype → List (List ℕ) → List Function → Result (List (List ℕ) × List Function) ℕ
definition_in entry p symbols functions =
    if nat_lt 1_000_000 (length symbols) then Err 9
    else Ok (symbols, with_function (place p.function symbols) (Defined (definition entry p symbols)) functions)

abbrev pub definition_by : List ℕ → List (List ℕ) → List Function → Option Prototype
    → Result (List (List ℕ) × List Function) ℕ
definition_by entry symbols functions (Some p) =
    if is_sound p then definition_in entry p (with_names (names p) symbols) functions else Err 12
definition_by entry symbols functions None = Err 12

-- the symbols and the functions behind DEFINE; another text than a sound prototype is error 12
abbrev pub with_definition : List ℕ → List ℕ → List (List ℕ) → List Function → Result (List (List ℕ) × List Function) ℕ
with_definition text entry symbols functions = definition_by entry symbols functions (prototype text)
