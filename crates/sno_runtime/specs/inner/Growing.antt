-- Strings that grow in their variables.
use Rattle.std.specs.Prelude.{ℕ, List, ◌++◌, Option, None, Some}
use Rattle.sno_value.specs.declared.value.Value.{Value as Stored}
use Rattle.sno_value.specs.declared.value.Value.TheVariants as stored

-- the string that a value is
abbrev pub string_in : Stored → Option (List ℕ)
string_in (stored.Str text) = Some text
string_in other = None

-- a string with bytes behind it; any other value stays
abbrev pub lengthened : List ℕ → Stored → Stored
lengthened bytes (stored.Str text) = stored.Str (text ++ bytes)
lengthened bytes other = other
