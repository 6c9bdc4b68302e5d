-- Variables: how they are named, read and set.
use Rattle.std.specs.Prelude.{ℕ, zero, ℤ, pos, nat_lt, ◌==◌, Bool, false, List, [], ◌∷◌, ◌++◌, if◌then◌else◌, length}
use Rattle.std.specs.Prelude.{slice_index_or, slice_set, codes, Option, None, Some}
use Rattle.std.specs.Fmt.{signed_decimal}
use Rattle.sno_value.specs.declared.ids.SymId.{SymId}
use Rattle.sno_value.specs.declared.value.Name.{Name as Target}
use Rattle.sno_value.specs.declared.value.Name.TheVariants.{Var, Elem, Entry, Field}
use Rattle.sno_store.specs.Store.{place, is_symbol}
use Rattle.sno_store.specs.Objects.{array_at, table_at, fields_at, element_value, entry_value, field_value}
use Rattle.sno_store.specs.Objects.{with_element, with_entry_value, with_field, changed}
use Rattle.sno_runtime.specs.World.{World}
use Rattle.sno_runtime.specs.Values.{Value, Str, Int, Name}
use Rattle.sno_value.specs.Strings.{trimmed}
use Rattle.sno_io.specs.Lines.{next_line}
use Rattle.sno_runtime.specs.Action.{Error, Got, Fails, Action, gives, stops, either, and_then}

-- data type
abbrev pub wrong_type : {A : Type 0} → Action A
wrong_type = stops (Error 1)

-- the text of a string or an integer
abbrev pub text_of : Value → Option (List ℕ)
text_of (Str bytes) = Some bytes
text_of (Int number) = Some (signed_decimal number)
text_of other = None

abbrev pub symbol : ℕ → SymId
symbol k = record { 0 = k }

-- trailing spaces are dropped from a line where &TRIM isn't 0
abbrev pub line_kept : ℤ → List ℕ → List ℕ
line_kept (pos zero) line = line
line_kept trim line = trimmed line

-- INPUT and OUTPUT, by their numbers among the symbols
abbrev pub is_input : Target → Bool
is_input (Var id) = id.0 == 7
is_input other = false

abbrev pub is_output : Target → Bool
is_output (Var id) = id.0 == 8
is_output other = false

-- a new symbol, whose variable is null
abbrev pub joins : List ℕ → Action Target
joins name w = record {
  ending = Got (Var (symbol (length w.symbols)));
  world = record w { symbols = w.symbols ++ name ∷ []; values = w.values ++ Str [] ∷ [] };
  wrote = [];
}

-- the variable that a text names; a text that names none yet joins the symbols
abbrev pub variable_named : List ℕ → Action Target
variable_named [] w = stops (Error 6) w
variable_named (byte ∷ bytes) w =
    if nat_lt 1_000_000 (length (byte ∷ bytes)) then stops (Error 8) w
    else if is_symbol (byte ∷ bytes) w.symbols then gives (Var (symbol (place (byte ∷ bytes) w.symbols))) w
    else if length w.symbols == 1_000_000 then stops (Error 9) w else joins (byte ∷ bytes) w

-- the variable that a value names
abbrev pub named_by : Value → Action Target
named_by (Name target) = gives target
named_by other = either wrong_type variable_named (text_of other)

-- the bytes of a variable's name
abbrev pub text_of_name : List (List ℕ) → Target → List ℕ
text_of_name symbols (Var id) = slice_index_or symbols id.0 []
text_of_name symbols other = []

-- a variable's name as a value is its text; any other name is itself
abbrev pub name_value : Target → Action Value
name_value (Var id) w = gives (Str (text_of_name w.symbols (Var id))) w
name_value other w = gives (Name other) w

abbrev pub value_in : World → Target → Value
value_in w (Var id) = slice_index_or w.values id.0 (Str [])
value_in w (Elem object k) = element_value (Str []) (array_at w.objects object) k
value_in w (Entry object k) = entry_value (Str []) (table_at w.objects object) k
value_in w (Field object k) = field_value (Str []) (fields_at w.objects object) k

-- the next line of the input; at its end there is none, and a line of more than 1,000,000 bytes is error 8
abbrev pub line_read : Option (List ℕ × List ℕ) → Action Value
line_read None w = record { ending = Fails; world = record w { input = [] }; wrote = [] }
line_read (Some line) w = if nat_lt 1_000_000 (length line.0) then stops (Error 8) w
    else record {
      ending = Got (Str (line_kept w.keywords.trim line.0));
      world = record w { input = line.1 };
      wrote = [];
    }

abbrev pub reads_line : Action Value
reads_line w = line_read (next_line w.input) w

abbrev pub holds : Target → Action Value
holds name w = gives (value_in w name) w

-- the value of what is named; INPUT reads a line
abbrev pub reads : Target → Action Value
reads name w = if is_input name then reads_line w else holds name w

abbrev pub writes : List ℕ → Action Unit
writes bytes w = record { ending = Got tt; world = w; wrote = bytes }

abbrev pub with_value : Target → Value → World → World
with_value (Var id) v w = record w { values = slice_set w.values id.0 v }
with_value (Elem object k) v w = record w { objects = changed (with_element k v) w.objects object }
with_value (Entry object k) v w = record w { objects = changed (with_entry_value k v) w.objects object }
with_value (Field object k) v w = record w { objects = changed (with_field k v) w.objects object }

abbrev pub stores : Target → Value → Action Unit
stores name v w = record { ending = Got tt; world = with_value name v w; wrote = [] }

-- OUTPUT is given a value that has a text, and writes it as a line
abbrev pub outputs : Target → Value → Action Unit
outputs name v = either wrong_type
    (λ bytes. and_then (stores name v) (λ done. writes (bytes ++ codes "\n"))) (text_of v)

-- what is named is set
abbrev pub assigns : Target → Value → Action Unit
assigns name v = if is_output name then outputs name v else stores name v
