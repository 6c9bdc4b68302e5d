-- Functions that a program defines: what a prototype says, and what it defines.
use Rattle.std.specs.Prelude.{ℕ, ◌+◌, ◌==◌, nat_le, Bool, false, not, ◌&&◌, ◌||◌, List, [], ◌∷◌, ◌++◌, codes, length}
use Rattle.std.specs.Prelude.{map, take, drop, position, option_map, Option, None, Some, if◌then◌else◌}
use Rattle.std.specs.List.{list_all, slice_split}
use Rattle.std.specs.Str.{bytes_eq}
use Rattle.sno_store.specs.Arrays.{is_comma}
use Rattle.sno_store.specs.Names.{place, is_symbol}

pub record Definition : Type 0 where
  -- the label at which its calls begin
  pub entry : List ℕ
  -- the numbers of its formals and of its locals
  pub formals : List ℕ
  pub locals : List ℕ

-- what a prototype `F(A,B)L,M` says: the names of the function, of its formals and of its locals
pub record Prototype : Type 0 where
  pub function : List ℕ
  pub formals : List (List ℕ)
  pub locals : List (List ℕ)

-- from A to Z or from a to z
abbrev pub is_letter : ℕ → Bool
is_letter byte = (nat_le 65 byte && nat_le byte 90) || (nat_le 97 byte && nat_le byte 122)

-- a letter, a digit, a dot or an underscore
abbrev pub is_name_byte : ℕ → Bool
is_name_byte byte = is_letter byte || (nat_le 48 byte && nat_le byte 57) || (byte == 46) || (byte == 95)

-- a name is a letter, and then letters, digits, dots and underscores
abbrev pub is_name : List ℕ → Bool
is_name [] = false
is_name (byte ∷ bytes) = is_letter byte && list_all is_name_byte bytes

-- the variables that are read and written as lines
abbrev pub is_device : List ℕ → Bool
is_device name = bytes_eq name (codes "INPUT") || bytes_eq name (codes "OUTPUT")

-- the texts between commas; none where there is no text at all
abbrev pub listed : List ℕ → List (List ℕ)
listed [] = []
listed (byte ∷ bytes) = slice_split is_comma (byte ∷ bytes)

-- a text cut at the first of a byte, into what stands before it and behind it
abbrev pub cut_at : ℕ → List ℕ → Option (List ℕ × List ℕ)
cut_at byte text = option_map (λ place. (take place text, drop (place + 1) text)) (position (λ b. b == byte) text)

abbrev pub lists_of : List ℕ → Option (List ℕ × List ℕ) → Option Prototype
lists_of function (Some lists) =
    Some (record { function = function; formals = listed lists.0; locals = listed lists.1 })
lists_of function None = None

abbrev pub prototype_in : Option (List ℕ × List ℕ) → Option Prototype
prototype_in (Some parts) = lists_of parts.0 (cut_at 41 parts.1)
prototype_in None = None

-- cut at the first `(`, and the rest at the first `)`
abbrev pub prototype : List ℕ → Option Prototype
prototype text = prototype_in (cut_at 40 text)

abbrev pub names : Prototype → List (List ℕ)
names p = p.function ∷ (p.formals ++ p.locals)

-- all are names, at most 100 (this profile), and neither INPUT nor OUTPUT is among them
abbrev pub is_sound : Prototype → Bool
is_sound p = nat_le (length (names p)) 100 && list_all (λ name. is_name name && not (is_device name)) (names p)

-- the symbols, behind which stand those of the names that are none yet
abbrev pub with_names : List (List ℕ) → List (List ℕ) → List (List ℕ)
with_names [] symbols = symbols
with_names (name ∷ names) symbols = with_names names (if is_symbol name symbols then symbols else symbols ++ name ∷ [])

-- a null entry label is the function's name
abbrev pub entry_label : List ℕ → List ℕ → List ℕ
entry_label [] function = function
entry_label (byte ∷ bytes) function = byte ∷ bytes

-- what a prototype and an entry label define, by the numbers of these symbols
abbrev pub definition : List ℕ → Prototype → List (List ℕ) → Definition
definition entry p symbols = record {
  entry = entry_label entry p.function;
  formals = map (λ name. place name symbols) p.formals;
  locals = map (λ name. place name symbols) p.locals;
}
