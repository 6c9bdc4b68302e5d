-- The hashes of names and of keys: SipHash-1-3 under the key 0. Private contracts alone cite it.
use Rattle.std.specs.Prelude.{ℕ, ◌+◌, ◌*◌, List, fold}
use Rattle.std.specs.Hash as fed
use Rattle.std.specs.Hash.DefaultHasher as sip
use Rattle.std.specs.Int.{w64, cast_unsigned}
use Rattle.sno_value.specs.declared.value.Name.{Name as Target}
use Rattle.sno_value.specs.declared.value.Name.TheVariants.{Var, Elem, Entry, Field}
use Rattle.sno_value.specs.declared.value.Value.{Value}
use Rattle.sno_value.specs.declared.value.Value.TheVariants.{Str, Int, Name, Array, Table, Data}

unfoldable pub text_hash : List ℕ → ℕ
text_hash bytes = sip.finish (sip.write sip.initial bytes)

-- of a number of a value's own, and of one that tells its type
unfoldable pub pair_hash : ℕ → ℕ → ℕ
pair_hash first second = sip.finish (fold sip.write (fold sip.write sip.initial (fed.u64 first)) (fed.u64 second))

abbrev pub name_hash : Target → ℕ
name_hash (Var symbol) = pair_hash symbol.0 1
name_hash (Elem object place) = pair_hash object.0 (place * 16 + 2)
name_hash (Entry object place) = pair_hash object.0 (place * 16 + 3)
name_hash (Field object place) = pair_hash object.0 (place * 16 + 4)

abbrev pub key_hash : Value → ℕ
key_hash (Str text) = text_hash text
key_hash (Int n) = pair_hash (cast_unsigned w64 n) 5
key_hash (Name name) = name_hash name
key_hash (Array object) = pair_hash object.0 6
key_hash (Table object) = pair_hash object.0 7
key_hash (Data object) = pair_hash object.0 8
key_hash other = 0
