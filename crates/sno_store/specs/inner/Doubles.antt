-- Which places were given to keys whose hashes other keys have. Private contracts alone cite it.
use Rattle.std.specs.Prelude.{◌≡◌, ℕ, ℤ, pos, List, Option}
use Rattle.std.specs.declared.cmp.Ordering.{Ordering}
use Rattle.std.specs.Ordering.{nat_cmp, int_cmp, ordering_then}
use Rattle.std.specs.Cmp.Lexicographic.{slice_cmp}
use Rattle.std.specs.BTreeMap.{get, get_by}
use Rattle.sno_value.specs.declared.value.Name.{Name as Target}
use Rattle.sno_value.specs.declared.value.Name.TheVariants.{Var, Elem, Entry, Field}
use Rattle.sno_value.specs.declared.value.Value.{Value}
use Rattle.sno_value.specs.declared.value.Value.TheVariants.{Str, Int, Pat, Expr, Name, Array, Table, Data}
use Rattle.sno_store.specs.declared.doubles.KeyDoubles.{KeyDoubles}
use Rattle.sno_store.specs.declared.doubles.TextDoubles.{TextDoubles}

-- the place of a text
abbrev pub text_place : TextDoubles → List ℕ → Option ℕ
text_place doubles text = get_by (λ own. slice_cmp nat_cmp text own.items) doubles.places

-- what tells keys apart that are no texts: the type, the own number, and what is named of an object
abbrev pub name_id : Target → ℕ × ℤ × ℕ
name_id (Var symbol) = (1, pos symbol.0, 0)
name_id (Elem object place) = (2, pos object.0, place)
name_id (Entry object place) = (3, pos object.0, place)
name_id (Field object place) = (4, pos object.0, place)

abbrev pub id_of : Value → ℕ × ℤ × ℕ
id_of (Str text) = (0, pos 0, 0)
id_of (Int n) = (5, n, 0)
id_of (Name name) = name_id name
id_of (Array object) = (6, pos object.0, 0)
id_of (Table object) = (7, pos object.0, 0)
id_of (Data object) = (8, pos object.0, 0)
id_of (Pat pattern) = (9, pos pattern.0, 0)
id_of (Expr expression) = (10, pos expression.0, 0)

-- their order
abbrev pub id_cmp : ℕ × ℤ × ℕ → ℕ × ℤ × ℕ → Ordering
id_cmp a b = ordering_then (ordering_then (nat_cmp a.0 b.0) (int_cmp a.1 b.1)) (nat_cmp a.2 b.2)

-- the place of a key
abbrev pub key_place : KeyDoubles → Value → Option ℕ
key_place doubles (Str text) = text_place doubles.texts text
key_place doubles key = get id_cmp doubles.others (id_of key)

-- the places of other keys stay
pub record Stay {K : Type 0} (key : K) (old new : K → Option ℕ) : Type 0 where
  pub each : (k : K) → (k ≡ key → ⊥) → new k ≡ old k
