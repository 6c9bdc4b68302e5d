-- The entries of a table, and when two keys are one.
use Rattle.std.proofs.Common.{◌≡◌, ◌==◌, ℕ, ◌*◌, Bool, true, false, ◌&&◌, List, [], ◌∷◌, length, refl, sym, ap, ◌∙◌, arith}
use Rattle.std.proofs.Common.{zero, suc, ◌≤◌, ◌<◌, ◌⊎◌, ◌++◌, map, None, Some, slice_index_or, slice_set, subst}
use Rattle.std.specs.Cmp.Lexicographic.{bytes_decides}
use Rattle.std.proofs.lemmas.Bool.{eq-eqb, eqb-true}
use Rattle.std.proofs.lemmas.Bool.Decides.{Decides-int_eq}
use Rattle.std.proofs.lemmas.List.{get_or-map, length-append, length-map, map-append}
use Rattle.sno_value.specs.declared.ids.ObjId.{ObjId}
use Rattle.sno_value.specs.declared.ids.SymId.{SymId}
use Rattle.sno_value.specs.declared.value.Value.{Value}
use Rattle.sno_value.specs.declared.value.Name.TheVariants.{Var, Elem, Entry, Field}
use Rattle.sno_value.specs.declared.value.Value.TheVariants.{Str, Int, Pat, Expr, Name, Array, Table, Data}
use Rattle.sno_value.specs.contracts.value.ValuePartialEq.TheImpl.{ghosts}
use Rattle.sno_store.specs.Objects.{with_value_at}
use Rattle.sno_store.specs.Stored.{is_key, same_key, stored_notions}
use Rattle.sno_store.specs.Tables.{entry_place, rows}
use Rattle.sno_store.specs.inner.Hashes.{key_hash}
use Rattle.sno_store.specs.declared.doubles.KeyDoubles.{KeyDoubles}
use Rattle.sno_store.specs.inner.Doubles.{key_place, Stay}
use Rattle.sno_store.specs.inner.Indexed.{AreDistinct, AreFound, IsAnswer, IsAt, keys_of}
use Rattle.sno_store.specs.inner.Paths.{IsOn, Keeps}
use Rattle.sno_store.proofs.IndexLaws.{distinct_with, found_with, hashes_with, nowhere_at, position_none, position_of, still_found}

-- `==` of values, for a key
pub is_same : (key value : Value) → is_key key ≡ true → ghosts.eq key value ≡ same_key key value
is_same (Pat id) value h = absurd (cc)
is_same (Expr id) value h = absurd (cc)
is_same (Name (Var a)) (Name (Var b)) h = refl
is_same (Name (Var a)) (Name (Elem b j)) h = refl
is_same (Name (Var a)) (Name (Entry b j)) h = refl
is_same (Name (Var a)) (Name (Field b j)) h = refl
is_same (Name (Elem a i)) (Name (Var b)) h = refl
is_same (Name (Elem a i)) (Name (Elem b j)) h = refl
is_same (Name (Elem a i)) (Name (Entry b j)) h = refl
is_same (Name (Elem a i)) (Name (Field b j)) h = refl
is_same (Name (Entry a i)) (Name (Var b)) h = refl
is_same (Name (Entry a i)) (Name (Elem b j)) h = refl
is_same (Name (Entry a i)) (Name (Entry b j)) h = refl
is_same (Name (Entry a i)) (Name (Field b j)) h = refl
is_same (Name (Field a i)) (Name (Var b)) h = refl
is_same (Name (Field a i)) (Name (Elem b j)) h = refl
is_same (Name (Field a i)) (Name (Entry b j)) h = refl
is_same (Name (Field a i)) (Name (Field b j)) h = refl
is_same (Str a) (Str b) h = refl
is_same (Int m) (Int n) h = refl
is_same (Array a) (Array b) h = refl
is_same (Table a) (Table b) h = refl
is_same (Data a) (Data b) h = refl
is_same key value h = refl

both : (a b : Bool) → (a && b) ≡ true → (a ≡ true) × (b ≡ true)
both true true e = (refl, refl)
both true false e = cc
both false b e = cc

symbol : ℕ → SymId
symbol n = record { 0 = n }

object : ℕ → ObjId
object n = record { 0 = n }

part : (make : ObjId → ℕ → Value) (a b : ObjId) (i j : ℕ) → (a.0 == b.0 && i == j) ≡ true → make b j ≡ make a i
unfolding object
part make a b i j h =
    let parts = both (a.0 == b.0) (i == j) h in
    ap (λ n. make (object n) j) (sym (eqb-true a.0 b.0 parts.0)) ∙ ap (make a) (sym (eqb-true i j parts.1))

-- keys that are the same are equal
pub same_tells : (key value : Value) → same_key key value ≡ true → value ≡ key
unfolding symbol object
same_tells (Str a) (Str b) h = ap Str (sym ((bytes_decides a b).0 h))
same_tells (Int a) (Int b) h = ap Int (sym ((Decides-int_eq a b).0 h))
same_tells (Name (Var a)) (Name (Var b)) h = ap (λ n. Name (Var (symbol n))) (sym (eqb-true a.0 b.0 h))
same_tells (Name (Elem a i)) (Name (Elem b j)) h = part (λ o k. Name (Elem o k)) a b i j h
same_tells (Name (Entry a i)) (Name (Entry b j)) h = part (λ o k. Name (Entry o k)) a b i j h
same_tells (Name (Field a i)) (Name (Field b j)) h = part (λ o k. Name (Field o k)) a b i j h
same_tells (Array a) (Array b) h = ap (λ n. Array (object n)) (sym (eqb-true a.0 b.0 h))
same_tells (Table a) (Table b) h = ap (λ n. Table (object n)) (sym (eqb-true a.0 b.0 h))
same_tells (Data a) (Data b) h = ap (λ n. Data (object n)) (sym (eqb-true a.0 b.0 h))
same_tells key value h = absurd (cc)

parts_same : (a i : ℕ) → (a == a && i == i) ≡ true
parts_same a i = ap (λ b. b && i == i) (eq-eqb a a refl) ∙ eq-eqb i i refl

-- a key is the same as itself
pub same_itself : (key : Value) → is_key key ≡ true → same_key key key ≡ true
same_itself (Str a) h = (bytes_decides a a).1 refl
same_itself (Int a) h = (Decides-int_eq a a).1 refl
same_itself (Name (Var a)) h = eq-eqb a.0 a.0 refl
same_itself (Name (Elem a i)) h = parts_same a.0 i
same_itself (Name (Entry a i)) h = parts_same a.0 i
same_itself (Name (Field a i)) h = parts_same a.0 i
same_itself (Array a) h = eq-eqb a.0 a.0 refl
same_itself (Table a) h = eq-eqb a.0 a.0 refl
same_itself (Data a) h = eq-eqb a.0 a.0 refl
same_itself (Pat a) h = absurd (cc)
same_itself (Expr a) h = absurd (cc)

-- what was told of a key and of the entry in a place
pub answers : (entries : List (Value × Value)) (place : ℕ) (key : Value) (entry : Value × Value) (answer : Bool) → is_key key ≡ true
    → place < length entries → ((d : Value × Value) → entry ≡ slice_index_or entries place d) → answer ≡ ghosts.eq key entry.0
    → IsAnswer (keys_of entries) place key answer
answers entries place key entry answer h within is told = record { yes = yes; no = no } where
  same : answer ≡ same_key key entry.0
  same = told ∙ is_same key entry.0 h

  own : (d : Value) → slice_index_or (keys_of entries) place d ≡ entry.0
  own d = get_or-map (λ e. e.0) entries place entry d within ∙ ap (λ e. e.0) (sym (is entry))

  yes : answer ≡ true → IsAt (keys_of entries) place key
  yes e = record {
    within = omega (arith, within, length-map entries (λ e. e.0));
    here = λ d. own d ∙ same_tells key entry.0 (sym same ∙ e);
  }

  no : answer ≡ false → IsAt (keys_of entries) place key → ⊥
  no e at =
      let one : false ≡ true = sym e ∙ same ∙ ap (same_key key) (sym (own key) ∙ at.here key) ∙ same_itself key h in
      absurd (cc)

-- the place of a key is that of its entry
pub entry_here : (key : Value) (entries : List (Value × Value)) (place : ℕ) → is_key key ≡ true → AreDistinct (keys_of entries)
    → IsAt (keys_of entries) place key → Some place ≡ entry_place stored_notions key entries
entry_here key entries place h distinct at =
    sym (position_of (same_key key) key (same_tells key) (same_itself key h) (keys_of entries) place distinct at)

pub no_entry : (key : Value) (entries : List (Value × Value)) → is_key key ≡ true
    → ((i : ℕ) → IsAt (keys_of entries) i key → ⊥) → None ≡ entry_place stored_notions key entries
no_entry key entries h none =
    sym (position_none (same_key key) key (same_tells key) (same_itself key h) (keys_of entries) none)

pub nowhere : (key : Value) (entries : List (Value × Value)) → is_key key ≡ true
    → entry_place stored_notions key entries ≡ None → (i : ℕ) → IsAt (keys_of entries) i key → ⊥
nowhere key entries h none = nowhere_at (same_key key) key (same_tells key) (same_itself key h) (keys_of entries) none

-- an entry that is given a value keeps its key
pub keys_stay : (entries : List (Value × Value)) (k : ℕ) (value : Value) → keys_of (with_value_at k value entries) ≡ keys_of entries
keys_stay [] k value = refl
keys_stay (entry ∷ entries) zero value = refl
keys_stay (entry ∷ entries) (suc k) value = ap (λ ks. entry.0 ∷ ks) (keys_stay entries k value)

pub set_is : (entries : List (Value × Value)) (k : ℕ) (value : Value) (d : Value × Value)
    → slice_set entries k ((slice_index_or entries k d).0, value) ≡ with_value_at k value entries
set_is [] k value d = refl
set_is (entry ∷ entries) zero value d = refl
set_is (entry ∷ entries) (suc k) value d = ap (λ es. entry ∷ es) (set_is entries k value d)

-- an entry that is given a value in its place
pub placed : (entries : List (Value × Value)) (k : ℕ) (value : Value) (own : Value × Value) → own ≡ slice_index_or entries k own
    → slice_set entries k (own.0, value) ≡ with_value_at k value entries
placed entries k value own is = ap (λ (e : Value × Value). slice_set entries k (e.0, value)) is ∙ set_is entries k value own

-- what stands of entries, of the hashes of their keys, of the slots of the paths to them and of the doubles
abbrev pub Stands : List (Value × Value) → List ℕ → List ℕ → KeyDoubles → Type 0
Stands entries hashes slots doubles =
    (length entries ≤ 1_000_000) × (hashes ≡ map key_hash (keys_of entries)) × AreDistinct (keys_of entries)
    × AreFound (key_place doubles) key_hash slots (keys_of entries)

pub stands_set : (entries : List (Value × Value)) (hashes slots : List ℕ) (doubles : KeyDoubles) (k : ℕ) (value : Value) (own : Value × Value)
    → own ≡ slice_index_or entries k own → Stands entries hashes slots doubles
    → Stands (slice_set entries k (own.0, value)) hashes slots doubles
stands_set entries hashes slots doubles k value own is stands = (
  subst (λ n. n ≤ 1_000_000) (sym long) stands.0,
  stands.1 ∙ ap (map key_hash) (sym keys),
  subst AreDistinct (sym keys) stands.2,
  subst (AreFound (key_place doubles) key_hash slots) (sym keys) stands.3,
) where
  keys : keys_of (slice_set entries k (own.0, value)) ≡ keys_of entries
  keys = ap keys_of (placed entries k value own is) ∙ keys_stay entries k value

  long : length (slice_set entries k (own.0, value)) ≡ length entries
  long = sym (length-map (slice_set entries k (own.0, value)) (λ entry. entry.0)) ∙ ap length keys ∙ length-map entries (λ entry. entry.0)

-- the same where a path was made for a key that has no entry, and where it was given a place
pub stands_still : (entries : List (Value × Value)) (hashes slots new : List ℕ) (doubles given : KeyDoubles) (key : Value)
    → is_key key ≡ true → entry_place stored_notions key entries ≡ None → Keeps hashes slots new
    → Stay key (key_place doubles) (key_place given) → Stands entries hashes slots doubles → Stands entries hashes new given
stands_still entries hashes slots new doubles given key h none keeps stay stands = (
  stands.0,
  stands.1,
  stands.2,
  still_found (key_place doubles) (key_place given) key_hash slots new (keys_of entries) key hashes stands.1 keeps stay
      (nowhere key entries h none) stands.3,
)

pub stands_with : (entries : List (Value × Value)) (hashes slots : List ℕ) (doubles : KeyDoubles) (key value : Value) → is_key key ≡ true
    → entry_place stored_notions key entries ≡ None → length entries < 1_000_000 → Stands entries hashes slots doubles
    → IsOn slots (key_hash key) (length entries) ⊎ (key_place doubles key ≡ Some (length entries))
    → Stands (entries ++ (key, value) ∷ []) (hashes ++ key_hash key ∷ []) slots doubles
stands_with entries hashes slots doubles key value h none room stands last = (
  omega (arith, room, length-append entries ((key, value) ∷ [])),
  hashes_with key_hash (keys_of entries) key hashes _ stands.1 refl ∙ ap (map key_hash) (sym keys),
  subst AreDistinct (sym keys) (distinct_with _ (keys_of entries) key stands.2 (nowhere key entries h none)),
  subst (AreFound (key_place doubles) key_hash slots) (sym keys)
      (found_with (key_place doubles) key_hash slots (keys_of entries) key stands.3
      (subst (λ n. IsOn slots (key_hash key) n ⊎ (key_place doubles key ≡ Some n)) (sym (length-map entries (λ entry. entry.0))) last)),
) where
  keys : keys_of (entries ++ (key, value) ∷ []) ≡ keys_of entries ++ key ∷ []
  keys = map-append (λ entry. entry.0) entries ((key, value) ∷ [])

-- past the last entry nothing changes
pub set_past : (entries : List (Value × Value)) (k : ℕ) (value : Value) → length entries ≤ k → entries ≡ with_value_at k value entries
set_past [] k value past = refl
set_past (entry ∷ entries) zero value past = absurd (omega arith)
set_past (entry ∷ entries) (suc k) value past = ap (λ es. entry ∷ es) (set_past entries k value (omega arith))

pub length-rows : {V : Type 0} (entries : List (V × V)) → length (rows entries) ≡ 2 * length entries
length-rows [] = refl
length-rows (entry ∷ entries) = omega (arith, length-rows entries)
