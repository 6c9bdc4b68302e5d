-- Operations on arrays and tables give the same of values that are turned into others.
use Rattle.std.proofs.Common.{◌≡◌, ℕ, zero, suc, ◌==◌, Bool, true, false, List, [], ◌∷◌, ◌++◌, if◌then◌else◌, length, map, slice_get, slice_index_or}
use Rattle.std.proofs.Common.{option_map, refl, ap, sym, ◌∙◌, Option, None, Some, Result, Ok, Err}
use Rattle.std.proofs.lemmas.Option.{slice_get-map}
use Rattle.std.proofs.lemmas.List.{map-append, map-set, length-map}
use Rattle.std.proofs.Math.ListN.{get_or-map}
use Rattle.sno_value.specs.declared.ids.ObjId.{ObjId}
use Rattle.sno_store.specs.Objects.{Elements, Object, ArrayOf, TableOf, DataOf, object_number, as_array, as_table, as_fields, as_type, array_at, table_at}
use Rattle.sno_store.specs.Objects.{fields_at, type_at, element_value, entry_value, field_value, with_value_at, with_element, with_entry_value, with_field}
use Rattle.sno_store.specs.Objects.{changed_at, changed, joined}
use Rattle.sno_runtime.specs.Values.{map_elements, map_entry, map_object}

module _ {V W : Type 0} (f : V → W) where
  abbrev pub mapped : List (Object V) → List (Object W)
  mapped objects = map (map_object f) objects

  -- what an operation gives, of the other values
  abbrev pub map_made : {A : Type 0} → Result (A × List (Object V)) ℕ → Result (A × List (Object W)) ℕ
  map_made (Ok made) = Ok (made.0, mapped made.1)
  map_made (Err code) = Err code

  -- arrays and tables by their numbers

  as_array_map : (o : Option (Object V)) → as_array (option_map (map_object f) o) ≡ option_map (map_elements f) (as_array o)
  as_array_map None = refl
  as_array_map (Some (ArrayOf elements)) = refl
  as_array_map (Some (TableOf entries)) = refl
  as_array_map (Some (DataOf number fields)) = refl

  as_table_map : (o : Option (Object V)) → as_table (option_map (map_object f) o) ≡ option_map (map (map_entry f)) (as_table o)
  as_table_map None = refl
  as_table_map (Some (ArrayOf elements)) = refl
  as_table_map (Some (TableOf entries)) = refl
  as_table_map (Some (DataOf number fields)) = refl

  as_fields_map : (o : Option (Object V)) → as_fields (option_map (map_object f) o) ≡ option_map (map f) (as_fields o)
  as_fields_map None = refl
  as_fields_map (Some (ArrayOf elements)) = refl
  as_fields_map (Some (TableOf entries)) = refl
  as_fields_map (Some (DataOf number fields)) = refl

  as_type_map : (o : Option (Object V)) → as_type (option_map (map_object f) o) ≡ as_type o
  as_type_map None = refl
  as_type_map (Some (ArrayOf elements)) = refl
  as_type_map (Some (TableOf entries)) = refl
  as_type_map (Some (DataOf number fields)) = refl

  pub array_at_map : (objects : List (Object V)) (id : ObjId) → array_at (mapped objects) id ≡ option_map (map_elements f) (array_at objects id)
  array_at_map objects id = ap as_array (slice_get-map (map_object f) objects id.0) ∙ as_array_map (slice_get objects id.0)

  pub table_at_map : (objects : List (Object V)) (id : ObjId) → table_at (mapped objects) id ≡ option_map (map (map_entry f)) (table_at objects id)
  table_at_map objects id = ap as_table (slice_get-map (map_object f) objects id.0) ∙ as_table_map (slice_get objects id.0)

  pub fields_at_map : (objects : List (Object V)) (id : ObjId) → fields_at (mapped objects) id ≡ option_map (map f) (fields_at objects id)
  fields_at_map objects id = ap as_fields (slice_get-map (map_object f) objects id.0) ∙ as_fields_map (slice_get objects id.0)

  pub type_at_map : (objects : List (Object V)) (id : ObjId) → type_at (mapped objects) id ≡ type_at objects id
  type_at_map objects id = ap as_type (slice_get-map (map_object f) objects id.0) ∙ as_type_map (slice_get objects id.0)

  -- what they hold

  element_value_map : (null : V) (o : Option (Elements V)) (k : ℕ) → element_value (f null) (option_map (map_elements f) o) k ≡ f (element_value null o k)
  element_value_map null None k = refl
  element_value_map null (Some elements) k = get_or-map f elements.values k null

  pub values_map : (entries : List (V × V)) → map (λ entry. entry.1) (map (map_entry f) entries) ≡ map f (map (λ entry. entry.1) entries)
  values_map [] = refl
  values_map (entry ∷ entries) = ap (λ vs. f entry.1 ∷ vs) (values_map entries)

  entry_value_map : (null : V) (o : Option (List (V × V))) (k : ℕ) → entry_value (f null) (option_map (map (map_entry f)) o) k ≡ f (entry_value null o k)
  entry_value_map null None k = refl
  entry_value_map null (Some entries) k = ap (λ vs. slice_index_or vs k (f null)) (values_map entries) ∙ get_or-map f (map (λ entry. entry.1) entries) k null

  field_value_map : (null : V) (o : Option (List V)) (k : ℕ) → field_value (f null) (option_map (map f) o) k ≡ f (field_value null o k)
  field_value_map null None k = refl
  field_value_map null (Some fields) k = get_or-map f fields k null

  pub element_held : (null : V) (objects : List (Object V)) (id : ObjId) (k : ℕ) → element_value (f null) (array_at (mapped objects) id) k
      ≡ f (element_value null (array_at objects id) k)
  element_held null objects id k = ap (λ o. element_value (f null) o k) (array_at_map objects id) ∙ element_value_map null (array_at objects id) k

  pub entry_held : (null : V) (objects : List (Object V)) (id : ObjId) (k : ℕ) → entry_value (f null) (table_at (mapped objects) id) k
      ≡ f (entry_value null (table_at objects id) k)
  entry_held null objects id k = ap (λ o. entry_value (f null) o k) (table_at_map objects id) ∙ entry_value_map null (table_at objects id) k

  pub field_held : (null : V) (objects : List (Object V)) (id : ObjId) (k : ℕ) → field_value (f null) (fields_at (mapped objects) id) k
      ≡ f (field_value null (fields_at objects id) k)
  field_held null objects id k = ap (λ o. field_value (f null) o k) (fields_at_map objects id) ∙ field_value_map null (fields_at objects id) k

  -- an object that is changed

  changed_at_map : (change : Object V → Object V) (other : Object W → Object W) → ((o : Object V) → other (map_object f o) ≡ map_object f (change o))
      → (objects : List (Object V)) (place : ℕ) → changed_at other (mapped objects) place ≡ mapped (changed_at change objects place)
  changed_at_map change other same [] place = refl
  changed_at_map change other same (o ∷ objects) zero = ap (λ x. x ∷ mapped objects) (same o)
  changed_at_map change other same (o ∷ objects) (suc place) = ap (λ os. map_object f o ∷ os) (changed_at_map change other same objects place)

  pub changed_map : (change : Object V → Object V) (other : Object W → Object W) → ((o : Object V) → other (map_object f o) ≡ map_object f (change o))
      → (objects : List (Object V)) (id : ObjId) → changed other (mapped objects) id ≡ mapped (changed change objects id)
  changed_map change other same objects id = changed_at_map change other same objects id.0

  with_element_map : (k : ℕ) (v : V) (o : Object V) → with_element k (f v) (map_object f o) ≡ map_object f (with_element k v o)
  with_element_map k v (ArrayOf elements) = ap (λ vs. ArrayOf (record { prototype = elements.prototype; dimensions = elements.dimensions; values = vs }))
      (sym (map-set f elements.values k v))
  with_element_map k v (TableOf entries) = refl
  with_element_map k v (DataOf number fields) = refl

  with_value_map : (k : ℕ) (v : V) (entries : List (V × V)) → with_value_at k (f v) (map (map_entry f) entries) ≡ map (map_entry f) (with_value_at k v entries)
  with_value_map k v [] = refl
  with_value_map zero v (entry ∷ entries) = refl
  with_value_map (suc k) v (entry ∷ entries) = ap (λ es. map_entry f entry ∷ es) (with_value_map k v entries)

  with_entry_value_map : (k : ℕ) (v : V) (o : Object V) → with_entry_value k (f v) (map_object f o) ≡ map_object f (with_entry_value k v o)
  with_entry_value_map k v (ArrayOf elements) = refl
  with_entry_value_map k v (TableOf entries) = ap TableOf (with_value_map k v entries)
  with_entry_value_map k v (DataOf number fields) = refl

  with_field_map : (k : ℕ) (v : V) (o : Object V) → with_field k (f v) (map_object f o) ≡ map_object f (with_field k v o)
  with_field_map k v (ArrayOf elements) = refl
  with_field_map k v (TableOf entries) = refl
  with_field_map k v (DataOf number fields) = ap (DataOf number) (sym (map-set f fields k v))

  pub element_set : (k : ℕ) (v : V) (objects : List (Object V)) (id : ObjId) → changed (with_element k (f v)) (mapped objects) id
      ≡ mapped (changed (with_element k v) objects id)
  element_set k v objects id = changed_map (with_element k v) (with_element k (f v)) (with_element_map k v) objects id

  pub entry_set : (k : ℕ) (v : V) (objects : List (Object V)) (id : ObjId) → changed (with_entry_value k (f v)) (mapped objects) id
      ≡ mapped (changed (with_entry_value k v) objects id)
  entry_set k v objects id = changed_map (with_entry_value k v) (with_entry_value k (f v)) (with_entry_value_map k v) objects id

  pub field_set : (k : ℕ) (v : V) (objects : List (Object V)) (id : ObjId) → changed (with_field k (f v)) (mapped objects) id
      ≡ mapped (changed (with_field k v) objects id)
  field_set k v objects id = changed_map (with_field k v) (with_field k (f v)) (with_field_map k v) objects id

  -- a new object

  joined_by : (b : Bool) (o : Object V) (objects : List (Object V))
      → (if b then Err 9 else Ok (object_number (length (mapped objects)), mapped objects ++ map_object f o ∷ []))
      ≡ map_made (if b then Err 9 else Ok (object_number (length objects), objects ++ o ∷ []))
  joined_by true o objects = refl
  joined_by false o objects = λ i. Ok (object_number (length-map objects (map_object f) i), sym (map-append (map_object f) objects (o ∷ [])) i)

  pub joined_map : (o : Object V) (objects : List (Object V)) → joined (map_object f o) (mapped objects) ≡ map_made (joined o objects)
  joined_map o objects = ap (λ n. if n == 1_000_000 then Err 9 else Ok (object_number (length (mapped objects)), mapped objects ++ map_object f o ∷ []))
      (length-map objects (map_object f)) ∙ joined_by (length objects == 1_000_000) o objects
