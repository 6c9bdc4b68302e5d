-- Operations on arrays and tables, of values that are turned into others.
use Rattle.std.proofs.Common.{◌≡◌, ℕ, zero, suc, ◌+◌, ◌==◌, nat_lt, ℤ, Bool, true, false, not, cond, List, [], ◌∷◌, ◌++◌, codes, if◌then◌else◌, length, map}
use Rattle.std.proofs.Common.{position, replicate, slice_get, option_map, refl, ap, ◌∙◌, Option, None, Some, Result, Ok, Err}
use Rattle.std.specs.Fmt.{decimal}
use Rattle.std.specs.List.{position_or_len, prefix_len}
use Rattle.std.proofs.lemmas.List.{length-map}
use Rattle.sno_value.specs.declared.ids.ObjId.{ObjId}
use Rattle.sno_value.specs.declared.value.Name.TheVariants.{Entry, Field}
use Rattle.sno_store.specs.Objects.{Dimensions, Elements, Object, ArrayOf, TableOf, DataOf, array_at, table_at, changed, joined}
use Rattle.sno_store.specs.Arrays.{dimensions_of, element_count, array_from, filled_array, new_array, element_of, element_name, text_of, prototype_of}
use Rattle.sno_store.specs.Tables.{Notions, up_to, new_table, rows, some_id, array_of_rows, entry_place, entries_for, entry_in, find_entry, entry_or_new}
use Rattle.sno_store.specs.Tables.{entry_into, make_entry, filled, array_of_table, table_to_array}
use Rattle.sno_store.specs.Types.{DataType, type_fields, type_with, type_text, field_name, type_name, field_values, new_data}
use Rattle.sno_runtime.specs.Values.{map_elements, map_entry, map_object}
use Rattle.sno_runtime.proofs.Objects.{mapped, map_made, array_at_map, table_at_map, type_at_map, changed_map, joined_map}

-- tables ask the same of both kinds of values
pub record Agrees {V W : Type 0} (f : V → W) (a : Notions V) (b : Notions W) : Type 0 where
  pub null : b.null ≡ f a.null
  pub is_null : (v : V) → b.is_null (f v) ≡ a.is_null v
  pub is_key : (v : V) → b.is_key (f v) ≡ a.is_key v
  pub same : (v w : V) → a.is_key v ≡ true → b.same (f v) (f w) ≡ a.same v w

module _ {V W : Type 0} (f : V → W) where
  -- arrays

  array_by : (b : Bool) (o : Object V) (objects : List (Object V)) → (if b then Err 9 else joined (map_object f o) (mapped f objects))
      ≡ map_made f (if b then Err 9 else joined o objects)
  array_by true o objects = refl
  array_by false o objects = joined_map f o objects

  pub array_from_map : (prototype : List ℕ) (dimensions : Dimensions) (values : List V) (objects : List (Object V))
      → array_from prototype dimensions (map f values) (mapped f objects) ≡ map_made f (array_from prototype dimensions values objects)
  array_from_map prototype dimensions values objects =
      array_by (nat_lt 1_000_000 (element_count dimensions)) (ArrayOf (record { prototype = prototype; dimensions = dimensions; values = values })) objects

  same_values : (n : ℕ) (v : V) → replicate n (f v) ≡ map f (replicate n v)
  same_values zero v = refl
  same_values (suc n) v = ap (λ vs. f v ∷ vs) (same_values n v)

  filled_map : (prototype : List ℕ) (v : V) (objects : List (Object V)) (o : Option (Dimensions)) → filled_array prototype (f v) (mapped f objects) o
      ≡ map_made f (filled_array prototype v objects o)
  filled_map prototype v objects None = refl
  filled_map prototype v objects (Some dimensions) = ap (λ vs. array_from prototype dimensions vs (mapped f objects)) (same_values (element_count dimensions) v)
      ∙ array_from_map prototype dimensions (replicate (element_count dimensions) v) objects

  pub new_array_map : (prototype : List ℕ) (v : V) (objects : List (Object V)) → new_array prototype (f v) (mapped f objects)
      ≡ map_made f (new_array prototype v objects)
  new_array_map prototype v objects = filled_map prototype v objects (dimensions_of prototype)

  element_of_map : (id : ObjId) (subscripts : List ℤ) (o : Option (Elements V)) → element_of id subscripts (option_map (map_elements f) o)
      ≡ element_of id subscripts o
  element_of_map id subscripts None = refl
  element_of_map id subscripts (Some elements) = refl

  pub element_name_map : (objects : List (Object V)) (id : ObjId) (subscripts : List ℤ) → element_name (mapped f objects) id subscripts
      ≡ element_name objects id subscripts
  element_name_map objects id subscripts = ap (element_of id subscripts) (array_at_map f objects id) ∙ element_of_map id subscripts (array_at objects id)

  text_of_map : (o : Option (Elements V)) → text_of (option_map (map_elements f) o) ≡ text_of o
  text_of_map None = refl
  text_of_map (Some elements) = refl

  pub prototype_of_map : (objects : List (Object V)) (id : ObjId) → prototype_of (mapped f objects) id ≡ prototype_of objects id
  prototype_of_map objects id = ap text_of (array_at_map f objects id) ∙ text_of_map (array_at objects id)

  -- tables

  pub new_table_map : (objects : List (Object V)) → new_table (mapped f objects) ≡ map_made f (new_table objects)
  new_table_map objects = joined_map f (TableOf []) objects

  -- objects of a program's own types

  field_values_map : (null : V) (n : ℕ) (values : List V) → field_values (f null) n (map f values) ≡ map f (field_values null n values)
  field_values_map null zero values = refl
  field_values_map null (suc n) [] = ap (λ vs. f null ∷ vs) (field_values_map null n [])
  field_values_map null (suc n) (value ∷ values) = ap (λ vs. f value ∷ vs) (field_values_map null n values)

  pub new_data_map : (null : V) (types : List DataType) (number : ℕ) (values : List V) (objects : List (Object V))
      → new_data (f null) types number (map f values) (mapped f objects) ≡ map_made f (new_data null types number values objects)
  new_data_map null types number values objects =
      let n = length (type_fields (slice_get types number)) in
      ap (λ vs. joined (DataOf number vs) (mapped f objects)) (field_values_map null n values)
      ∙ joined_map f (DataOf number (field_values null n values)) objects

  pub field_name_map : (types : List DataType) (objects : List (Object V)) (id : ObjId) (symbol : ℕ) → field_name types (mapped f objects) id symbol
      ≡ field_name types objects id symbol
  field_name_map types objects id symbol = ap (λ o. option_map (Field id) (position (λ field. field == symbol) (type_fields (type_with types o))))
      (type_at_map f objects id)

  pub type_name_map : (types : List DataType) (objects : List (Object V)) (id : ObjId) → type_name types (mapped f objects) id ≡ type_name types objects id
  type_name_map types objects id = ap (λ o. type_text (type_with types o)) (type_at_map f objects id)

  module _ (a : Notions V) (b : Notions W) (agrees : Agrees f a b) where
    passed_map : (t : W → Bool) (u : V → Bool) → ((v : V) → t (f v) ≡ u v) → (entries : List (V × V))
        → prefix_len t (map (λ entry. entry.0) (map (map_entry f) entries)) ≡ prefix_len u (map (λ entry. entry.0) entries)
    passed_map t u same [] = refl
    passed_map t u same (entry ∷ entries) = λ i. cond (same entry.0 i) (1 + passed_map t u same entries i) 0

    keys_count : (entries : List (V × V)) → length (map (λ entry. entry.0) (map (map_entry f) entries)) ≡ length (map (λ entry. entry.0) entries)
    keys_count [] = refl
    keys_count (entry ∷ entries) = ap suc (keys_count entries)

    place_map : (key : V) (entries : List (V × V)) → a.is_key key ≡ true → entry_place b (f key) (map (map_entry f) entries) ≡ entry_place a key entries
    place_map key entries is =
        let passed : position_or_len (b.same (f key)) (map (λ entry. entry.0) (map (map_entry f) entries))
        ≡ position_or_len (a.same key) (map (λ entry. entry.0) entries) =
        passed_map (λ w. not (b.same (f key) w)) (λ v. not (a.same key v)) (λ v. ap not (agrees.same key v is)) entries
        in
        λ i. cond (nat_lt (passed i) (keys_count entries i)) (Some (passed i)) None

    found_map : (id : ObjId) (key : V) (is : Bool) (entries : List (V × V)) → a.is_key key ≡ is
        → entry_in b id (f key) (if is then Ok (map (map_entry f) entries) else Err 1) ≡ entry_in a id key (if is then Ok entries else Err 1)
    found_map id key true entries is = ap (λ o. Ok (option_map (Entry id) o)) (place_map key entries is)
    found_map id key false entries is = refl

    find_map : (id : ObjId) (key : V) (o : Option (List (V × V))) → entry_in b id (f key) (entries_for b (f key) (option_map (map (map_entry f)) o))
        ≡ entry_in a id key (entries_for a key o)
    find_map id key None = refl
    find_map id key (Some entries) = ap (λ is. entry_in b id (f key) (if is then Ok (map (map_entry f) entries) else Err 1)) (agrees.is_key key)
        ∙ found_map id key (a.is_key key) entries refl

    pub find_entry_map : (objects : List (Object V)) (id : ObjId) (key : V) → find_entry b (mapped f objects) id (f key) ≡ find_entry a objects id key
    find_entry_map objects id key = ap (λ o. entry_in b id (f key) (entries_for b (f key) o)) (table_at_map f objects id)
        ∙ find_map id key (table_at objects id)

    grown_map : (key : V) (entries : List (V × V)) → map (map_entry f) entries ++ (f key, b.null) ∷ [] ≡ map (map_entry f) (entries ++ (key, a.null) ∷ [])
    grown_map key [] = ap (λ null. (f key, null) ∷ []) agrees.null
    grown_map key (entry ∷ entries) = ap (λ es. map_entry f entry ∷ es) (grown_map key entries)

    added_by : (full : Bool) (id : ObjId) (key : V) (objects : List (Object V)) (entries : List (V × V))
        → (if full then Err 9 else Ok (
          Entry id (length (map (map_entry f) entries)),
          changed (λ _. TableOf (map (map_entry f) entries ++ (f key, b.null) ∷ []))
              (mapped f objects) id,
        )) ≡ map_made f
        (if full then Err 9 else Ok (Entry id (length entries), changed (λ _. TableOf (entries ++ (key, a.null) ∷ [])) objects id))
    added_by true id key objects entries = refl
    added_by false id key objects entries =
        λ i. Ok (
          Entry id (length-map entries (map_entry f) i),
          changed_map f (λ _. TableOf (entries ++ (key, a.null) ∷ []))
              (λ _. TableOf (map (map_entry f) entries ++ (f key, b.null) ∷ [])) (λ o. ap TableOf (grown_map key entries)) objects id i,
        )

    entry_or_new_map : (id : ObjId) (key : V) (objects : List (Object V)) (entries : List (V × V)) (o : Option ℕ)
        → entry_or_new b id (f key) (mapped f objects) (map (map_entry f) entries) o ≡ map_made f (entry_or_new a id key objects entries o)
    entry_or_new_map id key objects entries (Some place) = refl
    entry_or_new_map id key objects entries None =
        ap (λ n. if n == 1_000_000 then Err 9
        else Ok (
          Entry id (length (map (map_entry f) entries)),
          changed (λ _. TableOf (map (map_entry f) entries ++ (f key, b.null) ∷ []))
              (mapped f objects) id,
        )) (length-map entries (map_entry f)) ∙ added_by (length entries == 1_000_000) id key objects entries

    made_map : (id : ObjId) (key : V) (objects : List (Object V)) (is : Bool) (entries : List (V × V)) → a.is_key key ≡ is
        → entry_into b id (f key) (mapped f objects) (if is then Ok (map (map_entry f) entries) else Err 1)
        ≡ map_made f (entry_into a id key objects (if is then Ok entries else Err 1))
    made_map id key objects true entries is = ap (entry_or_new b id (f key) (mapped f objects) (map (map_entry f) entries)) (place_map key entries is)
        ∙ entry_or_new_map id key objects entries (entry_place a key entries)
    made_map id key objects false entries is = refl

    make_map : (id : ObjId) (key : V) (objects : List (Object V)) (o : Option (List (V × V)))
        → entry_into b id (f key) (mapped f objects) (entries_for b (f key) (option_map (map (map_entry f)) o))
        ≡ map_made f (entry_into a id key objects (entries_for a key o))
    make_map id key objects None = refl
    make_map id key objects (Some entries) = ap (λ is. entry_into b id (f key) (mapped f objects) (if is then Ok (map (map_entry f) entries) else Err 1))
        (agrees.is_key key) ∙ made_map id key objects (a.is_key key) entries refl

    pub make_entry_map : (id : ObjId) (key : V) (objects : List (Object V)) → make_entry b id (f key) (mapped f objects)
        ≡ map_made f (make_entry a id key objects)
    make_entry_map id key objects = ap (λ o. entry_into b id (f key) (mapped f objects) (entries_for b (f key) o)) (table_at_map f objects id)
        ∙ make_map id key objects (table_at objects id)

    -- tables that become arrays

    rows_map : (entries : List (V × V)) → rows (map (map_entry f) entries) ≡ map f (rows entries)
    rows_map [] = refl
    rows_map (entry ∷ entries) = ap (λ vs. f entry.0 ∷ f entry.1 ∷ vs) (rows_map entries)

    kept_by : (null : Bool) (entry : V × V) (entries : List (V × V)) → cond (not null) (map_entry f entry ∷ map (map_entry f) entries)
        (map (map_entry f) entries) ≡ map (map_entry f) (cond (not null) (entry ∷ entries) entries)
    kept_by true entry entries = refl
    kept_by false entry entries = refl

    filled_entries_map : (entries : List (V × V)) → filled b (map (map_entry f) entries) ≡ map (map_entry f) (filled a entries)
    filled_entries_map [] = refl
    filled_entries_map (entry ∷ entries) =
        (λ i. cond (not (agrees.is_null entry.1 i)) (map_entry f entry ∷ filled_entries_map entries i) (filled_entries_map entries i))
        ∙ kept_by (a.is_null entry.1) entry (filled a entries)

    some_id_map : (r : Result (ObjId × List (Object V)) ℕ) → some_id (map_made f r) ≡ map_made f (some_id r)
    some_id_map (Ok made) = refl
    some_id_map (Err code) = refl

    array_of_rows_map : (entries : List (V × V)) (objects : List (Object V)) → array_of_rows (map (map_entry f) entries) (mapped f objects)
        ≡ map_made f (array_of_rows entries objects)
    array_of_rows_map [] objects = refl
    array_of_rows_map (entry ∷ entries) objects =
        (λ i. some_id (array_from (decimal (suc (length-map entries (map_entry f) i)) ++ codes ",2")
        (up_to (suc (length-map entries (map_entry f) i)) ∷ up_to 2 ∷ []) (rows_map (entry ∷ entries) i) (mapped f objects)))
        ∙ (ap some_id (array_from_map (decimal (length (entry ∷ entries)) ++ codes ",2") (up_to (length (entry ∷ entries)) ∷ up_to 2 ∷ [])
        (rows (entry ∷ entries)) objects)
        ∙ some_id_map (array_from (decimal (length (entry ∷ entries)) ++ codes ",2") (up_to (length (entry ∷ entries)) ∷ up_to 2 ∷ [])
        (rows (entry ∷ entries)) objects))

    array_of_table_map : (objects : List (Object V)) (o : Option (List (V × V))) → array_of_table b (mapped f objects) (option_map (map (map_entry f)) o)
        ≡ map_made f (array_of_table a objects o)
    array_of_table_map objects None = refl
    array_of_table_map objects (Some entries) = ap (λ es. array_of_rows es (mapped f objects)) (filled_entries_map entries)
        ∙ array_of_rows_map (filled a entries) objects

    pub table_to_array_map : (id : ObjId) (objects : List (Object V)) → table_to_array b id (mapped f objects) ≡ map_made f (table_to_array a id objects)
    table_to_array_map id objects = ap (array_of_table b (mapped f objects)) (table_at_map f objects id) ∙ array_of_table_map objects (table_at objects id)
