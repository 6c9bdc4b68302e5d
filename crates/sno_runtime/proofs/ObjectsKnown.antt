-- What arrays and tables hold stays known: it is of the table of nodes.
use Rattle.std.proofs.Common.{◌≡◌, ℕ, zero, suc, ◌+◌, ◌*◌, ◌==◌, ◌≤◌, nat_lt, pos, unsigned_abs, Bool, true, false, not, cond, List, [], ◌∷◌, ◌++◌, codes}
use Rattle.std.proofs.Common.{if◌then◌else◌, length, map, replicate, slice_get, refl, ap, subst, arith, Option, None, Some, Result, Ok, Err}
use Rattle.std.proofs.lemmas.Bool.{ltb-false}
use Rattle.std.proofs.Math.IntN.{pred_ℤ, -ℤ_one}
use Rattle.std.proofs.lemmas.Fmt.{length-decimal-le_succ}
use Rattle.std.proofs.lemmas.List.{length-append}
use Rattle.std.specs.Fmt.{decimal}
use Rattle.std.specs.List.{AllByRecursion}
use Rattle.sno_value.specs.declared.ids.ObjId.{ObjId}
use Rattle.sno_value.specs.declared.value.Value.{Value as Stored}
use Rattle.sno_value.specs.declared.value.Value.TheVariants as stored
use Rattle.sno_pattern.specs.Table.{Node}
use Rattle.sno_store.specs.Objects.{Dimensions, Object, ArrayOf, TableOf, DataOf, object_number, as_array, as_table, as_fields, array_at, table_at, fields_at}
use Rattle.sno_store.specs.Objects.{element_value, entry_value, field_value, with_value_at, with_element, with_entry_value, with_field, changed_at, changed}
use Rattle.sno_store.specs.Objects.{joined}
use Rattle.sno_value.specs.declared.value.Name.TheVariants.{Entry}
use Rattle.sno_store.specs.Arrays.{dimensions_of, element_count, array_from, filled_array, new_array, text_of, prototype_of}
use Rattle.sno_store.specs.Stored.{is_null, is_key, stored_notions}
use Rattle.sno_store.specs.Tables.{up_to, new_table, rows, some_id, array_of_rows, entry_place, entries_for, entry_or_new, entry_into, make_entry, filled}
use Rattle.sno_store.specs.Tables.{array_of_table, table_to_array}
use Rattle.sno_store.specs.Types.{DataType, type_fields, field_values, new_data}
use Rattle.sno_runtime.specs.Values.{IsValueOf, IsEntryOf, IsObjectOf}
use Rattle.sno_runtime.proofs.Members.{IfThere, member, all_at, all_set, all_end, all_same}

module _ (nodes : List Node) where
  abbrev pub AllKnown : List (Object Stored) → Type 0
  AllKnown objects = AllByRecursion (IsObjectOf nodes) objects

  -- what is read of them

  element_of : (o : Option (Object Stored)) (k : ℕ) → IfThere (IsObjectOf nodes) o → IsValueOf nodes (element_value (stored.Str []) (as_array o) k)
  element_of None k h = omega arith
  element_of (Some (ArrayOf elements)) k h = all_at (IsValueOf nodes) elements.values k (stored.Str []) h.1 (omega arith)
  element_of (Some (TableOf entries)) k h = omega arith
  element_of (Some (DataOf number fields)) k h = omega arith

  pub element_known : (objects : List (Object Stored)) (id : ObjId) (k : ℕ) → AllKnown objects
      → IsValueOf nodes (element_value (stored.Str []) (array_at objects id) k)
  element_known objects id k h = element_of _ k (member (IsObjectOf nodes) objects id.0 h)

  pub values_known : (entries : List (Stored × Stored)) → AllByRecursion (IsEntryOf nodes) entries
      → AllByRecursion (IsValueOf nodes) (map (λ entry. entry.1) entries)
  values_known [] h = tt
  values_known (entry ∷ entries) h = (h.0.1, values_known entries h.1)

  entry_of : (o : Option (Object Stored)) (k : ℕ) → IfThere (IsObjectOf nodes) o → IsValueOf nodes (entry_value (stored.Str []) (as_table o) k)
  entry_of None k h = omega arith
  entry_of (Some (ArrayOf elements)) k h = omega arith
  entry_of (Some (TableOf entries)) k h = all_at (IsValueOf nodes) (map (λ entry. entry.1) entries) k (stored.Str []) (values_known entries h) (omega arith)
  entry_of (Some (DataOf number fields)) k h = omega arith

  pub entry_known : (objects : List (Object Stored)) (id : ObjId) (k : ℕ) → AllKnown objects
      → IsValueOf nodes (entry_value (stored.Str []) (table_at objects id) k)
  entry_known objects id k h = entry_of _ k (member (IsObjectOf nodes) objects id.0 h)

  field_of : (o : Option (Object Stored)) (k : ℕ) → IfThere (IsObjectOf nodes) o → IsValueOf nodes (field_value (stored.Str []) (as_fields o) k)
  field_of None k h = omega arith
  field_of (Some (ArrayOf elements)) k h = omega arith
  field_of (Some (TableOf entries)) k h = omega arith
  field_of (Some (DataOf number fields)) k h = all_at (IsValueOf nodes) fields k (stored.Str []) h (omega arith)

  pub field_known : (objects : List (Object Stored)) (id : ObjId) (k : ℕ) → AllKnown objects
      → IsValueOf nodes (field_value (stored.Str []) (fields_at objects id) k)
  field_known objects id k h = field_of _ k (member (IsObjectOf nodes) objects id.0 h)

  -- what is changed of them

  pub changed_known : (change : Object Stored → Object Stored) → ((o : Object Stored) → IsObjectOf nodes o → IsObjectOf nodes (change o))
      → (objects : List (Object Stored)) (place : ℕ) → AllKnown objects → AllKnown (changed_at change objects place)
  changed_known change keeps [] place h = tt
  changed_known change keeps (o ∷ objects) zero h = (keeps o h.0, h.1)
  changed_known change keeps (o ∷ objects) (suc place) h = (h.0, changed_known change keeps objects place h.1)

  with_element_known : (k : ℕ) (v : Stored) (o : Object Stored) → IsValueOf nodes v → IsObjectOf nodes o → IsObjectOf nodes (with_element k v o)
  with_element_known k v (ArrayOf elements) p h = (h.0, all_set (IsValueOf nodes) elements.values k v h.1 p)
  with_element_known k v (TableOf entries) p h = h
  with_element_known k v (DataOf number fields) p h = h

  with_value_known : (k : ℕ) (v : Stored) (entries : List (Stored × Stored)) → IsValueOf nodes v → AllByRecursion (IsEntryOf nodes) entries
      → AllByRecursion (IsEntryOf nodes) (with_value_at k v entries)
  with_value_known k v [] p h = tt
  with_value_known zero v (entry ∷ entries) p h = ((h.0.0, p), h.1)
  with_value_known (suc k) v (entry ∷ entries) p h = (h.0, with_value_known k v entries p h.1)

  with_entry_known : (k : ℕ) (v : Stored) (o : Object Stored) → IsValueOf nodes v → IsObjectOf nodes o → IsObjectOf nodes (with_entry_value k v o)
  with_entry_known k v (ArrayOf elements) p h = h
  with_entry_known k v (TableOf entries) p h = with_value_known k v entries p h
  with_entry_known k v (DataOf number fields) p h = h

  with_field_known : (k : ℕ) (v : Stored) (o : Object Stored) → IsValueOf nodes v → IsObjectOf nodes o → IsObjectOf nodes (with_field k v o)
  with_field_known k v (ArrayOf elements) p h = h
  with_field_known k v (TableOf entries) p h = h
  with_field_known k v (DataOf number fields) p h = all_set (IsValueOf nodes) fields k v h p

  pub element_set_known : (k : ℕ) (v : Stored) (objects : List (Object Stored)) (id : ObjId) → IsValueOf nodes v → AllKnown objects
      → AllKnown (changed (with_element k v) objects id)
  element_set_known k v objects id p h = changed_known (with_element k v) (λ o. with_element_known k v o p) objects id.0 h

  pub entry_set_known : (k : ℕ) (v : Stored) (objects : List (Object Stored)) (id : ObjId) → IsValueOf nodes v → AllKnown objects
      → AllKnown (changed (with_entry_value k v) objects id)
  entry_set_known k v objects id p h = changed_known (with_entry_value k v) (λ o. with_entry_known k v o p) objects id.0 h

  pub field_set_known : (k : ℕ) (v : Stored) (objects : List (Object Stored)) (id : ObjId) → IsValueOf nodes v → AllKnown objects
      → AllKnown (changed (with_field k v) objects id)
  field_set_known k v objects id p h = changed_known (with_field k v) (λ o. with_field_known k v o p) objects id.0 h

  -- what an operation leaves

  abbrev pub Leaves : {A : Type 0} → Result (A × List (Object Stored)) ℕ → Type 0
  Leaves (Ok made) = AllKnown made.1
  Leaves (Err code) = Unit {0}

  joined_by : (b : Bool) (o : Object Stored) (objects : List (Object Stored)) → IsObjectOf nodes o → AllKnown objects
      → Leaves (if b then Err 9 else Ok (object_number (length objects), objects ++ o ∷ []))
  joined_by true o objects p h = tt
  joined_by false o objects p h = all_end (IsObjectOf nodes) objects o h p

  joined_leaves : (o : Object Stored) (objects : List (Object Stored)) → IsObjectOf nodes o → AllKnown objects → Leaves (joined o objects)
  joined_leaves o objects p h = joined_by (length objects == 1_000_000) o objects p h

  array_by : (b : Bool) (o : Object Stored) (objects : List (Object Stored)) → (b ≡ false → IsObjectOf nodes o) → AllKnown objects
      → Leaves (if b then Err 9 else joined o objects)
  array_by true o objects p h = tt
  array_by false o objects p h = joined_leaves o objects (p refl) h

  filled_leaves : (prototype : List ℕ) (v : Stored) (objects : List (Object Stored)) (o : Option (Dimensions)) → length prototype ≤ 1_000_000
      → IsValueOf nodes v → AllKnown objects → Leaves (filled_array prototype v objects o)
  filled_leaves prototype v objects None short p h = tt
  filled_leaves prototype v objects (Some dimensions) short p h =
      array_by (nat_lt 1_000_000 (element_count dimensions))
      (ArrayOf (record { prototype = prototype; dimensions = dimensions; values = replicate (element_count dimensions) v })) objects
      (λ _. (short, all_same (IsValueOf nodes) (element_count dimensions) v p)) h

  pub new_array_leaves : (prototype : List ℕ) (v : Stored) (objects : List (Object Stored)) → length prototype ≤ 1_000_000 → IsValueOf nodes v
      → AllKnown objects → Leaves (new_array prototype v objects)
  new_array_leaves prototype v objects short p h = filled_leaves prototype v objects (dimensions_of prototype) short p h

  pub new_table_leaves : (objects : List (Object Stored)) → AllKnown objects → Leaves (new_table objects)
  new_table_leaves objects h = joined_leaves (TableOf []) objects tt h

  values_of_fields : (n : ℕ) (values : List Stored) → AllByRecursion (IsValueOf nodes) values
      → AllByRecursion (IsValueOf nodes) (field_values (stored.Str []) n values)
  values_of_fields zero values h = tt
  values_of_fields (suc n) [] h = (omega arith, values_of_fields n [] h)
  values_of_fields (suc n) (value ∷ values) h = (h.0, values_of_fields n values h.1)

  pub new_data_leaves : (types : List DataType) (number : ℕ) (values : List Stored) (objects : List (Object Stored)) → AllByRecursion (IsValueOf nodes) values
      → AllKnown objects → Leaves (new_data (stored.Str []) types number values objects)
  new_data_leaves types number values objects p h =
      let n = length (type_fields (slice_get types number)) in joined_leaves (DataOf number (field_values (stored.Str []) n values)) objects
      (values_of_fields n values p) h

  added_by : (full : Bool) (id : ObjId) (key : Stored) (objects : List (Object Stored)) (entries : List (Stored × Stored)) → IsValueOf nodes key
      → AllByRecursion (IsEntryOf nodes) entries → AllKnown objects
      → Leaves (if full then Err 9 else Ok (Entry id (length entries), changed (λ _. TableOf (entries ++ (key, stored.Str []) ∷ [])) objects id))
  added_by true id key objects entries p e h = tt
  added_by false id key objects entries p e h =
      changed_known (λ _. TableOf (entries ++ (key, stored.Str []) ∷ []))
      (λ o _. all_end (IsEntryOf nodes) entries (key, stored.Str []) e (p, omega arith)) objects id.0 h

  entry_or_new_leaves : (id : ObjId) (key : Stored) (objects : List (Object Stored)) (entries : List (Stored × Stored)) (o : Option ℕ) → IsValueOf nodes key
      → AllByRecursion (IsEntryOf nodes) entries → AllKnown objects → Leaves (entry_or_new stored_notions id key objects entries o)
  entry_or_new_leaves id key objects entries (Some place) p e h = h
  entry_or_new_leaves id key objects entries None p e h = added_by (length entries == 1_000_000) id key objects entries p e h

  into_leaves : (b : Bool) (id : ObjId) (key : Stored) (objects : List (Object Stored)) (entries : List (Stored × Stored)) → IsValueOf nodes key
      → AllByRecursion (IsEntryOf nodes) entries → AllKnown objects
      → Leaves (entry_into stored_notions id key objects (if b then Ok entries else Err 1))
  into_leaves true id key objects entries p e h = entry_or_new_leaves id key objects entries (entry_place stored_notions key entries) p e h
  into_leaves false id key objects entries p e h = tt

  make_leaves : (id : ObjId) (key : Stored) (objects : List (Object Stored)) (o : Option (Object Stored)) → IsValueOf nodes key → IfThere (IsObjectOf nodes) o
      → AllKnown objects → Leaves (entry_into stored_notions id key objects (entries_for stored_notions key (as_table o)))
  make_leaves id key objects None p e h = tt
  make_leaves id key objects (Some (ArrayOf elements)) p e h = tt
  make_leaves id key objects (Some (TableOf entries)) p e h = into_leaves (is_key key) id key objects entries p e h
  make_leaves id key objects (Some (DataOf number fields)) p e h = tt

  pub make_entry_leaves : (id : ObjId) (key : Stored) (objects : List (Object Stored)) → IsValueOf nodes key → AllKnown objects
      → Leaves (make_entry stored_notions id key objects)
  make_entry_leaves id key objects p h = make_leaves id key objects (slice_get objects id.0) p (member (IsObjectOf nodes) objects id.0 h) h

  rows_known : (entries : List (Stored × Stored)) → AllByRecursion (IsEntryOf nodes) entries → AllByRecursion (IsValueOf nodes) (rows entries)
  rows_known [] h = tt
  rows_known (entry ∷ entries) h = (h.0.0, (h.0.1, rows_known entries h.1))

  kept_known : (b : Bool) (entry : Stored × Stored) (entries : List (Stored × Stored)) → IsEntryOf nodes entry → AllByRecursion (IsEntryOf nodes) entries
      → AllByRecursion (IsEntryOf nodes) (cond b (entry ∷ entries) entries)
  kept_known true entry entries p h = (p, h)
  kept_known false entry entries p h = h

  filled_known : (entries : List (Stored × Stored)) → AllByRecursion (IsEntryOf nodes) entries
      → AllByRecursion (IsEntryOf nodes) (filled stored_notions entries)
  filled_known [] h = tt
  filled_known (entry ∷ entries) h = kept_known (not (is_null entry.1)) entry (filled stored_notions entries) h.0 (filled_known entries h.1)

  some_id_leaves : (r : Result (ObjId × List (Object Stored)) ℕ) → Leaves r → Leaves (some_id r)
  some_id_leaves (Ok made) h = h
  some_id_leaves (Err code) h = tt

  -- the prototype of the array of so few rows is short
  short_rows : (n : ℕ) → nat_lt 1_000_000 (element_count (up_to (suc n) ∷ up_to 2 ∷ [])) ≡ false → length (decimal (suc n) ++ codes ",2") ≤ 1_000_000
  short_rows n few =
      let count : element_count (up_to (suc n) ∷ up_to 2 ∷ []) ≡ (unsigned_abs (pred_ℤ (pos (suc n))) + 1) * 2 =
      ap (λ z. (unsigned_abs z + 1) * 2) (-ℤ_one (pos (suc n))) in
      let small : (n + 1) * 2 ≤ 1_000_000 = subst (λ k. k ≤ 1_000_000) count (ltb-false 1_000_000 (element_count (up_to (suc n) ∷ up_to 2 ∷ [])) few) in
      let digits : length (decimal (suc n)) ≤ suc n + 1 = length-decimal-le_succ (suc n) (omega arith) in
      let whole : length (decimal (suc n) ++ codes ",2") ≡ length (decimal (suc n)) + 2 = length-append (decimal (suc n)) (codes ",2") in
      omega arith

  array_of_rows_leaves : (entries : List (Stored × Stored)) (objects : List (Object Stored)) → AllByRecursion (IsEntryOf nodes) entries → AllKnown objects
      → Leaves (array_of_rows entries objects)
  array_of_rows_leaves [] objects e h = h
  array_of_rows_leaves (entry ∷ entries) objects e h =
      let n = length entries in
      some_id_leaves (array_from (decimal (suc n) ++ codes ",2") (up_to (suc n) ∷ up_to 2 ∷ []) (rows (entry ∷ entries)) objects)
      (array_by (nat_lt 1_000_000 (element_count (up_to (suc n) ∷ up_to 2 ∷ [])))
      (ArrayOf (record { prototype = decimal (suc n) ++ codes ",2"; dimensions = up_to (suc n) ∷ up_to 2 ∷ []; values = rows (entry ∷ entries) })) objects
      (λ few. (short_rows n few, rows_known (entry ∷ entries) e)) h)

  to_array_leaves : (objects : List (Object Stored)) (o : Option (Object Stored)) → IfThere (IsObjectOf nodes) o → AllKnown objects
      → Leaves (array_of_table stored_notions objects (as_table o))
  to_array_leaves objects None e h = tt
  to_array_leaves objects (Some (ArrayOf elements)) e h = tt
  to_array_leaves objects (Some (TableOf entries)) e h = array_of_rows_leaves (filled stored_notions entries) objects (filled_known entries e) h
  to_array_leaves objects (Some (DataOf number fields)) e h = tt

  pub table_to_array_leaves : (id : ObjId) (objects : List (Object Stored)) → AllKnown objects → Leaves (table_to_array stored_notions id objects)
  table_to_array_leaves id objects h = to_array_leaves objects (slice_get objects id.0) (member (IsObjectOf nodes) objects id.0 h) h

  -- a prototype is short

  prototype_short : (o : Option (Object Stored)) (text : List ℕ) → text_of (as_array o) ≡ Ok text → IfThere (IsObjectOf nodes) o → length text ≤ 1_000_000
  prototype_short None text is h = absurd (cc is)
  prototype_short (Some (ArrayOf elements)) text is h = let same : elements.prototype ≡ text = cc is in subst (λ t. length t ≤ 1_000_000) same h.0
  prototype_short (Some (TableOf entries)) text is h = absurd (cc is)
  prototype_short (Some (DataOf number fields)) text is h = absurd (cc is)

  pub prototype_known : (objects : List (Object Stored)) (id : ObjId) (text : List ℕ) → prototype_of objects id ≡ Ok text → AllKnown objects
      → length text ≤ 1_000_000
  prototype_known objects id text is h = prototype_short (slice_get objects id.0) text is (member (IsObjectOf nodes) objects id.0 h)
