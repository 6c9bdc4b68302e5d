-- The list of objects, beside the list that is kept.
use Rattle.std.proofs.Common.{◌≡◌, ℕ, zero, suc, ◌+◌, ◌<◌, ◌≤◌, ◌==◌, ◌⊎◌, inl, inr, Bool, true, false, if◌then◌else◌}
use Rattle.std.proofs.Common.{List, [], ◌∷◌, ◌++◌, drop, length, map, set, get_or}
use Rattle.std.proofs.Common.{slice_get}
use Rattle.std.proofs.Common.{option_map, unwrap_or, Option, None, Some, Result, Ok, Err, IsErrAnd, refl, sym, ap, subst, ◌∙◌, arith}
use Rattle.std.proofs.lemmas.Option.{unwrap_or-slice_get, slice_get-map, slice_get-get_or}
use Rattle.std.specs.Global.{Box}
use Rattle.std.proofs.lemmas.Bool.{cases_lt}
use Rattle.std.proofs.lemmas.List.{drop_all, drop_more, get_or_past, set-get_or}
use Rattle.sno_value.specs.declared.ids.ObjId.{ObjId}
use Rattle.sno_value.specs.declared.value.Name.{Name}
use Rattle.sno_value.specs.declared.value.Name.TheVariants.{Entry}
use Rattle.sno_value.specs.declared.value.Value.{Value}
use Rattle.sno_value.specs.declared.value.Value.TheVariants.{Str}
use Rattle.sno_store.specs.declared.error.StoreError.{StoreError}
use Rattle.sno_store.specs.declared.error.StoreError.TheVariants.{NullName, Full, WrongType, BadPrototype, CallLevel, NoMemory}
use Rattle.sno_store.specs.declared.object.Object.{Object as Kept}
use Rattle.sno_store.specs.declared.object.Object.TheVariants.{Array, Table, Data}
use Rattle.sno_store.specs.Objects.{Elements, Object, TableOf, as_table, element_value, entry_value, field_value, changed_at, changed}
use Rattle.sno_store.specs.Outcomes.{IsError}
use Rattle.sno_store.specs.inner.Seen.{seen, Does, with_key, IsEntry}
use Rattle.sno_store.specs.Stored.{is_key, stored_notions}
use Rattle.sno_store.specs.Types.{field_values}
use Rattle.sno_store.specs.Tables.{entry_place, entries_for, entry_into, entry_or_new, make_entry}

-- an object that is changed in its place
pub changed_is : (change : Object Value → Object Value) (objects : List Kept) (i : ℕ) (object old : Kept) → i < length objects → old ≡ get_or objects i old
    → seen object ≡ change (seen old)
    → map seen (set objects i object) ≡ changed_at change (map seen objects) i
changed_is change [] i object old within was is = absurd (omega arith)
changed_is change (o ∷ objects) zero object old within was is = ap (λ x. x ∷ map seen objects) (is ∙ ap (λ x. change (seen x)) was)
changed_is change (o ∷ objects) (suc i) object old within was is = ap (λ xs. seen o ∷ xs) (changed_is change objects i object old (omega arith) was is)

-- past the last object nothing changes
pub changed_past : (change : Object Value → Object Value) (objects : List (Object Value)) (i : ℕ) → length objects ≤ i → objects ≡ changed_at change objects i
changed_past change [] i past = refl
changed_past change (o ∷ objects) zero past = absurd (omega arith)
changed_past change (o ∷ objects) (suc i) past = ap (λ xs. o ∷ xs) (changed_past change objects i (omega arith))

-- nor where the object is what it becomes
changed_same : (object : Object Value) (objects : List (Object Value)) (i : ℕ) → slice_get objects i ≡ Some object
    → objects ≡ changed_at (λ _. object) objects i
changed_same object [] i is = refl
changed_same object (o ∷ objects) zero is = let same : o ≡ object = cc in ap (λ x. x ∷ objects) same
changed_same object (o ∷ objects) (suc i) is = ap (λ xs. o ∷ xs) (changed_same object objects i is)

pub element_is : (null : Value) (array : Option (Elements Value)) (elements : Elements Value) (k : ℕ) (value : Option Value) → Some elements ≡ array
    → value ≡ slice_get elements.values k
    → unwrap_or value null ≡ element_value null array k
element_is null array elements k value is found = ap (λ v. unwrap_or v null) found ∙ unwrap_or-slice_get elements.values k null
    ∙ ap (λ a. element_value null a k) is

pub entry_is : (null : Value) (table : Option (List (Value × Value))) (entries : List (Value × Value)) (k : ℕ) (value : Option Value) → Some entries ≡ table
    → value ≡ slice_get (map (λ e. e.1) entries) k
    → unwrap_or value null ≡ entry_value null table k
entry_is null table entries k value is found = ap (λ v. unwrap_or v null) found ∙ unwrap_or-slice_get (map (λ e. e.1) entries) k null
    ∙ ap (λ t. entry_value null t k) is

pub field_is : (null : Value) (fields : Option (List Value)) (values : List Value) (k : ℕ) (value : Option Value) → Some values ≡ fields
    → value ≡ slice_get values k
    → unwrap_or value null ≡ field_value null fields k
field_is null fields values k value is found = ap (λ v. unwrap_or v null) found ∙ unwrap_or-slice_get values k null ∙ ap (λ f. field_value null f k) is

-- the value at a place is that of the next field, or is missing
pub field_next : (null : Value) (n m : ℕ) (values : List Value) (i : ℕ) → n ≡ suc m → field_values null n (drop i values)
    ≡ get_or values i null ∷ field_values null m (drop (i + 1) values)
field_next null n m values i one = ap (λ k. field_values null k (drop i values)) one ∙ by (cases_lt i (length values))
  where
    by : (i < length values) ⊎ (length values ≤ i)
        → field_values null (suc m) (drop i values) ≡ get_or values i null ∷ field_values null m (drop (i + 1) values)
    by (inl within) = ap (field_values null (suc m)) (drop_more values i null within)
    by (inr past) =
        ap (field_values null (suc m)) (drop_all i values past)
        ∙ sym (λ k. get_or_past values i null past k ∷ field_values null m (drop_all (i + 1) values (omega arith) k))

-- the table that a number is
pub table_is : (objects : List Kept) (i : ℕ) (entries : Box (List (Value × Value))) (old : Kept) → i < length objects
    → old ≡ get_or objects i old → Table entries ≡ old
    → slice_get (map seen objects) i ≡ Some (TableOf entries.value)
table_is objects i entries old within was is =
    slice_get-map seen objects i ∙ ap (option_map seen) (slice_get-get_or objects i old within) ∙ ap (λ o. Some (seen o)) (sym was ∙ sym is)

-- the answer of a table, as that of the objects
abbrev pub named : ObjId → Result ℕ StoreError → Result Name StoreError
named id (Ok place) = Ok (Entry id place)
named id (Err refusal) = Err refusal

module _ (id : ObjId) (key : Value) (objects : List (Object Value)) (entries new : List (Value × Value)) (is : slice_get objects id.0 ≡ Some (TableOf entries))
    (may : is_key key ≡ true) where
  meant : make_entry stored_notions id key objects ≡ entry_or_new stored_notions id key objects entries (entry_place stored_notions key entries)
  meant =
      ap (λ o. entry_into stored_notions id key objects (entries_for stored_notions key (as_table o))) is
      ∙ ap (λ b. entry_into stored_notions id key objects (if b then Ok entries else Err 1)) may

  becomes : changed (λ _. TableOf entries) objects id ≡ objects
  becomes = sym (changed_same (TableOf entries) objects id.0 is)

  -- the entry that is new, for the table and for the objects
  abbrev new_in_table : Bool → Result (ℕ × List (Value × Value)) ℕ
  new_in_table is_full = if is_full then Err 9 else Ok (length entries, entries ++ (key, Str []) ∷ [])

  abbrev new_in_objects : Bool → Result (Name × List (Object Value)) ℕ
  new_in_objects is_full = if is_full then Err 9 else Ok (Entry id (length entries), changed (λ _. TableOf (entries ++ (key, Str []) ∷ [])) objects id)

  made_new : (is_full : Bool) (n : ℕ) → new_in_table is_full ≡ Ok (n, new) → new_in_objects is_full ≡ Ok (Entry id n, changed (λ _. TableOf new) objects id)
  made_new true n h = absurd (cc)
  made_new false n h =
      let both : ◌≡◌ {A = ℕ × List (Value × Value)} (length entries, entries ++ (key, Str []) ∷ []) (n, new) = cc in
      λ i. Ok (Entry id (both i).0, changed (λ _. TableOf (both i).1) objects id)

  refused_new : (is_full : Bool) (refusal : StoreError) → IsError (new_in_table is_full) refusal → IsError (new_in_objects is_full) refusal
  refused_new true NullName h = absurd (cc)
  refused_new true Full h = refl
  refused_new true WrongType h = absurd (cc)
  refused_new true BadPrototype h = absurd (cc)
  refused_new true CallLevel h = absurd (cc)
  refused_new true NoMemory h = absurd (cc)
  refused_new false NullName h = absurd (cc)
  refused_new false Full h = absurd (cc)
  refused_new false WrongType h = absurd (cc)
  refused_new false BadPrototype h = absurd (cc)
  refused_new false CallLevel h = absurd (cc)
  refused_new false NoMemory h = refl

  made : (place : Option ℕ) (n : ℕ) → with_key key entries place ≡ Ok (n, new)
      → entry_or_new stored_notions id key objects entries place ≡ Ok (Entry id n, changed (λ _. TableOf new) objects id)
  made (Some k) n e =
      let both : ◌≡◌ {A = ℕ × List (Value × Value)} (k, entries) (n, new) = cc in
      ap (λ os. Ok (Entry id k, os)) (sym becomes) ∙ (λ i. Ok (Entry id (both i).0, changed (λ _. TableOf (both i).1) objects id))
  made None n e = made_new (length entries == 1_000_000) n e

  refused : (place : Option ℕ) (refusal : StoreError) → IsError (with_key key entries place) refusal
      → IsError (entry_or_new stored_notions id key objects entries place) refusal
  refused (Some k) NullName h = absurd (cc)
  refused (Some k) Full h = absurd (cc)
  refused (Some k) WrongType h = absurd (cc)
  refused (Some k) BadPrototype h = absurd (cc)
  refused (Some k) CallLevel h = absurd (cc)
  refused (Some k) NoMemory h = refl
  refused None refusal h = refused_new (length entries == 1_000_000) refusal h

  -- what was done to the table was done to the objects
  entry_done : (result : Result ℕ StoreError) → IsEntry key entries new result
      → Does (make_entry stored_notions id key) objects (changed (λ _. TableOf new) objects id) (named id result)
  entry_done (Ok n) h = meant ∙ made (entry_place stored_notions key entries) n h
  entry_done (Err refusal) h =
      let error : IsError (make_entry stored_notions id key objects) refusal =
      subst (λ m. IsError m refusal) (sym meant) (refused (entry_place stored_notions key entries) refusal h.0) in
      (error, ap (λ es. changed (λ _. TableOf es) objects id) h.1 ∙ becomes)

module _ (id : ObjId) (key : Value) (objects : List Kept) (shown : List (Object Value)) (view : map seen objects ≡ shown) (old : Kept)
    (within : id.0 < length objects) (was : old ≡ get_or objects id.0 old) where
  -- what was done to a table that is kept
  pub entry_kept : (entries new : Box (List (Value × Value))) → Table entries ≡ old → is_key key ≡ true → (result : Result ℕ StoreError)
      → IsEntry key entries.value new.value result
      → Does (make_entry stored_notions id key) shown (map seen (set objects id.0 (Table new))) (named id result)
  entry_kept entries new is may result h =
      let table : slice_get shown id.0 ≡ Some (TableOf entries.value) =
      ap (λ os. slice_get os id.0) (sym view) ∙ table_is objects id.0 entries old within was is in
      let same : changed (λ _. TableOf new.value) shown id ≡ map seen (set objects id.0 (Table new)) =
      ap (λ os. changed (λ _. TableOf new.value) os id) (sym view) ∙ sym (changed_is (λ _. TableOf new.value) objects id.0 (Table new) old within was refl) in
      subst (λ os. Does (make_entry stored_notions id key) shown os (named id result)) same (entry_done id key shown entries.value new.value table may result h)

  -- where the object is no table there is no entry, and it is put back
  pub no_entry : ((entries : Box (List (Value × Value))) → old ≡ Table entries → ⊥) → (make_entry stored_notions id key shown ≡ Err 1)
      × (map seen (set objects id.0 old) ≡ shown)
  no_entry other = (by old refl, ap (λ o. map seen (set objects id.0 o)) was ∙ ap (map seen) (set-get_or objects id.0 old) ∙ view)
    where
      found : (o : Kept) → old ≡ o → slice_get shown id.0 ≡ Some (seen o)
      found o is = ap (λ os. slice_get os id.0) (sym view) ∙ slice_get-map seen objects id.0 ∙ ap (option_map seen) (slice_get-get_or objects id.0 old within)
          ∙ ap (λ x. Some (seen x)) (sym was ∙ is)

      by : (o : Kept) → old ≡ o → make_entry stored_notions id key shown ≡ Err 1
      by (Array elements) is = ap (λ o. entry_into stored_notions id key shown (entries_for stored_notions key (as_table o))) (found (Array elements) is)
      by (Data instance) is = ap (λ o. entry_into stored_notions id key shown (entries_for stored_notions key (as_table o))) (found (Data instance) is)
      by (Table entries) is = absurd (other entries is)

-- a refusal that is passed on
pub passed_on : {X : Type 0} (call : List (Object Value) → Result (X × List (Object Value)) ℕ) (old new : List (Object Value)) (refusal : StoreError)
    (result : Result X StoreError)
    → IsErrAnd result (λ e. e ≡ refusal) → Does call old new (Err refusal) → Does call old new result
passed_on call old new refusal (Ok x) is h = absurd is
passed_on call old new refusal (Err e) is h = (subst (λ r. IsError (call old) r) (sym is) h.0, h.1)
