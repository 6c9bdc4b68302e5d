-- Tables: entries by their keys, in the order in which the keys joined.
use Rattle.std.specs.Prelude.{ℕ, ◌==◌, pos, Bool, not, List, [], ◌∷◌, ◌++◌, codes, length, map, filter, position}
use Rattle.std.specs.Prelude.{option_map, Option, None, Some, Result, Ok, Err, if◌then◌else◌}
use Rattle.std.specs.Fmt.{decimal}
use Rattle.sno_value.specs.declared.ids.ObjId.{ObjId}
use Rattle.sno_value.specs.declared.value.Name.{Name}
use Rattle.sno_value.specs.declared.value.Name.TheVariants.{Entry}
use Rattle.sno_store.specs.declared.dimension.Dimension.{Dimension}
use Rattle.sno_store.specs.Objects.{Object, TableOf, table_at, changed, joined}
use Rattle.sno_store.specs.Arrays.{array_from}

-- what a table asks of values
pub record Notions (V : Type 0) : Type 0 where
  -- the null string
  pub null : V
  pub is_null : V → Bool
  -- whether a value may be a key
  pub is_key : V → Bool
  -- whether two keys are one: of equal type and value
  pub same : V → V → Bool

-- from 1 to n
abbrev pub up_to : ℕ → Dimension
up_to n = record { low = pos 1; high = pos n }

module _ {V : Type 0} where
  -- a new object without entries
  abbrev pub new_table : List (Object V) → Result (ObjId × List (Object V)) ℕ
  new_table objects = joined (TableOf []) objects

  -- keys and values in turn
  abbrev pub rows : List (V × V) → List V
  rows [] = []
  rows (entry ∷ entries) = entry.0 ∷ entry.1 ∷ rows entries

  abbrev pub some_id : Result (ObjId × List (Object V)) ℕ → Result (Option ObjId × List (Object V)) ℕ
  some_id (Ok made) = Ok (Some made.0, made.1)
  some_id (Err number) = Err number

  -- an array with the prototype `n,2`, each row a key and its value; of no entries there is none
  abbrev pub array_of_rows : List (V × V) → List (Object V) → Result (Option ObjId × List (Object V)) ℕ
  array_of_rows [] objects = Ok (None, objects)
  array_of_rows (entry ∷ entries) objects =
      let n = length (entry ∷ entries) in
      some_id (array_from (decimal n ++ codes ",2") (up_to n ∷ up_to 2 ∷ []) (rows (entry ∷ entries)) objects)

  module _ (notions : Notions V) where
    -- the place of the entry with a key
    abbrev pub entry_place : V → List (V × V) → Option ℕ
    entry_place key entries = position (notions.same key) (map (λ entry. entry.0) entries)

    -- the entries of the table that a value may be a key of; where there is no table, or the value may be no key, it is
    -- error 1
    abbrev pub entries_for : V → Option (List (V × V)) → Result (List (V × V)) ℕ
    entries_for key (Some entries) = if notions.is_key key then Ok entries else Err 1
    entries_for key None = Err 1

    abbrev pub entry_in : ObjId → V → Result (List (V × V)) ℕ → Result (Option Name) ℕ
    entry_in id key (Ok entries) = Ok (option_map (Entry id) (entry_place key entries))
    entry_in id key (Err number) = Err number

    -- the entry with a key, if there is one
    abbrev pub find_entry : List (Object V) → ObjId → V → Result (Option Name) ℕ
    find_entry objects id key = entry_in id key (entries_for key (table_at objects id))

    -- a new last entry has null; beside 1,000,000 others it is error 9 (this profile)
    abbrev pub entry_or_new : ObjId → V → List (Object V) → List (V × V) → Option ℕ → Result (Name × List (Object V)) ℕ
    entry_or_new id key objects entries (Some place) = Ok (Entry id place, objects)
    entry_or_new id key objects entries None =
        if length entries == 1_000_000 then Err 9
        else Ok (Entry id (length entries), changed (λ _. TableOf (entries ++ (key, notions.null) ∷ [])) objects id)

    abbrev pub entry_into : ObjId → V → List (Object V) → Result (List (V × V)) ℕ → Result (Name × List (Object V)) ℕ
    entry_into id key objects (Ok entries) = entry_or_new id key objects entries (entry_place key entries)
    entry_into id key objects (Err number) = Err number

    -- the entry with a key, which is made where there is none
    abbrev pub make_entry : ObjId → V → List (Object V) → Result (Name × List (Object V)) ℕ
    make_entry id key objects = entry_into id key objects (entries_for key (table_at objects id))

    -- the entries whose value isn't null
    abbrev pub filled : List (V × V) → List (V × V)
    filled entries = filter (λ entry. not (notions.is_null entry.1)) entries

    abbrev pub array_of_table : List (Object V) → Option (List (V × V)) → Result (Option ObjId × List (Object V)) ℕ
    array_of_table objects (Some entries) = array_of_rows (filled entries) objects
    array_of_table objects None = Err 1

    -- an array of the entries of a table whose value isn't null, if there are any; of no table it is error 1
    abbrev pub table_to_array : ObjId → List (Object V) → Result (Option ObjId × List (Object V)) ℕ
    table_to_array id objects = array_of_table objects (table_at objects id)
