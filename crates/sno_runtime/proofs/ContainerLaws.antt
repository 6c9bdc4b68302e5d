-- The functions that make arrays and tables, and CONVERT.
use Rattle.std.proofs.Common.{◌≡◌, true, refl, Option, None, Some, Ok, Err}
use Rattle.sno_value.specs.declared.ids.ObjId.{ObjId}
use Rattle.sno_value.specs.declared.ids.PatId.{PatId}
use Rattle.sno_value.specs.declared.value.Value.{Value as Stored}
use Rattle.sno_value.specs.declared.value.Value.TheVariants as stored
use Rattle.sno_store.specs.Tables.{new_table, table_to_array}
use Rattle.sno_runtime.specs.declared.stops.Exit.{Exit}
use Rattle.sno_runtime.specs.declared.stops.Exit.TheVariants.{Failure}
use Rattle.sno_runtime.specs.Action.{Action, gives, fails, either, and_then}
use Rattle.sno_runtime.specs.Values.{Value, Array, Table, shown, IsValueOf}
use Rattle.sno_runtime.specs.Operators.{is_patternable, as_pattern, pattern_if}
use Rattle.sno_runtime.specs.Containers.{notions, does, table, as_array}
use Rattle.sno_runtime.specs.Runtime.{Runtime, itself, tree_of, IsPatternOf}
use Rattle.sno_runtime.specs.inner.Runtime.{Does, any}
use Rattle.sno_runtime.proofs.Outcomes.{gives_does, fails_does, then_got, then_err}
use Rattle.sno_runtime.proofs.Conversions.{value_made, value_refused}

-- the array that an operation makes, as a value
abbrev array_made : Action ObjId → Action Value
array_made act = and_then act (λ id. gives (Array id.0))

pub array_given : (act : Action ObjId) (a b : Runtime) (id : ObjId) → Does itself any act a b (Ok id)
    → Does shown IsValueOf (array_made act) a b (Ok (stored.Array id))
array_given act a b id h = then_got itself any shown IsValueOf act (λ id. gives (Array id.0)) a b b id (Ok (stored.Array id)) h
    (gives_does shown IsValueOf b (stored.Array id) (Array id.0) refl tt)

pub array_refused : (act : Action ObjId) (a b : Runtime) (e : Exit) → Does {X = ObjId} itself any act a b (Err e)
    → Does {X = Stored} shown IsValueOf (array_made act) a b (Err e)
array_refused act a b e h = then_err itself any shown IsValueOf act (λ id. gives (Array id.0)) a b e h

-- a new table
pub table_given : (a b : Runtime) (id : ObjId) → Does itself any (does new_table) a b (Ok id) → Does shown IsValueOf table a b (Ok (stored.Table id))
table_given a b id h = then_got itself any shown IsValueOf (does new_table) (λ id. gives (Table id.0)) a b b id (Ok (stored.Table id)) h
    (gives_does shown IsValueOf b (stored.Table id) (Table id.0) refl tt)

pub table_refused : (a b : Runtime) (e : Exit) → Does {X = ObjId} itself any (does new_table) a b (Err e) → Does {X = Stored} shown IsValueOf table a b (Err e)
table_refused a b e h = then_err itself any shown IsValueOf (does new_table) (λ id. gives (Table id.0)) a b e h

-- the array of a table

abbrev entries_of : ObjId → Action (Option ObjId)
entries_of id = does (table_to_array notions id)

abbrev array_if : Option ObjId → Action Value
array_if made = either fails (λ id. gives (Array id.0)) made

pub entries_refused : (id : ObjId) (a b : Runtime) (e : Exit) → Does {X = Option ObjId} itself any (entries_of id) a b (Err e)
    → Does {X = Stored} shown IsValueOf (as_array (Table id.0)) a b (Err e)
entries_refused id a b e h = then_err itself any shown IsValueOf (entries_of id) array_if a b e h

pub entries_given : (id : ObjId) (a b : Runtime) (array : ObjId) → Does itself any (entries_of id) a b (Ok (Some array))
    → Does shown IsValueOf (as_array (Table id.0)) a b (Ok (stored.Array array))
entries_given id a b array h =
    then_got itself any shown IsValueOf (entries_of id) array_if a b b (Some array) (Ok (stored.Array array)) h
    (gives_does shown IsValueOf b (stored.Array array) (Array array.0) refl tt)

pub no_entries : (id : ObjId) (a b : Runtime) → Does itself any (entries_of id) a b (Ok None)
    → Does {X = Stored} shown IsValueOf (as_array (Table id.0)) a b (Err Failure)
no_entries id a b h = then_got itself any shown IsValueOf (entries_of id) array_if a b b None (Err Failure) h (fails_does shown IsValueOf b)

-- a pattern, where there is one

pub pattern_given : (x : Value) (a b : Runtime) (id : PatId) → is_patternable x ≡ true → Does tree_of IsPatternOf (as_pattern x) a b (Ok id)
    → Does shown IsValueOf (pattern_if x) a b (Ok (stored.Pat id))
pattern_given x a b id is h = rw is (value_made (as_pattern x) a b id h)

pub pattern_refused : (x : Value) (a b : Runtime) (e : Exit) → is_patternable x ≡ true → Does {X = PatId} tree_of IsPatternOf (as_pattern x) a b (Err e)
    → Does {X = Stored} shown IsValueOf (pattern_if x) a b (Err e)
pattern_refused x a b e is h = rw is (value_refused (as_pattern x) a b e h)
