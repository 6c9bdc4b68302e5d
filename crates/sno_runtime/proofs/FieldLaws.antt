-- Objects of a program's own types, and their fields.
use Rattle.std.proofs.Common.{◌≡◌, ℕ, ◌||◌, Bool, true, false, is_some, List, [], if◌then◌else◌, map, option_map, refl, ap, sym, ◌∙◌, subst, arith, Option}
use Rattle.std.proofs.Common.{None, Some, Result, Ok, Err}
use Rattle.sno_value.specs.declared.ids.ObjId.{ObjId}
use Rattle.sno_value.specs.declared.ids.SymId.{SymId}
use Rattle.sno_value.specs.declared.value.Name.{Name as Target}
use Rattle.sno_value.specs.declared.value.Value.{Value as Stored}
use Rattle.sno_value.specs.declared.value.Value.TheVariants as stored
use Rattle.sno_pattern.specs.Table.{Node}
use Rattle.sno_store.specs.declared.functions.Function.{Function}
use Rattle.sno_store.specs.declared.functions.Function.TheVariants.{Undefined, Defined, Constructs, IsField}
use Rattle.sno_store.specs.Store.{Store}
use Rattle.sno_store.specs.Functions.{as_definition, as_constructor, is_field}
use Rattle.sno_store.specs.Outcomes.{IsDone, itself as as_told}
use Rattle.sno_store.specs.Symbols.{found as symbol_found}
use Rattle.sno_store.specs.Types.{field_name, new_data}
use Rattle.sno_store.specs.declared.error.StoreError.{StoreError}
use Rattle.sno_runtime.specs.declared.stops.Exit.{Exit}
use Rattle.sno_runtime.specs.declared.stops.Exit.TheVariants.{Halt}
use Rattle.sno_runtime.specs.declared.stops.Stop.TheVariants.{Error as HasError}
use Rattle.sno_runtime.specs.World.{World}
use Rattle.sno_runtime.specs.Values.{Value, Str, Data, shown, IsValueOf}
use Rattle.sno_runtime.specs.Action.{Error, Outcome, Action, gives, stops, either}
use Rattle.sno_runtime.specs.Variables.{wrong_type, holds}
use Rattle.sno_runtime.specs.Operators.{as_value}
use Rattle.sno_runtime.specs.Fields.{makes_object, constructs, field_of, field_value, is_field_named, asks_field, field_as_name, is_made}
use Rattle.sno_runtime.specs.Runtime.{Runtime, world, itself}
use Rattle.sno_runtime.specs.inner.Runtime.{Meets, Does, any, exit_of_store}
use Rattle.sno_runtime.proofs.Names.{name_given, name_refused}
use Rattle.sno_runtime.proofs.ObjectLaws.{done_ok, done_err}
use Rattle.sno_runtime.proofs.ObjectOperations.{new_data_map, field_name_map}
use Rattle.sno_runtime.proofs.Outcomes.{gives_does, stops_does, then_got, then_err}

-- an action that is another one in the worlds of a state
as_in : {X A : Type 0} (see : List Node → X → A) (fits : List Node → X → Type 0) (act other : Action A) (a b : Runtime) (r : Result X Exit)
    → ((more : List ℕ) → act (world a more) ≡ other (world a more)) → Does see fits other a b r → Does see fits act a b r
as_in see fits act other a b r same h = record {
  grows = h.grows;
  meets = λ more. subst (λ (o : Outcome _). Meets (see b.nodes) o (world b more) r) (sym (same more)) (h.meets more);
  answer = h.answer;
  unread = h.unread;
}

-- new objects

pub object_made : (s : Runtime) (new : Store) (number : ℕ) (values : List Stored) (id : ObjId)
    → IsDone as_told (new_data (stored.Str []) s.store.types number values) s.store new (Ok id)
    → Does itself any (makes_object number (map (shown s.nodes) values)) s (record s { store = new }) (Ok id)
object_made s new number values id h =
    let d = done_ok s new (new_data (stored.Str []) s.store.types number values) (new_data (Str []) s.store.types number (map (shown s.nodes) values)) id
    (new_data_map (shown s.nodes) (stored.Str []) s.store.types number values) h in
    record { grows = d.grows; meets = d.meets; answer = d.answer; unread = d.unread }

pub object_refused : (s : Runtime) (new : Store) (number : ℕ) (values : List Stored) (e : StoreError)
    → IsDone {X = ObjId} as_told (new_data (stored.Str []) s.store.types number values) s.store new (Err e)
    → Does {X = ObjId} itself any (makes_object number (map (shown s.nodes) values)) s (record s { store = new }) (Err (exit_of_store e))
object_refused s new number values e h =
    let d = done_err {X = ObjId} s new (new_data (stored.Str []) s.store.types number values)
    (new_data (Str []) s.store.types number (map (shown s.nodes) values)) e (new_data_map (shown s.nodes) (stored.Str []) s.store.types number values) h in
    record { grows = d.grows; meets = d.meets; answer = d.answer; unread = d.unread }

pub constructed : (number : ℕ) (xs : List Value) (a b : Runtime) (id : ObjId) → Does itself any (makes_object number xs) a b (Ok id)
    → Does shown IsValueOf (constructs number xs) a b (Ok (stored.Data id))
constructed number xs a b id h = then_got itself any shown IsValueOf (makes_object number xs) (λ id. gives (Data id.0)) a b b id (Ok (stored.Data id)) h
    (gives_does shown IsValueOf b (stored.Data id) (Data id.0) refl tt)

pub not_constructed : (number : ℕ) (xs : List Value) (a b : Runtime) (e : Exit) → Does {X = ObjId} itself any (makes_object number xs) a b (Err e)
    → Does {X = Stored} shown IsValueOf (constructs number xs) a b (Err e)
not_constructed number xs a b e h = then_err itself any shown IsValueOf (makes_object number xs) (λ id. gives (Data id.0)) a b e h

-- the field of an object

other_value : (symbol : ℕ) (nodes : List Node) (x : Stored) (w : World) → ((id : ObjId) → x ≡ stored.Data id → ⊥)
    → field_of symbol (shown nodes x) w ≡ wrong_type w
other_value symbol nodes (stored.Str bytes) w isnt = refl
other_value symbol nodes (stored.Int number) w isnt = refl
other_value symbol nodes (stored.Pat id) w isnt = refl
other_value symbol nodes (stored.Expr id) w isnt = refl
other_value symbol nodes (stored.Name target) w isnt = refl
other_value symbol nodes (stored.Array id) w isnt = refl
other_value symbol nodes (stored.Table id) w isnt = refl
other_value symbol nodes (stored.Data id) w isnt = absurd (isnt id refl)

pub no_object : (symbol : ℕ) (x : Stored) (s : Runtime) → ((id : ObjId) → x ≡ stored.Data id → ⊥)
    → Does {X = Target} itself any (field_of symbol (shown s.nodes x)) s s (Err (Halt (HasError 1)))
no_object symbol x s isnt = as_in {X = Target} itself any (field_of symbol (shown s.nodes x)) wrong_type s s (Err (Halt (HasError 1)))
    (λ more. other_value symbol s.nodes x (world s more) isnt) (stops_does itself any s 1)

field_seen : (symbol : ℕ) (id : ObjId) (s : Runtime) (o : Option Target) → o ≡ field_name s.store.types s.store.objects id symbol → (more : List ℕ)
    → field_of symbol (Data id.0) (world s more) ≡ either wrong_type gives o (world s more)
field_seen symbol id s o is more =
    ap (λ (o : Option Target). either wrong_type gives o (world s more)) (field_name_map (shown s.nodes) s.store.types s.store.objects id symbol ∙ sym is)

pub field_there : (symbol : ℕ) (id : ObjId) (name : Target) (s : Runtime) (o : Option Target) → o ≡ Some name
    → o ≡ field_name s.store.types s.store.objects id symbol → Does itself any (field_of symbol (Data id.0)) s s (Ok name)
field_there symbol id name s o some is =
    as_in itself any (field_of symbol (Data id.0)) (gives name) s s (Ok name) (field_seen symbol id s (Some name) (sym some ∙ is))
    (gives_does itself any s name name refl tt)

pub field_missing : (symbol : ℕ) (id : ObjId) (s : Runtime) (o : Option Target) → o ≡ None → o ≡ field_name s.store.types s.store.objects id symbol
    → Does {X = Target} itself any (field_of symbol (Data id.0)) s s (Err (Halt (HasError 1)))
field_missing symbol id s o none is = as_in {X = Target} itself any (field_of symbol (Data id.0)) wrong_type s s (Err (Halt (HasError 1)))
    (field_seen symbol id s None (sym none ∙ is)) (stops_does itself any s 1)

-- as a value

pub field_held_by : (symbol : ℕ) (x : Value) (s : Runtime) (name : Target) (r : Result Stored Exit) → Does itself any (field_of symbol x) s s (Ok name)
    → Does shown IsValueOf (holds name) s s r → Does shown IsValueOf (field_value symbol x) s s r
field_held_by symbol x s name r h held = then_got itself any shown IsValueOf (field_of symbol x) holds s s s name r h held

pub no_field_held : (symbol : ℕ) (x : Value) (s : Runtime) (e : Exit) → Does {X = Target} itself any (field_of symbol x) s s (Err e)
    → Does {X = Stored} shown IsValueOf (field_value symbol x) s s (Err e)
no_field_held symbol x s e h = then_err itself any shown IsValueOf (field_of symbol x) holds s s e h

-- as a name

abbrev named_so : Value → Option ℕ → Action Value
named_so x o = as_value (either wrong_type (λ symbol. field_of symbol x) o)

name_seen : (function : List ℕ) (x : Value) (s : Runtime) (o : Option SymId) → option_map (λ (id : SymId). id.0) o ≡ symbol_found function s.store.symbols
    → (more : List ℕ) → field_as_name function x (world s more) ≡ named_so x (option_map (λ (id : SymId). id.0) o) (world s more)
name_seen function x s o is more = ap (λ (o : Option ℕ). named_so x o (world s more)) (sym is)

pub no_symbol : (function : List ℕ) (x : Value) (s : Runtime) (o : Option SymId) → ((id : SymId) → o ≡ Some id → ⊥) → option_map (λ (id : SymId). id.0) o
    ≡ symbol_found function s.store.symbols → Does {X = Stored} shown IsValueOf (field_as_name function x) s s (Err (Halt (HasError 1)))
no_symbol function x s None none is = as_in {X = Stored} shown IsValueOf (field_as_name function x) (named_so x None) s s (Err (Halt (HasError 1)))
    (name_seen function x s None is) (name_refused wrong_type s s (Halt (HasError 1)) (stops_does itself any s 1))
no_symbol function x s (Some id) none is = absurd (none id refl)

pub field_named : (function : List ℕ) (x : Value) (s : Runtime) (o : Option SymId) (symbol : SymId) (name : Target) → o ≡ Some symbol
    → option_map (λ (id : SymId). id.0) o ≡ symbol_found function s.store.symbols
    → Does itself any (field_of symbol.0 x) s s (Ok name) → Does shown IsValueOf (field_as_name function x) s s (Ok (stored.Name name))
field_named function x s o symbol name some is h =
    as_in shown IsValueOf (field_as_name function x) (named_so x (Some symbol.0)) s s (Ok (stored.Name name))
    (name_seen function x s (Some symbol) (ap (λ (o : Option SymId). option_map (λ (id : SymId). id.0) o) (sym some) ∙ is))
    (name_given (field_of symbol.0 x) s s name h)

pub field_not_named : (function : List ℕ) (x : Value) (s : Runtime) (o : Option SymId) (symbol : SymId) (e : Exit) → o ≡ Some symbol
    → option_map (λ (id : SymId). id.0) o ≡ symbol_found function s.store.symbols
    → Does {X = Target} itself any (field_of symbol.0 x) s s (Err e) → Does {X = Stored} shown IsValueOf (field_as_name function x) s s (Err e)
field_not_named function x s o symbol e some is h =
    as_in {X = Stored} shown IsValueOf (field_as_name function x) (named_so x (Some symbol.0)) s s (Err e)
    (name_seen function x s (Some symbol) (ap (λ (o : Option SymId). option_map (λ (id : SymId). id.0) o) (sym some) ∙ is))
    (name_refused (field_of symbol.0 x) s s e h)

-- whether a function is a field

asked_by : (function : List ℕ) (s : Runtime) (is : Bool) → is ≡ is_field_named (symbol_found function s.store.symbols) s.store.functions → (more : List ℕ)
    → asks_field function (world s more) ≡ (if is then gives (Str []) (world s more) else stops (Error 15) (world s more))
asked_by function s is same more = ap (λ b. if b then gives (Str []) (world s more) else stops (Error 15) (world s more)) (sym same)

pub is_asked : (function : List ℕ) (s : Runtime) (is : Bool) → is ≡ true → is ≡ is_field_named (symbol_found function s.store.symbols) s.store.functions
    → Does shown IsValueOf (asks_field function) s s (Ok (stored.Str []))
is_asked function s is yes_field same =
    as_in shown IsValueOf (asks_field function) (gives (Str [])) s s (Ok (stored.Str [])) (asked_by function s true (sym yes_field ∙ same))
    (gives_does shown IsValueOf s (stored.Str []) (Str []) refl (omega arith))

pub is_none_asked : (function : List ℕ) (s : Runtime) (is : Bool) → is ≡ false → is ≡ is_field_named (symbol_found function s.store.symbols) s.store.functions
    → Does {X = Stored} shown IsValueOf (asks_field function) s s (Err (Halt (HasError 15)))
is_none_asked function s is no_field same = as_in {X = Stored} shown IsValueOf (asks_field function) (stops (Error 15)) s s (Err (Halt (HasError 15)))
    (asked_by function s false (sym no_field ∙ same)) (stops_does shown IsValueOf s 15)

-- what the program has made of a function's name
pub made_by_parts : (f : Function) → is_made f ≡ (is_some (as_definition f) || (is_some (as_constructor f) || is_field f))
made_by_parts Undefined = refl
made_by_parts (Defined d) = refl
made_by_parts (Constructs number) = refl
made_by_parts IsField = refl
