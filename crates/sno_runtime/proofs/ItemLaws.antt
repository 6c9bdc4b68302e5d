-- Items of arrays and tables, as the code finds them.
use Rattle.std.proofs.Common.{Vec, Global, ◌≡◌, ℕ, zero, suc, ◌+◌, ◌<◌, arith, ℤ, List, [], ◌∷◌, ◌++◌, take, length, get_or, map, refl, ap, ◌∙◌, Option, None}
use Rattle.std.proofs.Common.{IfSome, Some, Result, Ok, Err, subst}
use Rattle.std.specs.Option.{option_map}
use Rattle.sno_value.specs.declared.ids.ObjId.{ObjId}
use Rattle.sno_value.specs.declared.value.Name.{Name as Target}
use Rattle.sno_value.specs.declared.value.Value.{Value as Stored}
use Rattle.sno_value.specs.declared.value.Value.TheVariants as stored
use Rattle.sno_pattern.specs.Table.{Node}
use Rattle.sno_store.specs.Arrays.{element_name}
use Rattle.sno_store.specs.Store.{Store}
use Rattle.sno_store.specs.Tables.{find_entry}
use Rattle.sno_store.specs.Stored.{stored_notions}
use Rattle.sno_store.specs.Outcomes.{IsAnswered, itself as as_told}
use Rattle.sno_store.specs.declared.error.StoreError.{StoreError}
use Rattle.sno_runtime.specs.declared.stops.Exit.{Exit}
use Rattle.sno_runtime.specs.declared.stops.Exit.TheVariants.{Failure, Halt}
use Rattle.sno_runtime.specs.declared.stops.Stop.TheVariants.{Error as HasError, ErrorIn as HasErrorIn, NoMemory, ReadFault, WriteFault, Ended as HasEnded}
use Rattle.sno_runtime.specs.Action.{Action, gives, fails, either}
use Rattle.sno_runtime.specs.Values.{Value, Str, Array, shown, IsValueOf}
use Rattle.sno_runtime.specs.Variables.{wrong_type, holds}
use Rattle.sno_runtime.specs.Numbers.{number_of}
use Rattle.sno_runtime.specs.Containers.{notions, asks, before, numbers_of, element_numbered, entry_read, item, item_named}
use Rattle.sno_runtime.specs.inner.Converted.{IsThere}
use Rattle.sno_runtime.specs.Runtime.{Runtime, itself}
use Rattle.sno_runtime.specs.inner.Runtime.{Does, any, exit_of_store}
use Rattle.sno_runtime.proofs.Outcomes.{gives_does, fails_does, then_got, then_err}
use Rattle.sno_runtime.proofs.ObjectLaws.{asked_does, asked_err, shown_agrees}
use Rattle.sno_runtime.proofs.ObjectOperations.{element_name_map, find_entry_map}

-- the numbers of subscripts

before_none : (o : Option ℤ) → before o None ≡ None
before_none None = refl
before_none (Some n) = refl

-- the numbers with one more behind them, if there are any
with_last : ℤ → Option (List ℤ) → Option (List ℤ)
with_last n ns = option_map (λ numbers. numbers ++ n ∷ []) ns

before_last : (o : Option ℤ) (ns : Option (List ℤ)) (n : ℤ) → before o (with_last n ns) ≡ with_last n (before o ns)
unfolding with_last
before_last None ns n = refl
before_last (Some m) None n = refl
before_last (Some m) (Some ms) n = refl

numbers_last : (nodes : List Node) (xs : List Stored) (k : ℕ) (x : Stored) (n : ℤ) → k < length xs → x ≡ get_or xs k x → number_of (shown nodes x) ≡ Some n
    → numbers_of (map (shown nodes) (take (suc k) xs)) ≡ with_last n (numbers_of (map (shown nodes) (take k xs)))
unfolding with_last
numbers_last nodes [] k x n h is has = absurd (omega arith)
numbers_last nodes (y ∷ xs) zero x n h is has = rw (← is, has) refl
numbers_last nodes (y ∷ xs) (suc k) x n h is has =
    ap (before (number_of (shown nodes y))) (numbers_last nodes xs k x n (omega arith) is has) ∙ before_last (number_of (shown nodes y))
    (numbers_of (map (shown nodes) (take k xs))) n

-- one more subscript, with its number
pub numbers_next : (nodes : List Node) (xs : List Stored) (k : ℕ) (x : Stored) (ns : List ℤ) (n : ℤ) → k < length xs → x ≡ get_or xs k x
    → number_of (shown nodes x) ≡ Some n
    → numbers_of (map (shown nodes) (take k xs)) ≡ Some ns → numbers_of (map (shown nodes) (take (k + 1) xs)) ≡ Some (ns ++ n ∷ [])
unfolding with_last
numbers_next nodes xs k x ns n h is has so_far =
    let next : k + 1 ≡ suc k = omega arith in
    rw next (numbers_last nodes xs k x n h is has ∙ ap (with_last n) so_far)

-- one that has no number
numbers_end : (nodes : List Node) (xs : List Stored) (k : ℕ) (x : Stored) → k < length xs → x ≡ get_or xs k x → number_of (shown nodes x) ≡ None
    → numbers_of (map (shown nodes) xs) ≡ None
numbers_end nodes [] k x h is none = absurd (omega arith)
numbers_end nodes (y ∷ xs) zero x h is none = rw (← is, none) refl
numbers_end nodes (y ∷ xs) (suc k) x h is none = rw (numbers_end nodes xs k x (omega arith) is none) (before_none (number_of (shown nodes y)))

pub numbers_refused : (nodes : List Node) (xs : List Stored) (k : ℕ) (x : Stored) (e : Exit) → k < length xs → x ≡ get_or xs k x
    → IsThere {X = ℤ} (λ n. n) (number_of (shown nodes x)) (Err e)
    → IsThere {X = Vec ℤ Global} (λ ns. ns.items) (numbers_of (map (shown nodes) xs)) (Err e)
numbers_refused nodes xs k x Failure h is there = there
numbers_refused nodes xs k x (Halt (HasError code)) h is there = (numbers_end nodes xs k x h is there.0, there.1)
numbers_refused nodes xs k x (Halt NoMemory) h is there = there
numbers_refused nodes xs k x (Halt ReadFault) h is there = there
numbers_refused nodes xs k x (Halt WriteFault) h is there = there
numbers_refused nodes xs k x (Halt (HasErrorIn code statement)) h is there = there
numbers_refused nodes xs k x (Halt HasEnded) h is there = there

pub unnumbered : (id : ObjId) (o : Option (List ℤ)) → o ≡ None → element_numbered id o ≡ wrong_type
unnumbered id o h = rw h refl

-- what the store tells is what an action asks

module _ (id : ObjId) (s : Runtime) (store : Store) (same : store ≡ s.store) where
  pub element_told : (numbers : List ℤ) (found : Option Target) → IsAnswered as_told (element_name store.objects id numbers) (Ok found)
      → Does itself any (asks (λ objects. element_name objects id numbers)) s s (Ok found)
  element_told numbers found h = asked_does s _ _ found (element_name_map (shown s.nodes) _ id numbers) (rw same at h)

  pub element_untold : (numbers : List ℤ) (e : StoreError) → IsAnswered as_told (element_name store.objects id numbers) (Err e)
      → Does {X = Option Target} itself any (asks (λ objects. element_name objects id numbers)) s s (Err (exit_of_store e))
  element_untold numbers e h = asked_err as_told s _ _ itself any e (element_name_map (shown s.nodes) _ id numbers)
      (subst (λ (it : Store). IsAnswered as_told (element_name it.objects id numbers) (Err e)) same h)

  pub entry_told : (key : Stored) (found : Option Target) → IsAnswered as_told (find_entry stored_notions store.objects id key) (Ok found)
      → Does itself any (asks (λ objects. find_entry notions objects id (shown s.nodes key))) s s (Ok found)
  entry_told key found h = asked_does s _ _ found (find_entry_map (shown s.nodes) stored_notions notions (shown_agrees s.nodes) _ id key) (rw same at h)

  pub entry_untold : (key : Stored) (e : StoreError) → IsAnswered as_told (find_entry stored_notions store.objects id key) (Err e)
      → Does {X = Option Target} itself any (asks (λ objects. find_entry notions objects id (shown s.nodes key))) s s (Err (exit_of_store e))
  entry_untold key e h =
      asked_err as_told s _ _ itself any e (find_entry_map (shown s.nodes) stored_notions notions (shown_agrees s.nodes) _ id key)
      (subst (λ (it : Store). IsAnswered as_told (find_entry stored_notions it.objects id key) (Err e)) same h)

-- the element that numbers name

abbrev named : ObjId → List ℤ → Action (Option Target)
named id numbers = asks (λ objects. element_name objects id numbers)

pub element_refused : (id : ObjId) (numbers : List ℤ) (s : Runtime) (e : Exit) → Does {X = Option Target} itself any (named id numbers) s s (Err e)
    → Does {X = Target} itself any (element_numbered id (Some numbers)) s s (Err e)
element_refused id numbers s e h = then_err itself any itself any (named id numbers) (either fails gives) s s e h

pub element_there : (id : ObjId) (numbers : List ℤ) (s : Runtime) (name : Target) → Does itself any (named id numbers) s s (Ok (Some name))
    → Does itself any (element_numbered id (Some numbers)) s s (Ok name)
element_there id numbers s name h = then_got itself any itself any (named id numbers) (either fails gives) s s s (Some name) (Ok name) h
    (gives_does itself any s name name refl tt)

pub elements_there : (id : ObjId) (numbers : List ℤ) (s : Runtime) (found : Option Target) → Does itself any (named id numbers) s s (Ok found)
    → IfSome found (λ name. Does itself any (element_numbered id (Some numbers)) s s (Ok name))
elements_there id numbers s (Some name) h = element_there id numbers s name h
elements_there id numbers s None h = tt

pub out_of_range : (id : ObjId) (numbers : List ℤ) (s : Runtime) → Does itself any (named id numbers) s s (Ok None)
    → Does {X = Target} itself any (element_numbered id (Some numbers)) s s (Err Failure)
out_of_range id numbers s h = then_got itself any itself any (named id numbers) (either fails gives) s s s None (Err Failure) h (fails_does itself any s)

-- what a table holds

abbrev entry_of : ObjId → Value → Action (Option Target)
entry_of id key = asks (λ objects. find_entry notions objects id key)

pub entry_refused : (id : ObjId) (key : Value) (s : Runtime) (e : Exit) → Does {X = Option Target} itself any (entry_of id key) s s (Err e)
    → Does {X = Stored} shown IsValueOf (entry_read id key) s s (Err e)
entry_refused id key s e h = then_err itself any shown IsValueOf (entry_of id key) (either (gives (Str [])) holds) s s e h

pub entry_there : (id : ObjId) (key : Value) (s : Runtime) (name : Target) (r : Result Stored Exit) → Does itself any (entry_of id key) s s (Ok (Some name))
    → Does shown IsValueOf (holds name) s s r
    → Does shown IsValueOf (entry_read id key) s s r
entry_there id key s name r h held = then_got itself any shown IsValueOf (entry_of id key) (either (gives (Str [])) holds) s s s (Some name) r h held

pub no_entry : (id : ObjId) (key : Value) (s : Runtime) → Does itself any (entry_of id key) s s (Ok None)
    → Does shown IsValueOf (entry_read id key) s s (Ok (stored.Str []))
no_entry id key s h =
    then_got itself any shown IsValueOf (entry_of id key) (either (gives (Str [])) holds) s s s None (Ok (stored.Str [])) h
    (gives_does shown IsValueOf s (stored.Str []) (Str []) refl (omega arith))

-- the item of an array

pub item_refused : (id : ObjId) (subscripts : List Value) (s : Runtime) (e : Exit)
    → Does {X = Target} itself any (element_numbered id (numbers_of subscripts)) s
    s (Err e) → Does {X = Stored} shown IsValueOf (item (Array id.0) subscripts) s s (Err e)
item_refused id subscripts s e h = then_err itself any shown IsValueOf (element_numbered id (numbers_of subscripts)) holds s s e h

pub item_there : (id : ObjId) (subscripts : List Value) (s : Runtime) (name : Target) (r : Result Stored Exit)
    → Does itself any (element_numbered id (numbers_of subscripts)) s s (Ok name) → Does shown IsValueOf (holds name) s s r
    → Does shown IsValueOf (item (Array id.0) subscripts) s s r
item_there id subscripts s name r h held = then_got itself any shown IsValueOf (element_numbered id (numbers_of subscripts)) holds s s s name r h held

-- what is neither an array nor a table has no items

pub no_item : (nodes : List Node) (x : Stored) (subscripts : List Value) → ((id : ObjId) → x ≡ stored.Array id → ⊥) → ((id : ObjId) → x ≡ stored.Table id → ⊥)
    → item (shown nodes x) subscripts ≡ wrong_type
no_item nodes (stored.Str bytes) subscripts a t = refl
no_item nodes (stored.Int number) subscripts a t = refl
no_item nodes (stored.Pat id) subscripts a t = refl
no_item nodes (stored.Expr id) subscripts a t = refl
no_item nodes (stored.Name target) subscripts a t = refl
no_item nodes (stored.Array id) subscripts a t = absurd (a id refl)
no_item nodes (stored.Table id) subscripts a t = absurd (t id refl)
no_item nodes (stored.Data id) subscripts a t = refl

pub no_item_name : (nodes : List Node) (x : Stored) (subscripts : List Value) → ((id : ObjId) → x ≡ stored.Array id → ⊥)
    → ((id : ObjId) → x ≡ stored.Table id → ⊥) → item_named (shown nodes x) subscripts ≡ wrong_type
no_item_name nodes (stored.Str bytes) subscripts a t = refl
no_item_name nodes (stored.Int number) subscripts a t = refl
no_item_name nodes (stored.Pat id) subscripts a t = refl
no_item_name nodes (stored.Expr id) subscripts a t = refl
no_item_name nodes (stored.Name target) subscripts a t = refl
no_item_name nodes (stored.Array id) subscripts a t = absurd (a id refl)
no_item_name nodes (stored.Table id) subscripts a t = absurd (t id refl)
no_item_name nodes (stored.Data id) subscripts a t = refl
