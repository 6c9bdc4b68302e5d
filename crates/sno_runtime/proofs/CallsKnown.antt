-- What calls save and set stays known: it is of the table of nodes.
use Rattle.std.proofs.Common.{◌≡◌, ℕ, ◌<◌, List, [], ◌∷◌, ◌++◌, length, map, slice_index_or, slice_set, refl, ap, sym, subst, arith}
use Rattle.std.specs.List.{AllByRecursion}
use Rattle.sno_value.specs.declared.value.Value.{Value as Stored}
use Rattle.sno_value.specs.declared.value.Value.TheVariants as stored
use Rattle.sno_pattern.specs.Table.{Node}
use Rattle.sno_store.specs.Calls.{saved, saved_symbols, with_nulls, with_arguments, entered, restored, function_value}
use Rattle.sno_store.specs.Store.{Store}
use Rattle.sno_store.specs.Definitions.{Definition}
use Rattle.sno_runtime.specs.Values.{IsValueOf}
use Rattle.sno_runtime.specs.Runtime.{IsKnown}
use Rattle.sno_runtime.proofs.Members.{all_at, all_set, all_end, all_front}

-- a list that isn't empty has a last member
pub last_of : {X : Type 0} (xs : List X) → 0 < length xs → (front : List X) × (last : X) × (xs ≡ front ++ last ∷ [])
last_of [] h = absurd (omega arith)
last_of (x ∷ []) h = ([], x, refl)
last_of (x ∷ y ∷ xs) h = let l = last_of (y ∷ xs) (omega arith) in (x ∷ l.0, l.1, ap (λ zs. x ∷ zs) l.2)

module _ (nodes : List Node) where
  abbrev AllValues : List Stored → Type 0
  AllValues values = AllByRecursion (IsValueOf nodes) values

  abbrev AllSaved : List (ℕ × Stored) → Type 0
  AllSaved call = AllByRecursion (λ saved. IsValueOf nodes saved.1) call

  nulls_known : (symbols : List ℕ) (values : List Stored) → AllValues values → AllValues (with_nulls (stored.Str []) symbols values)
  nulls_known [] values h = h
  nulls_known (symbol ∷ symbols) values h =
      nulls_known symbols (slice_set values symbol (stored.Str [])) (all_set (IsValueOf nodes) values symbol (stored.Str []) h (omega arith))

  arguments_known : (formals : List ℕ) (arguments values : List Stored) → AllValues arguments → AllValues values
      → AllValues (with_arguments (stored.Str []) formals arguments values)
  arguments_known [] arguments values a h = h
  arguments_known (formal ∷ formals) [] values a h =
      arguments_known formals [] (slice_set values formal (stored.Str [])) a (all_set (IsValueOf nodes) values formal (stored.Str []) h (omega arith))
  arguments_known (formal ∷ formals) (argument ∷ arguments) values a h =
      arguments_known formals arguments (slice_set values formal argument) a.1 (all_set (IsValueOf nodes) values formal argument h a.0)

  pub saved_known : (symbols : List ℕ) (values : List Stored) → AllValues values
      → AllSaved (map (λ symbol. (symbol, slice_index_or values symbol (stored.Str []))) symbols)
  saved_known [] values h = tt
  saved_known (symbol ∷ symbols) values h = (all_at (IsValueOf nodes) values symbol (stored.Str []) h (omega arith), saved_known symbols values h)

  restored_known : (call : List (ℕ × Stored)) (values : List Stored) → AllSaved call → AllValues values → AllValues (restored call values)
  restored_known [] values c h = h
  restored_known (s ∷ call) values c h = all_set (IsValueOf nodes) (restored call values) s.0 s.1 (restored_known call values c.1 h) c.0

  pub function_known : (call : List (ℕ × Stored)) (values : List Stored) → AllValues values → IsValueOf nodes (function_value (stored.Str []) call values)
  function_known [] values h = omega arith
  function_known (s ∷ call) values h = all_at (IsValueOf nodes) values s.0 (stored.Str []) h (omega arith)

  -- the store where a call has begun, and where it has ended

  abbrev pub with_call : ℕ → Definition → List Stored → Store → Store
  with_call function d arguments c =
      record c { values = entered (stored.Str []) function d arguments c.values; calls = c.calls ++ saved (stored.Str []) function d c.values ∷ [] }

  pub entered_known : (function : ℕ) (d : Definition) (arguments : List Stored) (old new : Store) → AllValues arguments → IsKnown nodes old
      → new ≡ with_call function d arguments old → IsKnown nodes new
  entered_known function d arguments old new a k is = subst (IsKnown nodes) (sym is) (record {
    symbols = k.symbols;
    numbered = k.numbered;
    values = arguments_known d.formals arguments (with_nulls (stored.Str []) (function ∷ d.locals) old.values) a
        (nulls_known (function ∷ d.locals) old.values k.values);
    objects = k.objects;
    types = k.types;
    calls = all_end AllSaved old.calls (saved (stored.Str []) function d old.values) k.calls (saved_known (saved_symbols function d) old.values k.values);
  })

  abbrev pub without_call : List (List (ℕ × Stored)) → List (ℕ × Stored) → Store → Store
  without_call calls call c = record c { values = restored call c.values; calls = calls }

  pub left_known : (calls : List (List (ℕ × Stored))) (call : List (ℕ × Stored)) (old new : Store) → IsKnown nodes old → old.calls ≡ calls ++ call ∷ []
      → new ≡ without_call calls call old → IsKnown nodes new
  left_known calls call old new k has is =
      let parts = all_front AllSaved calls call (subst (AllByRecursion AllSaved) has k.calls) in
      subst (IsKnown nodes) (sym is) (record {
        symbols = k.symbols;
        numbered = k.numbered;
        values = restored_known call old.values parts.1 k.values;
        objects = k.objects;
        types = k.types;
        calls = parts.0;
      })
