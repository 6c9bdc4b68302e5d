-- What calls do to values, they do the same to values that are turned into others.
use Rattle.std.proofs.Common.{◌≡◌, ℕ, List, [], ◌∷◌, map, slice_index_or, slice_set, refl, ap, sym, ◌∙◌}
use Rattle.std.proofs.lemmas.List.{map-set}
use Rattle.std.proofs.Math.ListN.{get_or-map}
use Rattle.sno_store.specs.Calls.{saved, saved_symbols, with_nulls, with_arguments, entered, restored, function_value}
use Rattle.sno_store.specs.Definitions.{Definition}

module _ {V W : Type 0} (f : V → W) where
  abbrev pub mapped_saved : List (ℕ × V) → List (ℕ × W)
  mapped_saved ss = map (λ s. (s.0, f s.1)) ss

  nulls_map : (null : V) (symbols : List ℕ) (values : List V) → with_nulls (f null) symbols (map f values) ≡ map f (with_nulls null symbols values)
  nulls_map null [] values = refl
  nulls_map null (symbol ∷ symbols) values = ap (with_nulls (f null) symbols) (sym (map-set f values symbol null))
      ∙ nulls_map null symbols (slice_set values symbol null)

  arguments_map : (null : V) (formals : List ℕ) (arguments values : List V) → with_arguments (f null) formals (map f arguments) (map f values)
      ≡ map f (with_arguments null formals arguments values)
  arguments_map null [] arguments values = refl
  arguments_map null (formal ∷ formals) [] values = ap (with_arguments (f null) formals []) (sym (map-set f values formal null))
      ∙ arguments_map null formals [] (slice_set values formal null)
  arguments_map null (formal ∷ formals) (argument ∷ arguments) values =
      ap (with_arguments (f null) formals (map f arguments)) (sym (map-set f values formal argument)) ∙ arguments_map null formals arguments
      (slice_set values formal argument)

  -- the values where a call begins
  pub entered_map : (null : V) (function : ℕ) (d : Definition) (arguments values : List V) → entered (f null) function d (map f arguments) (map f values)
      ≡ map f (entered null function d arguments values)
  entered_map null function d arguments values =
      ap (with_arguments (f null) d.formals (map f arguments)) (nulls_map null (function ∷ d.locals) values) ∙ arguments_map null d.formals arguments
      (with_nulls null (function ∷ d.locals) values)

  -- the values where it has ended
  pub restored_map : (ss : List (ℕ × V)) (values : List V) → restored (mapped_saved ss) (map f values) ≡ map f (restored ss values)
  restored_map [] values = refl
  restored_map (s ∷ ss) values = ap (λ vs. slice_set vs s.0 (f s.1)) (restored_map ss values) ∙ sym (map-set f (restored ss values) s.0 s.1)

  -- the value of its function
  pub function_value_map : (null : V) (ss : List (ℕ × V)) (values : List V) → function_value (f null) (mapped_saved ss) (map f values)
      ≡ f (function_value null ss values)
  function_value_map null [] values = refl
  function_value_map null (s ∷ ss) values = get_or-map f values s.0 null

  saved_each : (null : V) (symbols : List ℕ) (values : List V)
      → mapped_saved (map (λ symbol. (symbol, slice_index_or values symbol null)) symbols)
      ≡ map (λ symbol. (symbol, slice_index_or (map f values) symbol (f null))) symbols
  saved_each null [] values = refl
  saved_each null (symbol ∷ symbols) values = λ i. (symbol, sym (get_or-map f values symbol null) i) ∷ saved_each null symbols values i

  -- what it saves
  pub saved_map : (null : V) (function : ℕ) (d : Definition) (values : List V) → mapped_saved (saved null function d values)
      ≡ saved (f null) function d (map f values)
  saved_map null function d values = saved_each null (saved_symbols function d) values
