-- Calls of functions that a program defines, over any type V
-- of values: what a call saves and sets, and what comes back.
use Rattle.std.specs.Prelude.{ℕ, List, [], ◌∷◌, ◌++◌, map, slice_index_or, slice_set}
use Rattle.sno_store.specs.Definitions.{Definition}

-- the variables whose values a call saves, in this order
abbrev pub saved_symbols : ℕ → Definition → List ℕ
saved_symbols function d = function ∷ (d.formals ++ d.locals)

module _ {V : Type 0} where
  -- what a call saves: the symbols, each with the value of its variable
  abbrev pub saved : V → ℕ → Definition → List V → List (ℕ × V)
  saved null function d values = map (λ symbol. (symbol, slice_index_or values symbol null)) (saved_symbols function d)

  -- variables are set to null
  abbrev pub with_nulls : V → List ℕ → List V → List V
  with_nulls null [] values = values
  with_nulls null (symbol ∷ symbols) values = with_nulls null symbols (slice_set values symbol null)

  -- formals are set to arguments, from left to right; missing arguments are null, and extra ones are dropped
  abbrev pub with_arguments : V → List ℕ → List V → List V → List V
  with_arguments null [] arguments values = values
  with_arguments null (formal ∷ formals) [] values = with_arguments null formals [] (slice_set values formal null)
  with_arguments null (formal ∷ formals) (argument ∷ arguments) values =
      with_arguments null formals arguments (slice_set values formal argument)

  -- the values where a call begins: the function and its locals are null, and its formals are the arguments
  abbrev pub entered : V → ℕ → Definition → List V → List V → List V
  entered null function d arguments values =
      with_arguments null d.formals arguments (with_nulls null (function ∷ d.locals) values)

  -- the saved values come back, the last one first
  abbrev pub restored : List (ℕ × V) → List V → List V
  restored [] values = values
  restored (s ∷ ss) values = slice_set (restored ss values) s.0 s.1

  -- the value of a call's function: that of the variable that was saved first
  abbrev pub function_value : V → List (ℕ × V) → List V → V
  function_value null [] values = null
  function_value null (s ∷ ss) values = slice_index_or values s.0 null
