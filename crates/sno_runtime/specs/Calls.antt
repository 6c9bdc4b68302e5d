-- Functions that a program defines, and their calls.
use Rattle.std.specs.Prelude.{◌≡◌, ℕ, ◌+◌, ◌-◌, ◌<◌, List, [], ◌∷◌, ◌++◌, length, replicate, Result}
use Rattle.std.specs.Prelude.{Ok, Err}
use Rattle.std.specs.List.{AllByRecursion}
use Rattle.sno_value.specs.declared.value.Value.TheVariants as stored
use Rattle.sno_store.specs.Calls.{saved, entered, restored}
use Rattle.sno_store.specs.declared.functions.Function.{Function}
use Rattle.sno_store.specs.Definitions.{Definition}
use Rattle.sno_store.specs.Functions.{with_definition}
use Rattle.sno_runtime.specs.World.{World}
use Rattle.sno_runtime.specs.Values.{Value, Str, IsValueOf}
use Rattle.sno_runtime.specs.Action.{Error, Got, Action, gives, stops, and_then}
use Rattle.sno_runtime.specs.Functions.{with_text}
use Rattle.sno_runtime.specs.Runtime.{Runtime, world}

-- DEFINE: the prototype's names join the symbols, and the function has this definition from then on
abbrev pub after_definition : Result (List (List ℕ) × List Function) ℕ → Action Unit
after_definition (Ok new) w =
    record {
      ending = Got tt;
      world = record w {
        symbols = new.0;
        functions = new.1;
        values = w.values ++ replicate (length new.0 - length w.symbols) (Str []);
      };
      wrote = [];
    }
after_definition (Err code) w = stops (Error code) w

abbrev pub defines : List ℕ → List ℕ → Action Unit
defines prototype entry w = after_definition (with_definition prototype entry w.symbols w.functions) w

-- DEFINE(p,e)
abbrev pub define : Value → Value → Action Value
define p e = with_text p
    (λ prototype. with_text e (λ entry. and_then (defines prototype entry) (λ done. gives (Str []))))

-- a call of function f begins: its variables are set, and one more call is open
abbrev pub entered_world : ℕ → Definition → List Value → World → World
entered_world f d xs w = record w { values = entered (Str []) f d xs w.values; level = w.level + 1 }

-- it ends: the saved values come back, and &STNO is that of the statement with the call
abbrev pub left_world : List (ℕ × Value) → ℕ → World → World
left_world saved statement w =
    record w {
      values = restored saved w.values;
      level = w.level - 1;
      keywords = record w.keywords { statement = statement };
    }

-- a call of function f, which has this definition, has begun
pub record Entered (f : ℕ) (d : Definition) (xs : List Value) (before after : Runtime) : Type 0 where
  pub nodes : after.nodes ≡ before.nodes
  pub reading : after.reading ≡ before.reading
  pub keywords : after.keywords ≡ before.keywords
  pub opened : after.store.calls ≡ before.store.calls ++ saved (stored.Str []) f d before.store.values ∷ []
  pub room : length before.store.calls < 200
  pub known : AllByRecursion (λ saved. IsValueOf before.nodes saved.1) (saved (stored.Str []) f d before.store.values)
  pub meets : (more : List ℕ) → world after more ≡ entered_world f d xs (world before more)
