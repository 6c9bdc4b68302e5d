-- Words of private clauses: how the code finds, begins and ends a call.
use Rattle.std.specs.Prelude.{◌≡◌, ℕ, List, [], length, map, Option, None, Result}
use Rattle.std.specs.Prelude.{Ok, Err}
use Rattle.sno_value.specs.declared.value.Name.{Name as Target}
use Rattle.sno_value.specs.declared.value.Name.TheVariants.{Var}
use Rattle.sno_value.specs.declared.value.Value.{Value as Stored}
use Rattle.sno_pattern.specs.Table.{Node}
use Rattle.sno_store.specs.Calls.{function_value}
use Rattle.sno_store.specs.declared.functions.Function.{Function}
use Rattle.sno_store.specs.Definitions.{Definition}
use Rattle.sno_store.specs.Functions.{definition_at}
use Rattle.sno_runtime.specs.declared.stops.Exit.{Exit}
use Rattle.sno_runtime.specs.declared.stops.Exit.TheVariants.{Halt}
use Rattle.sno_runtime.specs.declared.stops.Stop.TheVariants.{Error as HasError, NoMemory}
use Rattle.sno_runtime.specs.World.{World}
use Rattle.sno_runtime.specs.Values.{Value, Str, shown, IsValueOf}
use Rattle.sno_runtime.specs.Runtime.{Runtime, world}
use Rattle.sno_runtime.specs.Calls.{Entered, left_world}

-- the definition of the function with a name
abbrev pub definition_named : List Function → Target → Option Definition
definition_named functions (Var id) = definition_at functions id.0
definition_named functions other = None

abbrev pub definition_of : World → Target → Option Definition
definition_of w name = definition_named w.functions name

-- what a call has saved, where these are the pattern nodes
abbrev pub shown_saved : List Node → List (ℕ × Stored) → List (ℕ × Value)
shown_saved nodes call = map (λ s. (s.0, shown nodes s.1)) call

-- what a call that begins did: beside 200 open calls it is error 10, and nothing changes where it is refused
abbrev pub Enters : ℕ → Definition → List Value → Runtime → Runtime → Result Unit Exit → Type 0
Enters f d xs before after (Ok done) = Entered f d xs before after
Enters f d xs before after (Err (Halt (HasError code))) =
    (code ≡ 10) × (length before.store.calls ≡ 200) × (after ≡ before)
Enters f d xs before after (Err (Halt NoMemory)) = after ≡ before
Enters f d xs before after (Err other) = ⊥

-- the innermost call has ended, with a value, and those around it are left open
pub record Leaves (calls : List (List (ℕ × Stored))) (call : List (ℕ × Stored)) (statement : ℕ) (before after : Runtime)
    (value : Stored) : Type 0 where
  pub nodes : after.nodes ≡ before.nodes
  pub reading : after.reading ≡ before.reading
  pub keywords : after.keywords ≡ record before.keywords { statement = statement }
  pub closed : after.store.calls ≡ calls
  pub known : IsValueOf before.nodes value
  pub meets : (more : List ℕ)
      → world after more ≡ left_world (shown_saved before.nodes call) statement (world before more)
  pub returned : (more : List ℕ) → shown before.nodes value ≡ function_value (Str []) (shown_saved before.nodes call)
      (world before more).values
