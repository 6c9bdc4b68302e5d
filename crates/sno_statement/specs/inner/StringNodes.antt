-- The nodes that a match keeps for long strings. These words are private to the interpreter.
use Rattle.std.specs.Prelude.{◌≡◌, ℕ, ◌==◌, Bool, true, false, List, []}
use Rattle.std.specs.List.{AllByRecursion}
use Rattle.sno_value.specs.declared.value.Name.{Name}
use Rattle.sno_value.specs.declared.value.Name.TheVariants.{Var}
use Rattle.sno_pattern.specs.Pattern.{Leaf, Text}
use Rattle.sno_pattern.specs.Table.{StandsFor}
use Rattle.sno_match.specs.declared.event.Event.{Event}
use Rattle.sno_match.specs.declared.event.Event.TheVariants.{Assign, Cursor}
use Rattle.sno_runtime.specs.Runtime.{Runtime, world}
use Rattle.sno_runtime.specs.Values.{Str}
use Rattle.sno_runtime.specs.Variables.{value_in}
use Rattle.sno_statement.specs.declared.string_nodes.StringNode.{StringNode}
use Rattle.sno_statement.specs.declared.string_nodes.StringNodes.{StringNodes}

-- what is named holds the string for which the node stands
abbrev pub IsStringNode : Runtime → StringNode → Type 0
IsStringNode s kept =
    (text : List ℕ) × (value_in (world s []) kept.name ≡ Str text) × StandsFor s.nodes kept.node (Leaf (Text text))

abbrev pub AreStringNodes : Runtime → StringNodes → Type 0
AreStringNodes s kept = AllByRecursion (IsStringNode s) kept.nodes.items

-- an assignment to the first may change what the second holds
abbrev pub may_change : Name → Name → Bool
may_change (Var target) (Var kept) = target.0 == kept.0
may_change (Var target) other = false
may_change target (Var kept) = false
may_change target other = true

-- so may an event
abbrev pub may_set : Event → Name → Bool
may_set (Assign target start end) name = may_change target name
may_set (Cursor target at) name = may_change target name
may_set event name = false
