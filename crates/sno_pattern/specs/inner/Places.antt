-- Words of private clauses: places where a node has an end.
use Rattle.std.specs.Prelude.{ℕ, Bool, List, slice_get}
use Rattle.std.specs.Option.{is_some}
use Rattle.sno_pattern.specs.Pattern.{Primitive}
use Rattle.sno_pattern.specs.Ends.{ends, end_after}
use Rattle.sno_pattern.specs.inner.Shape.{end_of_node}
use Rattle.sno_pattern.specs.Table.{Node}

abbrev pub node_has_end : Node → List ℕ → ℕ → Bool
node_has_end node s c = is_some (end_of_node node s c 0)

abbrev pub leaf_has_end : Primitive → List ℕ → ℕ → Bool
leaf_has_end a s c = is_some (slice_get (ends a s c) 0)

-- whether there is a byte at a place that passes
abbrev pub byte_passes : (ℕ → Bool) → List ℕ → ℕ → Bool
byte_passes p s c = is_some (slice_get (end_after p (slice_get s c) c) 0)
