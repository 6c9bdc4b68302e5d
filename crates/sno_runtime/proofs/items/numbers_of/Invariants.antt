use Rattle.std.proofs.Common.{◌≡◌, List, map, take, Some}
use Rattle.sno_pattern.specs.Table.{Node}
use Rattle.sno_runtime.specs.Values.{shown}
use Rattle.sno_runtime.specs.Containers.{numbers_of}
use Rattle.sno_runtime.proofs.items.numbers_of.Given as goal

-- the numbers of the subscripts so far
abbrev pub invariant-loop-subscript : goal.invariant-loop-subscript
invariant-loop-subscript l = (nodes : List Node) → numbers_of (map (shown nodes) (take l.subscript-index l.subscripts)) ≡ Some l.numbers.items
