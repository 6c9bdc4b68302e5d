-- The patterns with which variables of a new store begin.
use Rattle.std.specs.Prelude.{◌≡◌, List, [], ◌∷◌, length, take}
use Rattle.sno_pattern.specs.Pattern.{Arb, Bal, Rem, Fail}
use Rattle.sno_pattern.specs.Table.{Node, LeafNode, FenceNode, AbortNode, SucceedNode}

-- by the numbers that their variables hold
abbrev pub first_patterns : List Node
first_patterns = LeafNode Arb ∷ LeafNode Bal ∷ LeafNode Rem ∷ LeafNode Fail ∷ FenceNode ∷ AbortNode ∷ SucceedNode ∷ []

-- a table that holds the first of these patterns, all or some or none, and nothing else
abbrev pub IsBeginning : List Node → Type 0
IsBeginning nodes = nodes ≡ take (length nodes) first_patterns
