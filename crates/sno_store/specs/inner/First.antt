-- Words of private clauses: the first patterns by stages.
use Rattle.std.specs.Prelude.{List, [], ◌∷◌}
use Rattle.sno_pattern.specs.Pattern.{Arb, Bal, Rem, Fail}
use Rattle.sno_pattern.specs.Table.{Node, LeafNode}

-- the first four of them, which search for an end
abbrev pub search_patterns : List Node
search_patterns = LeafNode Arb ∷ LeafNode Bal ∷ LeafNode Rem ∷ LeafNode Fail ∷ []
