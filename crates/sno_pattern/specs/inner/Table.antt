-- Words of private clauses: the parts of the nodes of a table.
use Rattle.std.specs.Prelude.{ℕ, suc, ◌<◌, List, [], ◌∷◌}
use Rattle.sno_pattern.specs.Table.{AltNode, ArbnoNode, CatNode, CondNode, CutNode, ImmNode, Node}

-- each part of a node has a smaller number
abbrev pub PartsBelow : Node → ℕ → Type 0
PartsBelow (CutNode p) n = p < n
PartsBelow (ArbnoNode p) n = p < n
PartsBelow (AltNode p q) n = (p < n) × (q < n)
PartsBelow (CatNode p q) n = (p < n) × (q < n)
PartsBelow (CondNode p target) n = p < n
PartsBelow (ImmNode p target) n = p < n
PartsBelow node n = Unit {0}

-- the nodes from number n on
abbrev pub AllParts : ℕ → List Node → Type 0
AllParts n [] = Unit {0}
AllParts n (node ∷ nodes) = PartsBelow node n × AllParts (suc n) nodes
