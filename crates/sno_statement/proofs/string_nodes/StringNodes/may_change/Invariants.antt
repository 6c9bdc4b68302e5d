use Rattle.std.proofs.Common.{drop}
use Rattle.std.specs.List.{AllByRecursion}
use Rattle.sno_statement.proofs.StringNodeLaws.{IsLeftAlone}
use Rattle.sno_statement.proofs.string_nodes.StringNodes.may_change.Given as goal

-- where the names that are left are left alone, all are
abbrev pub invariant-nodes : goal.invariant-nodes
invariant-nodes l = AllByRecursion (IsLeftAlone l.target) (drop l.kept-index l.self.nodes.items)
    → AllByRecursion (IsLeftAlone l.target) l.self.nodes.items
