-- A node that a builder would make stands for the pattern.
use Rattle.std.proofs.Common.{◌≡◌, ◌<◌, List, [], length, get_or, sym, ◌∙◌, ap, arith}
use Rattle.sno_value.specs.declared.ids.PatId.{PatId}
use Rattle.sno_pattern.specs.Pattern.{Primitive, Leaf}
use Rattle.sno_pattern.specs.Table.{Node, LeafNode, StandsFor, tree, tree_over, trees_onto}
use Rattle.sno_pattern.specs.inner.Kinds.{node_of, nodes_of, IsTable}
use Rattle.sno_pattern.specs.declared.kind.Entry.{Entry}
use Rattle.sno_pattern.proofs.TableLaws.{tree-at, length-nodes}
use Rattle.sno_pattern.proofs.ShapeLaws.{node-at}

pub stands_for : (entries : List Entry) (nodes : List Node) (id : PatId) (entry : Entry) (primitive : Primitive) → nodes_of entries ≡ nodes
    → IsTable entries → id.0 < length nodes → get_or entries id.0 entry ≡ entry → node_of entry.kind ≡ LeafNode primitive
    → StandsFor nodes id (Leaf primitive)
stands_for entries nodes id entry primitive is t h at same =
    let inside : id.0 < length entries = omega (arith, length-nodes entries, ap length is, h) in
    let tree_is : tree (nodes_of entries) id.0 ≡ Leaf primitive =
    tree-at (nodes_of entries) id.0 (node_of entry.kind) t.parts (node-at entries id.0 entry inside at) ∙ ap (tree_over (trees_onto [] (nodes_of entries))) same
    in
    (h, ap (λ (n : List Node). tree n id.0) (sym is) ∙ tree_is)
