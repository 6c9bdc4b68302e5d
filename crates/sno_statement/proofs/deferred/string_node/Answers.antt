use Rattle.std.proofs.Common.{◌≡◌, ◌∙◌, refl, subst, Ok}
use Rattle.sno_pattern.specs.Pattern.{Leaf, Text}
use Rattle.sno_runtime.specs.Operators.{makes}
use Rattle.sno_runtime.specs.Runtime.{Runtime, tree_of, IsPatternOf}
use Rattle.sno_runtime.specs.inner.Runtime.{Does}
use Rattle.sno_statement.proofs.StringNodeLaws.{counted_node, held_node, leaves_made, new_node, stay_done}
use Rattle.sno_statement.proofs.deferred.string_node.Goals as goal
use Rattle.sno_statement.proofs.deferred.string_node.Goals.{in_default-via-in-None-1, in_default-via-in-Some+else-count_nodes}

pub returns-clause-does : goal.returns-clause-does
returns-clause-does c =
    let s = c.args.runtime.now in
    let is = c.in-Some.ensures s c.requires.nodes in
    counted_node s _ _ c.in-Some.id (held_node s c.args.name c.args.text.now c.in-Some.id c.requires.held is) (c.if-count_nodes.ensures.room refl)
    (c.if-count_nodes.ensures.counted refl)

pub returns-clause-nodes : goal.returns-clause-nodes
returns-clause-nodes c =
    stay_done tree_of IsPatternOf _ c.args.runtime.now _ c.in-Some.id c.args.nodes.now (leaves_made (Leaf (Text c.args.text.now)))
    (returns-clause-does c) c.requires.nodes

pub returns-2-clause-nodes : goal.returns-2-clause-nodes
returns-2-clause-nodes c =
    let s = c.args.runtime.now in
    let made = makes (Leaf (Text c.args.text.now)) in
    let same : c.in_default.runtime ≡ s = elim c.in_default.branch [
      | in_default-via-in-None-1 w ↦ w.runtime-is
      | in_default-via-in-Some+else-count_nodes w ↦ w.runtime-is ∙ w.if-count_nodes.ensures.refused refl
    ] in
    let did : Does tree_of IsPatternOf made s c.text_of.new.self (Ok c.in_ok-id.id) =
    subst (λ (a : Runtime). Does tree_of IsPatternOf made a c.text_of.new.self (Ok c.in_ok-id.id)) same c.in_ok-id.ensures in
    c.keep.ensures c.text_of.new.self
    (stay_done tree_of IsPatternOf made s c.text_of.new.self c.in_ok-id.id c.args.nodes.now (leaves_made (Leaf (Text c.args.text.now))) did c.requires.nodes)
    (new_node s c.text_of.new.self c.args.name c.args.text.now c.in_ok-id.id c.requires.held did)
