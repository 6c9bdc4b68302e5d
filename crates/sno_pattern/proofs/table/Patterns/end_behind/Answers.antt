use Rattle.std.proofs.Common.{◌≡◌, ℕ, ◌+◌, ◌<◌, length, sym, ◌∙◌, ap, arith}
use Rattle.sno_pattern.specs.Table.{tree}
use Rattle.sno_pattern.specs.Shape.{end_of}
use Rattle.sno_pattern.specs.inner.Shape.{end_of_node}
use Rattle.sno_pattern.specs.inner.Kinds.{node_of}
use Rattle.sno_pattern.proofs.TableLaws.{length-nodes}
use Rattle.sno_pattern.proofs.ShapeLaws.{end_of-kind, end_of-range, IfSome-to}
use Rattle.sno_pattern.proofs.NextEndLaws.{ends_of-within, end_of-Contains, next_end-at}
use Rattle.sno_pattern.proofs.table.Patterns.end_behind.Goals as goal

pub end_behind_of_kind-requires : goal.end_behind_of_kind-requires
end_behind_of_kind-requires c = (ends_of-within (tree c.args.self.now c.args.id.0) c.args.subject.now c.args.at c.args.last c.requires.at c.requires.last).1

same : (c : goal.After-end_behind_of_kind) (i : ℕ) →
    end_of_node (node_of c.index.result.now.kind) c.args.subject.now c.args.at i ≡ end_of (tree c.args.self.now c.args.id.0) c.args.subject.now c.args.at i
same c i =
    let fits : c.args.id.0 < length c.self.inside.entries.items =
    omega (arith, length-nodes c.self.inside.entries.items, ap length c.self.view_is, c.requires.id) in
    rw (← c.self.view_is)
    (end_of-kind c.self.inside.entries.items c.args.id.0 c.index.result.now c.args.subject.now c.args.at i c.self.invariant fits (sym c.index.ensures))

pub returns-clause-by_number : goal.returns-clause-by_number
returns-clause-by_number c = λ i at. c.end_behind_of_kind.ensures c.args.at i c.requires.at (same c i ∙ at) ∙ same c (i + 1)

pub returns-clause-value : goal.returns-clause-value
returns-clause-value c =
    let number = end_of-Contains (tree c.args.self.now c.args.id.0) c.args.subject.now c.args.at c.args.last c.requires.last in
    returns-clause-by_number c number.0 number.1
    ∙ sym (next_end-at (tree c.args.self.now c.args.id.0) c.args.subject.now c.args.at number.0 c.args.last c.requires.at number.1)

pub returns-clause-inside : goal.returns-clause-inside
returns-clause-inside c =
    let number = end_of-Contains (tree c.args.self.now c.args.id.0) c.args.subject.now c.args.at c.args.last c.requires.last in
    IfSome-to _ _ c.end_behind_of_kind.result (λ e within. within.1)
    (end_of-range (tree c.args.self.now c.args.id.0) c.args.subject.now c.args.at (number.0 + 1) c.end_behind_of_kind.result c.requires.at
    (returns-clause-by_number c number.0 number.1))
