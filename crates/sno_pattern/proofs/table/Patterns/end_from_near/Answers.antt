use Rattle.std.proofs.Common.{◌≡◌, ℕ, sym, ◌∙◌, arith}
use Rattle.sno_pattern.specs.inner.Kinds.{node_of}
use Rattle.sno_pattern.specs.inner.Shape.{end_of_node}
use Rattle.sno_pattern.specs.Shape.{end_of}
use Rattle.sno_pattern.specs.Table.{tree}
use Rattle.sno_pattern.proofs.LookLaws.{of_entry}
use Rattle.sno_pattern.proofs.ShapeLaws.{end_of-range, IfSome-to}
use Rattle.sno_pattern.proofs.table.Patterns.end_from_near.Goals as goal

of_kind : (c : goal.After-end_at-end) (d : ℕ) → end_of_node (node_of c.index.result.now.kind) c.args.subject.now d 0
    ≡ end_of (tree c.args.self.now c.args.id.0) c.args.subject.now d 0
of_kind c d =
    of_entry c.self.inside.entries.items c.args.self.now c.args.id.0 c.index.result.now c.args.subject.now d c.self.view_is c.self.invariant c.requires.id
    (sym c.index.ensures)

pub returns-clause-value : goal.returns-clause-value
returns-clause-value c =
    c.end_at-end.ensures.value ∙ sym (of_kind c c.near_end-near.result) ∙ c.near_end-near.ensures.same ∙ of_kind c c.args.at

pub returns-clause-ahead : goal.returns-clause-ahead
returns-clause-ahead c =
    IfSome-to _ _ c.end_at-end.result (λ e within. omega (arith, within.0))
    (end_of-range (tree c.args.self.now c.args.id.0) c.args.subject.now c.args.at 0 c.end_at-end.result c.requires.at (returns-clause-value c))
