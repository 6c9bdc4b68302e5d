use Rattle.std.proofs.Common.{ap, arith, length, sym, ◌<◌, ◌+◌, IfSome}
use Rattle.sno_pattern.proofs.TableLaws.{length-nodes}
use Rattle.sno_pattern.proofs.ShapeLaws.{end_of-kind, end_of-range, IfSome-to}
use Rattle.sno_pattern.proofs.EndsRange.{Within}
use Rattle.sno_pattern.specs.Table.{tree}
use Rattle.sno_pattern.proofs.table.Patterns.end_at.Goals as goal

pub returns-clause-value : goal.returns-clause-value
returns-clause-value c =
    let fits : c.args.id.0 < length c.self.inside.entries.items =
    omega (arith, length-nodes c.self.inside.entries.items, ap length c.self.view_is, c.requires.id) in
    rw (c.end_of_kind.ensures, ← c.self.view_is)
    (end_of-kind c.self.inside.entries.items c.args.id.0 c.index.result.now c.args.subject.now c.args.at c.args.i c.self.invariant fits (sym c.index.ensures))

range : (c : goal.After-end_of_kind) → IfSome c.end_of_kind.result (Within (c.args.at + c.args.i) (length c.args.subject.now))
range c = end_of-range (tree c.args.self.now c.args.id.0) c.args.subject.now c.args.at c.args.i c.end_of_kind.result c.requires.at (returns-clause-value c)

pub returns-clause-ahead : goal.returns-clause-ahead
returns-clause-ahead c = IfSome-to _ _ c.end_of_kind.result (λ e within. omega (arith, within.0)) (range c)

pub returns-clause-inside : goal.returns-clause-inside
returns-clause-inside c = IfSome-to _ _ c.end_of_kind.result (λ e within. within.1) (range c)

pub returns-clause-few : goal.returns-clause-few
returns-clause-few c = IfSome-to _ _ c.end_of_kind.result (λ e within. omega (arith, within.0, within.1)) (range c)
