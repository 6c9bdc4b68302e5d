use Rattle.std.proofs.Common.{ap, arith, length, sym, ◌<◌}
use Rattle.sno_pattern.proofs.TableLaws.{length-nodes}
use Rattle.sno_pattern.proofs.ShapeLaws.{has_shape}
use Rattle.sno_pattern.proofs.HeadLaws.{goes_on}
use Rattle.sno_pattern.proofs.table.Patterns.head_behind.Goals as goal

pub returns-in-Arb : goal.returns-in-Arb
returns-in-Arb c =
    let fits : c.args.id.0 < length c.self.inside.entries.items =
    omega (arith, length-nodes c.self.inside.entries.items, ap length c.self.view_is, c.requires) in
    rw (← c.self.view_is)
    (goes_on c.self.inside.entries.items c.args.id.0 c.index.result.now c.self.invariant fits (sym c.index.ensures) c.args.subject.now c.args.last
    c.behind_in_arb-next.result c.in-Arb.is c.behind_in_arb-next.ensures)

pub returns-in_default : goal.returns-in_default
returns-in_default c =
    let fits : c.args.id.0 < length c.self.inside.entries.items =
    omega (arith, length-nodes c.self.inside.entries.items, ap length c.self.view_is, c.requires) in
    rw (c.shape_of_kind.ensures, ← c.self.view_is)
    (has_shape c.self.inside.entries.items c.args.id.0 c.index.result.now c.self.invariant fits (sym c.index.ensures))
