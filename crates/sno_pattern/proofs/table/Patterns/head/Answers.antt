use Rattle.std.proofs.Common.{ap, arith, length, sym, ◌<◌}
use Rattle.sno_pattern.proofs.TableLaws.{length-nodes}
use Rattle.sno_pattern.proofs.HeadLaws.{has_head}
use Rattle.sno_pattern.proofs.table.Patterns.head.Goals as goal

pub returns : goal.returns
returns c =
    let fits : c.args.id.0 < length c.self.inside.entries.items =
    omega (arith, length-nodes c.self.inside.entries.items, ap length c.self.view_is, c.requires.id) in
    rw (← c.self.view_is)
    (has_head c.self.inside.entries.items c.args.id.0 c.index.result.now c.self.invariant fits (sym c.index.ensures) c.args.subject.now c.args.at
    c.head_of_kind.result c.head_of_kind.ensures)
