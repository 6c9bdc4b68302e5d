use Rattle.std.proofs.Common.{◌<◌, ap, arith, length, sym, ◌∙◌}
use Rattle.sno_pattern.proofs.TableLaws.{length-nodes}
use Rattle.sno_pattern.proofs.ShapeLaws.{end_of-kind}
use Rattle.sno_pattern.proofs.table.Patterns.has_one_end.Goals as goal

pub returns : goal.returns
returns c = λ told s from.
    let fits : c.args.id.0 < length c.self.inside.entries.items =
    omega (arith, length-nodes c.self.inside.entries.items, ap length c.self.view_is, c.requires.id) in
    rw (← c.self.view_is)
    (sym (end_of-kind c.self.inside.entries.items c.args.id.0 c.index.result.now s from 1 c.self.invariant fits (sym c.index.ensures))
    ∙ c.has_one_end.ensures told s from)
