use Rattle.std.proofs.Common.{◌<◌, ap, arith, length, sym, ◌∙◌}
use Rattle.std.specs.Option.{is_some}
use Rattle.sno_pattern.proofs.TableLaws.{length-nodes}
use Rattle.sno_pattern.proofs.ShapeLaws.{end_of-kind}
use Rattle.sno_pattern.proofs.table.Patterns.first_byte.Goals as goal

pub returns : goal.returns
returns c = λ s place stands.
    let fits : c.args.id.0 < length c.self.inside.entries.items =
    omega (arith, length-nodes c.self.inside.entries.items, ap length c.self.view_is, c.requires) in
    let same = ap is_some (end_of-kind c.self.inside.entries.items c.args.id.0 c.index.result.now s place 0 c.self.invariant fits (sym c.index.ensures)) in
    c.in_ok-byte.ensures s place (same ∙ (rw (← c.self.view_is) at stands))
