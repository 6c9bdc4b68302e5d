use Rattle.std.proofs.Common.{◌<◌, length, sym, ap, arith}
use Rattle.sno_pattern.proofs.LookLaws.{is_arb}
use Rattle.sno_pattern.proofs.TableLaws.{length-nodes}
use Rattle.sno_pattern.proofs.table.Patterns.is_arb.Goals as goal

pub returns-in-Arb : goal.returns-in-Arb
returns-in-Arb c =
    let fits : c.args.id.0 < length c.self.inside.entries.items =
    omega (arith, length-nodes c.self.inside.entries.items, ap length c.self.view_is, c.requires) in
    λ _. rw (← c.self.view_is)
    (is_arb c.self.inside.entries.items c.args.id.0 c.index.result.now c.self.invariant fits (sym c.index.ensures) c.in-Arb.is)
