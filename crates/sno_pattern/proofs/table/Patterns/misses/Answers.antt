use Rattle.std.proofs.Common.{◌<◌, ap, arith, length, sym, ◌∙◌}
use Rattle.std.specs.Option.{is_some}
use Rattle.sno_pattern.proofs.TableLaws.{length-nodes}
use Rattle.sno_pattern.proofs.ShapeLaws.{end_of-kind}
use Rattle.sno_pattern.proofs.table.Patterns.misses.Goals as goal

pub returns : goal.returns
returns c = λ misses.
    let entries = c.self.inside.entries.items in
    let fits : c.args.id.0 < length entries = omega (arith, length-nodes entries, ap length c.self.view_is, c.requires.id) in
    rw (← c.self.view_is)
    (sym (ap is_some (end_of-kind entries c.args.id.0 c.index.result.now c.args.subject.now c.args.at 0 c.self.invariant fits (sym c.index.ensures)))
    ∙ c.kind_misses.ensures misses)
