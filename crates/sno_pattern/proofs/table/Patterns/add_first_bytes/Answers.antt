use Rattle.std.proofs.Common.{◌<◌, ap, arith, length, sym, ◌∙◌}
use Rattle.std.specs.Option.{is_some}
use Rattle.sno_pattern.proofs.TableLaws.{length-nodes}
use Rattle.sno_pattern.proofs.ShapeLaws.{end_of-kind}
use Rattle.sno_pattern.proofs.table.Patterns.add_first_bytes.Goals as goal

pub returns-clause-known : goal.returns-clause-known
returns-clause-known c = λ known. record {
  fails = λ s place none.
      let fits : c.args.id.0 < length c.self.inside.entries.items =
      omega (arith, length-nodes c.self.inside.entries.items, ap length c.self.view_is, c.requires) in
      rw (← c.self.view_is)
      (sym (ap is_some (end_of-kind c.self.inside.entries.items c.args.id.0 c.index.result.now s place 0 c.self.invariant fits (sym c.index.ensures)))
      ∙ c.add_first_bytes_of_kind.ensures.known known s place none);
}
