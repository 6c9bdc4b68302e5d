use Rattle.sno_value.specs.declared.kind.PrimitiveKind.{PrimitiveKind}
use Rattle.sno_pattern.specs.declared.kind.Kind.TheVariants as K
use Rattle.std.proofs.Common.{◌∙◌, ◌<◌, length, sym, ap, arith}
use Rattle.sno_pattern.proofs.LookLaws.{is_stop}
use Rattle.sno_pattern.proofs.TableLaws.{length-nodes}
use Rattle.sno_pattern.proofs.table.Patterns.stops_often.Goals as goal

pub returns-in-BreakX : goal.returns-in-BreakX
returns-in-BreakX c =
    let fits : c.args.id.0 < length c.self.inside.entries.items =
    omega (arith, length-nodes c.self.inside.entries.items, ap length c.self.view_is, c.requires) in
    λ _. (
      c.in-Among._set,
      rw (← c.self.view_is)
          (is_stop c.self.inside.entries.items c.args.id.0 c.index.result.now c.in-Among._set c.self.invariant fits (sym c.index.ensures)
          (c.in-Among.is ∙ ap (λ (prim : PrimitiveKind). K.Among prim c.in-Among._set) c.in-BreakX.is)),
    )
