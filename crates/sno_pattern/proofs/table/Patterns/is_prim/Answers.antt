use Rattle.std.proofs.Common.{◌<◌, length, sym, arith}
use Rattle.sno_pattern.proofs.SameLaws.{stands_for}
use Rattle.sno_pattern.proofs.table.Patterns.is_prim.Goals as goal

pub returns : goal.returns
returns c = λ told.
    let fits : c.args.id.0 < length c.args.self.now = omega (arith, c.if-id-len.false, c.len.ensures) in
    stands_for c.self.inside.entries.items c.args.self.now c.args.id c.index.result.now _ c.self.view_is c.self.invariant fits
    (sym c.index.ensures) (c.is_prim_of.ensures told)
