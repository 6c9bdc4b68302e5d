use Rattle.std.proofs.Common.{◌<◌, length, sym, arith}
use Rattle.sno_pattern.proofs.LookLaws.{same_tree}
use Rattle.sno_pattern.proofs.table.Patterns.searches_same.Goals as goal

pub returns : goal.returns
returns c = λ told.
    let fits : c.args.id.0 < length c.args.self.now = omega (arith, c.if-id-len.false, c.len.ensures) in
    same_tree c.self.inside.entries.items c.args.self.now c.args.id.0 c.args.other.0 c.index.result.now c.index-2.result.now c.self.view_is c.self.invariant fits
    c.requires (sym c.index.ensures) (sym c.index-2.ensures) (c.is_same_search.ensures told)
