use Rattle.std.proofs.Common.{◌<◌, length, reverse, sym, subst, arith}
use Rattle.sno_match.specs.inner.Shared.{Fits}
use Rattle.sno_match.proofs.CutPoints.{floor-at}
use Rattle.sno_match.proofs.shared.drop_newer.Goals as goal

pub returns-clause-floor : goal.returns-clause-floor
returns-clause-floor c = λ assigned h.
    let xs = c.args.below.now.items in
    let inside : c.args.count < length xs = omega (arith, c.if-count-len.false, c.len.ensures) in
    let m = floor-at xs c.args.count c.args.floor assigned c.index.result.now _ inside c.index.ensures h in
    (m.0, subst (λ kept. Fits c.index.result.now.floor assigned (reverse kept)) (sym c.truncate.ensures.items) m.1)
