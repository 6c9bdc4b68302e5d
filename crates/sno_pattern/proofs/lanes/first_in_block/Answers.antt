use Rattle.std.proofs.Common.{true, false, ◌≡◌, length, take, arith}
use Rattle.std.proofs.lemmas.List.{length-take}
use Rattle.sno_pattern.specs.inner.Lanes.{passes}
use Rattle.sno_pattern.proofs.LaneLaws.{mask_inside, mask_outside}
use Rattle.sno_pattern.proofs.lanes.first_in_block.Goals as goal

pub returns-then-inside : goal.returns-then-inside
returns-then-inside c =
    let block = take 32 c.args.bytes.now in
    let long : length block ≡ 32 = omega (arith, length-take 32 c.args.bytes.now, c.requires) in
    rw c.if-inside.true
    (c.lowest-place.ensures (passes true c.args.set.now) block (omega arith) (mask_inside block c.args.set.now long c.type_inv.set.1.1.0.1))

pub returns-else-inside : goal.returns-else-inside
returns-else-inside c =
    let block = take 32 c.args.bytes.now in
    let long : length block ≡ 32 = omega (arith, length-take 32 c.args.bytes.now, c.requires) in
    rw c.if-inside.false
    (c.lowest-place-else-inside.ensures (passes false c.args.set.now) block (omega arith) (mask_outside block c.args.set.now long c.type_inv.set.1.1.0.1))
