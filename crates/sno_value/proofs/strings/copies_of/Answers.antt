use Rattle.std.proofs.Common.{◌≤◌, ◌∙◌, ap, arith, length}
use Rattle.std.proofs.Math.Nat.{mul-le-mul_right}
use Rattle.sno_value.proofs.Copies.{copies_more, length-copies}
use Rattle.sno_value.proofs.strings.copies_of.Goals as goal

pub extend_from_within-requires-clause-in_bounds : goal.extend_from_within-requires-clause-in_bounds
extend_from_within-requires-clause-in_bounds c =
    let text = c.args.text.now in
    let fewer : c.min-more.result ≤ c.doublings.made = omega (arith, c.min-more.ensures) in
    omega (
      arith,
      mul-le-mul_right (length text) fewer,
      ap length c.doublings.invariant.copied,
      length-copies c.doublings.made text,
      c.doublings.copied.ok,
    )

pub doublings-preserved : goal.doublings-preserved
doublings-preserved c = record {
  some = omega arith;
  within = omega (arith, c.min-more.ensures);
  copied = c.in_ok-extend_from_within.ensures.items
      ∙ copies_more c.doublings.made c.min-more.result c.args.text.now c.doublings.copied.items
      (omega (arith, c.min-more.ensures)) c.doublings.invariant.copied;
}
