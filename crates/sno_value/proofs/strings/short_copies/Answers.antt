use Rattle.std.proofs.Common.{◌≡◌, ◌≤◌, ◌*◌, ◌∙◌, ap, length, take, refl, sym, arith}
use Rattle.std.proofs.lemmas.Grind.{common_steps}
use Rattle.std.proofs.lemmas.List.{length-set}
use Rattle.std.proofs.Math.Nat.{mul-le-mul_right}
use Rattle.std.proofs.Math.Seq.{take-append_seam}
use Rattle.sno_value.proofs.Copies.{copies_byte, copies_begin, copies_byte_more, copies_whole}
use Rattle.sno_value.proofs.strings.short_copies.Goals as goal

pub returns-in-len1 : goal.returns-in-len1
returns-in-len1 c = c.first_of.ensures ∙ copies_byte _ 22 _ c.requires.few (omega arith)

pub loop-k-init : goal.loop-k-init
loop-k-init c =
    let text = c.args.text.now in
    let short : length text ≤ 22 = omega (arith, c.requires.short, mul-le-mul_right (length text) c.requires.some) in
    rw (c.copy_from_slice.ensures.after)
    (grind (arith, common_steps), take-append_seam text _ ∙ sym (copies_begin c.args.count text c.requires.some))

pub loop-k-preserved : goal.loop-k-preserved
loop-k-preserved c = (
  length-set _ _ _ ∙ c.loop-k.invariant.0,
  copies_byte_more c.args.count c.loop-k.k _ c.args.text.now c.loop-k.bytes (omega arith) (omega arith) (omega arith) c.loop-k.invariant.1 refl,
)

pub returns : goal.returns
returns c =
    let begun = mul-le-mul_right (length c.args.text.now) c.requires.some in
    let whole : c.loop-k.k ≡ c.args.count * length c.args.text.now = omega (arith, begun) in
    c.first_of-2.ensures
    ∙ ap (λ n. take n c.loop-k.bytes) (sym whole)
    ∙ c.loop-k.invariant.1
    ∙ copies_whole c.args.count c.loop-k.k c.args.text.now whole
