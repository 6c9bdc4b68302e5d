use Rattle.std.proofs.Common.{◌≡◌, ℕ, List, refl, ◌∙◌, ap}
use Rattle.sno_pattern.specs.Sets.{set_of}
use Rattle.sno_pattern.specs.Masks.{members}
use Rattle.sno_pattern.proofs.EightLaws.{eight-members}
use Rattle.std.proofs.lemmas.List.{length-set, take_all}
use Rattle.sno_pattern.specs.Ends.{is_in}
use Rattle.sno_pattern.proofs.SetLaws.{empty-has_bit, set-has_bit, members-set_of}
use Rattle.sno_pattern.proofs.byte_set.ByteSet.of.Goals as goal

pub loop-byte-init : goal.loop-byte-init
loop-byte-init c = record { four = refl; bits = empty-has_bit }

pub loop-byte-preserved : goal.loop-byte-preserved
loop-byte-preserved c = record {
  four = simp length-set c.loop-byte.invariant.four;
  bits = set-has_bit c.loop-byte.words c.args.bytes.now c.loop-byte.byte-index c.loop-byte.invariant.four c.loop-byte-test.true c.loop-byte.invariant.bits;
}

same : (c : goal.After-eight_of-eight) → members c.loop-byte.words ≡ set_of c.args.bytes.now
same c = members-set_of c.loop-byte.words c.args.bytes.now
    (λ b below. c.loop-byte.invariant.bits b below ∙ ap (λ (xs : List ℕ). is_in xs b) (take_all c.loop-byte.byte-index c.args.bytes.now c.loop-byte-test.false))

pub invariant_of-result : goal.invariant_of-result
invariant_of-result c = eight-members c.eight_of-eight.result c.loop-byte.words c.args.bytes.now c.type_inv.bytes (same c) c.eight_of-eight.ensures

pub returns : goal.returns
returns c = same c
