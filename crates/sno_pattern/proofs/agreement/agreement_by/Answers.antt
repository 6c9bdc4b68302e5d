use Rattle.std.proofs.Common.{◌≡◌, ◌+◌, ◌-◌, drop, take, sym, ◌∙◌, ap, arith}
use Rattle.std.specs.Cmp.Lexicographic.{same_text}
use Rattle.sno_pattern.proofs.AgreementLaws.{joined}
use Rattle.sno_pattern.proofs.agreement.agreement_by.Goals as goal

pub parts-preserved : goal.parts-preserved
parts-preserved c =
    let count = c.parts.count in
    let block : count + c.args.block - count ≡ c.args.block = omega arith in
    joined c.args.first.now c.args.second.now count c.args.block c.parts.invariant (omega (arith, c.if-first-count.true, c.parts.invariant.left))
    (omega (arith, c.if-second-count.true, c.parts.invariant.right))
    (sym (ap (λ n. take n (drop count c.args.first.now)) block) ∙ same_text _ _ (sym (sym c.eq.ensures ∙ c.if-eq.true))
    ∙ ap (λ n. take n (drop count c.args.second.now)) block)
