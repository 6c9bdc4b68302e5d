use Rattle.std.proofs.Common.{◌≡◌, ◌+◌, suc, sym, ◌∙◌, arith}
use Rattle.sno_pattern.proofs.BalanceLaws.{balanced_next}
use Rattle.sno_pattern.proofs.NextEndLaws.{arb-next, arb-last}
use Rattle.sno_pattern.proofs.ShapeLaws.{one_end}
use Rattle.sno_pattern.proofs.ends.end_behind_of_kind.Goals as goal

pub returns-then-last-subject : goal.returns-then-last-subject
returns-then-last-subject c = rw c.in-Arb.is (λ from k h at. arb-next c.args.subject.now from k c.args.last h at c.if-last-subject.true)

pub returns-else-last-subject : goal.returns-else-last-subject
returns-else-last-subject c = rw c.in-Arb.is (λ from k h at. arb-last c.args.subject.now from k c.args.last h at c.if-last-subject.false)

pub returns-in-Bal : goal.returns-in-Bal
returns-in-Bal c =
    rw c.in-Bal.is
    (λ from k h at. let more : k + 1 ≡ suc k = omega arith in rw more (c.balanced_end.ensures ∙ sym (balanced_next c.args.subject.now from k c.args.last h at)))

pub returns-in_default : goal.returns-in_default
returns-in_default c = λ from k h at. one_end c.args.kind.now c.args.subject.now from (k + 1) c.in_default.not-Arb c.in_default.not-Bal
    c.in_default.not-Among (λ e. omega arith)
