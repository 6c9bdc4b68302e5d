use Rattle.std.proofs.Common.{◌+◌, ◌-◌, drop, take, length, subst, arith}
use Rattle.std.proofs.lemmas.List.{take_rest}
use Rattle.sno_pattern.specs.Agreement.{AreSame}
use Rattle.sno_pattern.proofs.AgreementLaws.{period_of}
use Rattle.sno_pattern.proofs.comparisons.Comparisons.repeated.Goals as goal

pub remember_period-requires : goal.remember_period-requires
remember_period-requires c =
    let s = c.args.subject.now in
    let from = c.args.from in
    let there = from + c.args.distance in
    let count = c.agreement-count.result in
    period_of s from c.args.distance count
    (subst (λ b. AreSame (drop from s) b count) (take_rest s there)
    (subst (λ a. AreSame a (take (length s - there) (drop there s)) count) (take_rest s from) c.agreement-count.ensures.same))
    (omega (arith, c.if-count-known.true))
