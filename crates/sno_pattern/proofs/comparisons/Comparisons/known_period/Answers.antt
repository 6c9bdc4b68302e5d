use Rattle.std.proofs.Common.{◌≡◌, ◌+◌, ◌-◌, drop, subst, arith, rules}
use Rattle.sno_pattern.specs.Agreement.{AreSame}
use Rattle.sno_pattern.specs.Compared.{IsTruePeriod}
use Rattle.sno_pattern.proofs.AgreementLaws.{period_tells}
use Rattle.sno_pattern.proofs.comparisons.Comparisons.known_period.Goals as goal

pub returns-then-from-period : goal.returns-then-from-period
returns-then-from-period c =
    let period = c.index-period.result.now in
    let s = c.args.subject.now in
    let is : IsTruePeriod s period = search rules in
    let same : period.distance ≡ c.args.distance = omega (arith, c.if-period-distance.true) in
    subst (λ d. AreSame (drop c.args.from s) (drop (c.args.from + d) s) (period.until - c.args.from)) same
    (period_tells s period c.args.from is (omega (arith, c.if-period-from.true)) (omega (arith, c.if-from-period.true)))
