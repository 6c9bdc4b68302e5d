use Rattle.std.proofs.Common.{◌%◌, subst, sym, arith}
use Rattle.std.proofs.lemmas.Nat.{mod_below}
use Rattle.sno_pattern.specs.Compared.{AreCompared, IsTruePeriod}
use Rattle.sno_pattern.proofs.AgreementLaws.{periods_put}
use Rattle.sno_pattern.proofs.comparisons.Comparisons.remember_period.Goals as goal

pub returns : goal.returns
returns c = λ nodes are.
    let s = c.args.subject.now in
    let known = subst (AreCompared nodes s) (sym c.self.view_is) (c.make_periods.ensures nodes s are) in
    let place = c.args.period.distance % c.len-count.result in
    let before = subst (IsTruePeriod s) (sym c.index.ensures) (known.periods.each place _ (omega (arith, c.len-count.ensures, mod_below c.args.period.distance c.len-count.result (omega (arith, c.if-count-eq0.false))))) in
    record { texts = known.texts; periods = periods_put s _ _ _ known.periods (c.joined-all.ensures s before c.requires) }
