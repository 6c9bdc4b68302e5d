use Rattle.std.proofs.Common.{◌≡◌, Some, sym, ◌∙◌, ap, arith}
use Rattle.sno_pattern.proofs.BalanceLaws.{IsOpen-start, balanced-unmatched, balanced-found, balanced-open, balanced-none}
use Rattle.sno_pattern.proofs.balance.balanced_end.Goals as goal

pub loop-end-init : goal.loop-end-init
loop-end-init c = IsOpen-start c.args.subject.now c.args.at

pub returns-in-None : goal.returns-in-None
returns-in-None c = balanced-unmatched c.args.subject.now c.args.at c.loop-end.end c.loop-end.depth c.loop-end.auto.end c.loop-end-test.true
    c.loop-end.invariant c.in-None.ensures

pub returns-in-Some-eq0 : goal.returns-in-Some-eq0
returns-in-Some-eq0 c =
    let none_open : c.in-Some-eq0.field-0 ≡ 0 = omega arith in
    balanced-found c.args.subject.now c.args.at c.loop-end.end c.loop-end.depth c.loop-end.auto.end c.loop-end-test.true c.loop-end.invariant
    (ap Some (sym none_open) ∙ c.in-Some-eq0.ensures)

pub loop-end-preserved : goal.loop-end-preserved
loop-end-preserved c =
    balanced-open c.args.subject.now c.args.at c.loop-end.end c.loop-end.depth c.in-Some.deeper c.loop-end.auto.end c.loop-end-test.true c.loop-end.invariant
    c.in-Some.ensures c.in-Some.deeper-test.1

pub returns : goal.returns
returns c = balanced-none c.args.subject.now c.args.at c.loop-end.end c.loop-end.depth c.loop-end-test.false c.loop-end.invariant
