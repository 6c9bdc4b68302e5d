use Rattle.sno_pattern.proofs.BalanceLaws.{IsNth-first, IsNth-next, none-first, none-next}
use Rattle.sno_pattern.proofs.balance.balanced_end_at.Goals as goal

pub returns-in_err-end : goal.returns-in_err-end
returns-in_err-end c = none-first c.args.subject.now c.args.at c.args.i c.balanced_end.result c.from_residual.result c.balanced_end.ensures
    c.in_err-end.was c.from_residual.ensures

pub loop-more-init : goal.loop-more-init
loop-more-init c = IsNth-first c.args.subject.now c.args.at c.in_ok-end.end c.balanced_end.result c.requires c.balanced_end.ensures c.in_ok-end.was

pub returns-in_err-end-2 : goal.returns-in_err-end-2
returns-in_err-end-2 c =
    none-next c.args.subject.now c.args.at c.loop-more._more c.loop-more.end c.args.i c.balanced_end-in-loop-more.result
    c.from_residual-in_err-end-2.result c.requires
    c.loop-more.invariant c.loop-more-test.true c.balanced_end-in-loop-more.ensures c.in_err-end-2.was c.from_residual-in_err-end-2.ensures

pub loop-more-preserved : goal.loop-more-preserved
loop-more-preserved c =
    IsNth-next c.args.subject.now c.args.at c.loop-more._more c.loop-more.end c.in_ok-end-2.end c.balanced_end-in-loop-more.result c.requires
    c.loop-more.invariant c.balanced_end-in-loop-more.ensures c.in_ok-end-2.was
