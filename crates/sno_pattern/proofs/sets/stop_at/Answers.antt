use Rattle.std.proofs.Common.{sym, ◌∙◌}
use Rattle.sno_pattern.proofs.StopLaws.{none_at_first, none_behind}
use Rattle.sno_pattern.proofs.sets.stop_at.Goals as goal

pub returns-in_err-stop : goal.returns-in_err-stop
returns-in_err-stop c = none_at_first c.args.set.now c.args.subject.now c.args.at c.args.i c.first_stop.result c.from_residual.result c.first_stop.ensures
    c.in_err-stop.was c.from_residual.ensures

pub loop-more-init : goal.loop-more-init
loop-more-init c = sym c.first_stop.ensures ∙ c.in_ok-stop.was

pub returns-in_err-stop-2 : goal.returns-in_err-stop-2
returns-in_err-stop-2 c =
    none_behind c.args.set.now c.args.subject.now c.args.at c.loop-more._more c.args.i c.stop_behind.result
    c.from_residual-in_err-stop-2.result c.loop-more-test.true
    (c.stop_behind.ensures c.args.at c.loop-more._more c.loop-more.invariant) c.in_err-stop-2.was c.from_residual-in_err-stop-2.ensures

pub loop-more-preserved : goal.loop-more-preserved
loop-more-preserved c = sym (c.stop_behind.ensures c.args.at c.loop-more._more c.loop-more.invariant) ∙ c.in_ok-stop-2.was
