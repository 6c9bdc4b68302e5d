use Rattle.std.proofs.Common.{ap, length, arith}
use Rattle.std.proofs.lemmas.Result.{err_from_is_err_and}
use Rattle.sno_statement.proofs.RunningLaws.{performs_runs}
use Rattle.sno_statement.proofs.StatementLaws.{can_run, too_long, short_enough}
use Rattle.sno_statement.proofs.replacement.assign_text.Goals as goal

pub returns-then-as_slice-gt-MOST_BYTES : goal.returns-then-as_slice-gt-MOST_BYTES
returns-then-as_slice-gt-MOST_BYTES g c = λ f ready.
    let long = ap length c.as_slice.ensures in
    rw c.error.ensures (too_long c.args.target.now c.args.text _ _ (omega (arith, long)) (can_run _ f _ c.requires.sound ready))

pub returns-in_err-assign : goal.returns-in_err-assign
returns-in_err-assign g c = λ f ready.
    let p = err_from_is_err_and c.from_residual.result c.from_residual.ensures.1 in
    let done = c.in_err-assign.ensures in
    let long = ap length c.as_slice.ensures in
    rw (p.1, p.2) (short_enough c.args.target.now c.args.text _ _ _ _ _ (omega (arith, long))
    (performs_runs _ _ _ f _ _ _ ready done.nodes done.sound done.fault done.does))

pub returns : goal.returns
returns g c = λ f ready.
    let done = c.in_ok-assign.ensures in
    let long = ap length c.as_slice.ensures in
    short_enough c.args.target.now c.args.text _ _ _ _ _ (omega (arith, long)) (performs_runs _ _ _ f _ _ _ ready done.nodes done.sound done.fault done.does)
