use Rattle.snobol.specs.Jobs.{accepted_is}
use Rattle.snobol.proofs.JobLaws.{refusal_checked}
use Rattle.snobol.proofs.job.check.Goals as goal

pub returns-in-Ok : goal.returns-in-Ok
returns-in-Ok c = let h = c.in-Ok.ensures.accepted in accepted_is c.well.ensures h.0 h.1

pub returns-in-Err : goal.returns-in-Err
returns-in-Err c = rw c.refused.ensures (refusal_checked c.args.text.now c.in-Err.error c.in-Err.ensures.refused).0
