-- The limits of a job that the words ask for.
use Rattle.std.proofs.Common.{ℕ, List, Option, None, Some}
use Rattle.sno_io.specs.Commands.{IsJobOf, IsJob, HoldsJob}
use Rattle.sno_io.specs.declared.jobs.Job.{Job}
use Rattle.sno_io.specs.declared.jobs.Job.TheVariants.{Run, Check, Ways}
use Rattle.sno_io.specs.Words.{Row}
use Rattle.snobol.specs.Jobs.{IsInRange}

job_in_range : (name : List ℕ) (rows : List Row) (job : Job) → IsJob name rows job → IsInRange job
job_in_range name rows (Run file limits) h = record {
  some = h.1.statements_are.least_holds;
  statements = h.1.statements_are.most_holds;
  match_steps = h.1.match_steps_are.most_holds;
}
job_in_range name rows (Check file) h = tt
job_in_range name rows (Ways anchored steps pattern subject) h = tt

held_in_range : (found : Option (List ℕ × List Row)) (job : Job) → HoldsJob found job → IsInRange job
held_in_range None job h = absurd h
held_in_range (Some f) job h = job_in_range f.0 f.1 job h

pub in_range : (words : List (List ℕ)) (job : Job) → IsJobOf words job → IsInRange job
in_range words job h = held_in_range _ job h.1
