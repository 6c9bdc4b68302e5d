use Rattle.sno_io.proofs.HeldJobs.{found_is, no_check, no_run, no_ways}
use Rattle.sno_io.proofs.words.job_of.Goals as goal

pub returns-in-run-clause-none : goal.returns-in-run-clause-none
returns-in-run-clause-none c =
    rw (found_is c.args.matches.now _ _ c.in_ok-name.ensures.name c.in_ok-name.ensures.rows, c.in-run.is) (no_run _ c.run_of.result c.run_of.ensures.none)

pub returns-in-check-clause-none : goal.returns-in-check-clause-none
returns-in-check-clause-none c =
    rw (found_is c.args.matches.now _ _ c.in_ok-name.ensures.name c.in_ok-name.ensures.rows, c.in-check.is)
    (no_check _ c.check_of.result c.check_of.ensures.none)

pub returns-in-ways-clause-none : goal.returns-in-ways-clause-none
returns-in-ways-clause-none c =
    rw (found_is c.args.matches.now _ _ c.in_ok-name.ensures.name c.in_ok-name.ensures.rows, c.in-ways.is) (no_ways _ c.ways_of.result c.ways_of.ensures.none)
