use Rattle.std.proofs.Common.{inl, map}
use Rattle.std.proofs.lemmas.Result.{err_from_is_err_and}
use Rattle.clap.specs.Words.{app_of}
use Rattle.sno_io.proofs.HeldJobs.{job_held, refused}
use Rattle.sno_io.proofs.words.command.Goals as goal

pub returns-in_err-matches-clause-refused : goal.returns-in_err-matches-clause-refused
returns-in_err-matches-clause-refused c =
    let p = err_from_is_err_and c.from_residual-in_err-matches.result c.from_residual-in_err-matches.ensures.1 in
    let h = refused (app_of c.in_ok-root.root) (map (λ w. w.now) c.args.words.now) c.in_ok-root.ensures c.in_err-matches.field-0.0
    c.in_err-matches.ensures.kinds in
    rw (p.1, p.2) (inl h)

pub returns-in-Some-clause-job : goal.returns-in-Some-clause-job
returns-in-Some-clause-job c =
    job_held (app_of c.in_ok-root.root) (map (λ w. w.now) c.args.words.now) c.in_ok-root.ensures c.in_ok-matches.matches c.in-Some.job
    c.in_ok-matches.ensures.kinds c.in_ok-matches.ensures.ok.2 c.in-Some.ensures.some
