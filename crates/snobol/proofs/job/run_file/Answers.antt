use Rattle.std.proofs.Common.{[], refl}
use Rattle.snobol.specs.Jobs.{not_read, was_run}
use Rattle.sno_runtime.proofs.Reading.{consumes_nothing}
use Rattle.sno_runtime.proofs.Performing.{appends_nothing}
use Rattle.snobol.proofs.JobLaws.{refusal_checked}
use Rattle.snobol.proofs.job.run_file.Goals as goal

pub returns-in-Ok : goal.returns-in-Ok
returns-in-Ok g c =
    let h = c.in-Ok.ensures.accepted in let ran = c.run-outcome.ensures.meaning in (
      ran.0,
      ran.1,
      ran.2,
      ran.3,
      was_run c.run-outcome.result
          (record { statements = h.0; accepted = h.1; program = c.in-Ok.program; stands = h.2; program_text = c.in-Ok.ensures.source; meets = ran.4 })
          c.ran.ensures,
    )

pub returns-in-Err : goal.returns-in-Err
returns-in-Err g c =
    let told = refusal_checked c.args.text.now c.in-Err.error c.in-Err.ensures.refused in (
      [],
      [],
      consumes_nothing (g.R.Source.feed c.args.reader.now).left,
      appends_nothing (g.W.Sink.drain c.args.writer.now).taken,
      rw c.refused.ensures (not_read refl refl told.0 told.1),
    )
