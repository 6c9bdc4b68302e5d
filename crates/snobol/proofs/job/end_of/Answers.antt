use Rattle.std.proofs.Common.{[], refl}
use Rattle.sno_runtime.proofs.Reading.{consumes_nothing}
use Rattle.sno_runtime.proofs.Performing.{appends_nothing}
use Rattle.snobol.proofs.job.end_of.Goals as goal

pub returns-in-Some : goal.returns-in-Some
returns-in-Some g c = rw (c.in-Run.is, c.in-Some.is) c.run_file.ensures

pub returns-in-None : goal.returns-in-None
returns-in-None g c = (
  [],
  [],
  consumes_nothing (g.R.Source.feed c.args.reader.now).left,
  appends_nothing (g.W.Sink.drain c.args.writer.now).taken,
  rw (c.in-Run.is, c.in-None.is)
      (refl, refl, c.unread.ensures),
)

pub returns-in-Ways : goal.returns-in-Ways
returns-in-Ways g c =
    let listed = c.ways-outcome.ensures.listing in (
      [],
      listed.0,
      consumes_nothing (g.R.Source.feed c.args.reader.now).left,
      listed.1,
      rw c.in-Ways.is (refl, (c.ways-outcome.result, rw (c.as_bytes-pattern.ensures.value, c.as_bytes-subject.ensures.value) at listed.2, c.listed.ensures)),
    )

pub returns-in-Some-file : goal.returns-in-Some-file
returns-in-Some-file g c = (
  [],
  [],
  consumes_nothing (g.R.Source.feed c.args.reader.now).left,
  appends_nothing (g.W.Sink.drain c.args.writer.now).taken,
  rw (c.in-Check.is, c.in-Some-file.is) (refl, refl, c.check.ensures),
)

pub returns-in-None-file : goal.returns-in-None-file
returns-in-None-file g c = (
  [],
  [],
  consumes_nothing (g.R.Source.feed c.args.reader.now).left,
  appends_nothing (g.W.Sink.drain c.args.writer.now).taken,
  rw (c.in-Check.is, c.in-None-file.is) (refl, refl, c.unread-in-None-file.ensures),
)
