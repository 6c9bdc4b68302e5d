use Rattle.std.proofs.Common.{rules, ◌∙◌}
use Rattle.sno_calls.proofs.Tellings.{is_listed, is_missing}
use Rattle.sno_calls.proofs.listing.tell_listing.Goals as goal

-- the report, and what was told of it
pub returns-in-Ok-Some : goal.returns-in-Ok-Some
returns-in-Ok-Some c = is_listed _ c.args.number _ _ c.in-Ok-Some.report _ _ _ _ _ c.in-Ok-Some.ensures c.wanted.ensures (search rules)
    c.tell_report.ensures.output c.tell_report.ensures.fits c.tell_report.ensures.no_line c.tell_report.ensures.cut
    c.tell_report.ensures.fault

-- the line with its number
pub returns-in-Ok : goal.returns-in-Ok
returns-in-Ok c = is_missing _ c.args.number _ _ _ _ _ _ _ _ c.in-Ok-None.ensures c.wanted.ensures (search rules)
    c.tell.ensures.status c.tell.ensures.output (c.as_slice.ensures.value ∙ c.in-Ok.ensures) c.tell.ensures.message
