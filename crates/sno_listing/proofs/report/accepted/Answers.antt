use Rattle.std.proofs.Common.{refl, ◌∙◌, ◌++◌, ap}
use Rattle.sno_listing.specs.Report.{listed_is}
use Rattle.sno_listing.proofs.Reports.{single_told, missing_told}
use Rattle.sno_listing.proofs.report.accepted.Goals as goal

pub returns-in-Some-2 : goal.returns-in-Some-2
returns-in-Some-2 c = single_told _ _ _ c.args.program.now _ _ _ c.requires c.in-Some.is c.in_ok-text.ensures c.in-Some-2.is refl

pub returns-in-None : goal.returns-in-None
returns-in-None c = missing_told _ _ _ c.args.program.now _ c.requires c.in-Some.is c.in_ok-text.ensures c.in-None.is

pub returns : goal.returns
returns c = listed_is c.args.program.now c.requires c.in_default.is _ refl refl c.as_slice.result.now
    (c.in_ok-extend_from_slice.ensures.items ∙ ap (λ x. x ++ c.as_slice.result.now) c.in_ok-listing.ensures)
