use Rattle.std.proofs.Common.{refl}
use Rattle.sno_listing.specs.Report.{refused_is}
use Rattle.sno_listing.proofs.Reports.{refusal_of}
use Rattle.sno_listing.proofs.report.refused.Goals as goal

pub returns : goal.returns
returns c = refused_is c.args.error (refusal_of _ _ c.requires c.in_default.not-NoMemory) _ refl refl
