use Rattle.std.proofs.Common.{arith}
use Rattle.sno_match.proofs.SharedLaws.{parts_is, first_smaller}
use Rattle.sno_match.proofs.hand.first_record.Goals as goal

pub returns : goal.returns
returns c = (
  parts_is c.args.records.now c.args.goals _ (omega arith) c.requires.inside c.requires.falls,
  first_smaller c.args.records.now c.args.goals _ (omega arith) c.requires.inside c.requires.falls,
)
