use Rattle.std.proofs.Common.{◌∙◌}
use Rattle.sno_pattern.proofs.PlaceLaws.{same_eight}
use Rattle.sno_pattern.proofs.places.index_of.Goals as goal

pub returns : goal.returns
returns c = c.first_in.ensures ∙ same_eight c.args.byte c.args.bytes.now
