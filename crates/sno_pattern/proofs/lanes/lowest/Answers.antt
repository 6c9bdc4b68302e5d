use Rattle.sno_pattern.proofs.SearchLaws.{no_lane, first_lane}
use Rattle.sno_pattern.proofs.lanes.lowest.Goals as goal

pub returns-then-mask-eq0 : goal.returns-then-mask-eq0
returns-then-mask-eq0 c = λ p xs few e. no_lane p xs c.args.mask c.if-mask-eq0.true e

pub returns-else-mask-eq0 : goal.returns-else-mask-eq0
returns-else-mask-eq0 c = λ p xs few e. first_lane p xs c.args.mask few c.if-mask-eq0.false e
