use Rattle.sno_pattern.proofs.MaskLaws.{none-joined}
use Rattle.sno_pattern.proofs.byte_set.ByteSet.none.Goals as goal

pub returns : goal.returns
returns c = none-joined
