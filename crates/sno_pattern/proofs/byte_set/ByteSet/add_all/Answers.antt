use Rattle.sno_pattern.proofs.MaskLaws.{all-joined}
use Rattle.sno_pattern.proofs.byte_set.ByteSet.add_all.Goals as goal

pub returns : goal.returns
returns c = λ b. rw (← c.self.view_is, ← c.other.view_is) (all-joined c.self.inside.words c.other.inside.words b)
