use Rattle.std.proofs.Common.{arith}
use Rattle.sno_pattern.proofs.MaskLaws.{byte-joined}
use Rattle.sno_pattern.proofs.byte_set.ByteSet.add.Goals as goal

pub returns : goal.returns
returns c = λ b. rw (← c.self.view_is) (byte-joined c.self.inside.words c.args.byte b (omega (arith, c.self.ranges)) (omega (arith, c.ranges.byte)))
