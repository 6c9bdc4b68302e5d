use Rattle.std.proofs.Common.{arith}
use Rattle.sno_pattern.specs.inner.Lanes.{passes}
use Rattle.sno_pattern.proofs.SearchLaws.{found_near, passed_near}
use Rattle.sno_pattern.proofs.byte_set.ByteSet.first_that_passes.Goals as goal

pub returns-in-Some : goal.returns-in-Some
returns-in-Some c = found_near (passes c.args.inside c.args.self.now) c.args.bytes.now c.min-near.result c.in-Some.place c.in-Some.ensures

pub returns-in-Some-first_far : goal.returns-in-Some-first_far
returns-in-Some-first_far c =
    passed_near (passes c.args.inside c.args.self.now) c.args.bytes.now c.min-near.result _ (omega (arith, c.min-near.ensures)) c.in_default.ensures
    c.in-Some-first_far.ensures

pub returns-in-None : goal.returns-in-None
returns-in-None c =
    passed_near (passes c.args.inside c.args.self.now) c.args.bytes.now c.min-near.result _ (omega (arith, c.min-near.ensures))
    c.in_default.ensures c.in-None.ensures
