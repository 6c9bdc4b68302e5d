use Rattle.std.proofs.Common.{◌+◌, take, arith}
use Rattle.std.proofs.lemmas.Result.{err_from_is_err_and}
use Rattle.sno_io.proofs.Bytes.{appends_then, appends_keeps, begins_take, part_more, length-part}
use Rattle.sno_io.proofs.devices.put.Goals as goal

pub returns-in_err-count-clause-bytes : goal.returns-in_err-count-clause-bytes
returns-in_err-count-clause-bytes g c =
    let p = err_from_is_err_and c.from_residual.result c.from_residual.ensures.1 in
    rw p.1 (
      take c.loop-at.at c.args.bytes.now,
      begins_take c.loop-at.at c.args.bytes.now,
      appends_keeps _ _ _ _ c.loop-at.invariant.taken c.in_err-count.ensures.bytes,
    )

pub returns-then-count-eq0-clause-bytes : goal.returns-then-count-eq0-clause-bytes
returns-then-count-eq0-clause-bytes g c = (
  take (c.loop-at.at + c.in_ok-count.count) c.args.bytes.now,
  begins_take _ c.args.bytes.now,
  rw (part_more c.loop-at.at c.in_ok-count.count c.args.bytes.now)
      (appends_then _ _ _ _ _ c.loop-at.invariant.taken c.in_ok-count.ensures.bytes),
)

pub loop-at-preserved : goal.loop-at-preserved
loop-at-preserved g c = record {
  within = omega (arith, c.in_ok-count.ensures.bound, length-part c.loop-at.at c.args.bytes.now);
  taken = rw (part_more c.loop-at.at c.in_ok-count.count c.args.bytes.now)
      (appends_then _ _ _ _ _ c.loop-at.invariant.taken c.in_ok-count.ensures.bytes);
  sound = grind (arith, c.in_ok-count.ensures.sound);
}
