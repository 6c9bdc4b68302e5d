use Rattle.std.proofs.Common.{◌-◌, length, sym, arith}
use Rattle.sno_pattern.proofs.PlaceLaws.{one_differs}
use Rattle.sno_pattern.proofs.ends.may_begin_with.Goals as goal

pub returns-then-bytes-text-clause-none : goal.returns-then-bytes-text-clause-none
returns-then-bytes-text-clause-none c = λ _.
    one_differs c.args.text.now c.args.bytes.now (length c.args.text.now - 1) (omega (arith, c.if-text-gt1.true)) c.if-bytes-text.true

pub returns-then-bytes-text-clause-short : goal.returns-then-bytes-text-clause-short
returns-then-bytes-text-clause-short c = λ _.
    sym (one_differs c.args.text.now c.args.bytes.now (length c.args.text.now - 1) (omega (arith, c.if-text-gt1.true)) c.if-bytes-text.true)
