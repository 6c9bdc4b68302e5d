use Rattle.std.proofs.Common.{◌-◌, length, sym, arith}
use Rattle.sno_pattern.proofs.PlaceLaws.{one_differs}
use Rattle.sno_pattern.proofs.ends.begins_with.Goals as goal

pub returns-then-bytes-text : goal.returns-then-bytes-text
returns-then-bytes-text c =
    sym (one_differs c.args.text.now c.args.bytes.now (length c.args.text.now - 1) (omega (arith, c.if-text-gt1.true)) c.if-bytes-text.true)
