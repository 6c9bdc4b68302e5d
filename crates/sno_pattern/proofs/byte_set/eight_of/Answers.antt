use Rattle.std.proofs.Common.{sym, ◌∙◌}
use Rattle.sno_pattern.proofs.EightLaws.{eight_seen, some_bytes}
use Rattle.sno_pattern.proofs.byte_set.eight_of.Goals as goal

pub returns : goal.returns
returns c =
    eight_seen c.loop-byte.eight c.args.bytes.now c.loop-byte.count c.loop-byte.byte-index c.loop-byte.invariant.long
    (some_bytes c.args.bytes.now (sym c.is_empty.ensures ∙ c.if-is_empty.false)) c.loop-byte-test.false c.loop-byte.invariant.seen c.loop-byte.invariant.rest
