use Rattle.sno_runtime.proofs.InputLaws.{range_pushed}
use Rattle.sno_runtime.proofs.runtime.keywords.alphabet.Goals as goal

pub loop-byte-preserved : goal.loop-byte-preserved
loop-byte-preserved c = range_pushed c.loop-byte.byte _ _ c.loop-byte.invariant c.in_ok-push.ensures.items
