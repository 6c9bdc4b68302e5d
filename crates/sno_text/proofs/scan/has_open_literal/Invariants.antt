use Rattle.std.proofs.Common.{◌≡◌, drop}
use Rattle.sno_text.specs.Refusals.{has_open_literal}
use Rattle.sno_text.proofs.scan.has_open_literal.Given as goal

abbrev pub invariant-loop-byte : goal.invariant-loop-byte
invariant-loop-byte l = has_open_literal l.quote (drop l.byte-index l.text) ≡ has_open_literal 0 l.text
