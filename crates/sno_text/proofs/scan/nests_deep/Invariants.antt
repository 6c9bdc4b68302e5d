use Rattle.std.proofs.Common.{◌≡◌, ◌≤◌, drop}
use Rattle.sno_text.specs.Refusals.{is_deep}
use Rattle.sno_text.proofs.scan.nests_deep.Given as goal

abbrev pub invariant-loop-byte : goal.invariant-loop-byte
invariant-loop-byte l = (l.depth ≤ 40) × (is_deep l.quote l.depth (drop l.byte-index l.text) ≡ is_deep 0 0 l.text)
