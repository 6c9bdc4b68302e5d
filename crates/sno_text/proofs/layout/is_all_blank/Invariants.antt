use Rattle.std.proofs.Common.{◌≡◌, drop}
use Rattle.std.specs.List.{list_all}
use Rattle.sno_text.specs.Bytes.{is_blank}
use Rattle.sno_text.proofs.layout.is_all_blank.Given as goal

abbrev pub invariant-loop-byte : goal.invariant-loop-byte
invariant-loop-byte l = list_all is_blank (drop l.byte-index l.bytes) ≡ list_all is_blank l.bytes
