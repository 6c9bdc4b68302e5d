use Rattle.std.proofs.Common.{sym, ◌∙◌}
use Rattle.sno_pattern.proofs.PlaceLaws.{only_at_first}
use Rattle.sno_pattern.proofs.first_bytes.first_byte_of_kind.Goals as goal

pub returns : goal.returns
returns c = λ s place stands.
    only_at_first c.as_slice.result.now s place c.in_ok-byte.byte.now (sym c.in_ok-byte.ensures.value)
    (rw (c.in-Text.is, ← c.as_slice.ensures) at stands)
