-- Where a string keeps its bytes. These words are private to the crate.
use Rattle.std.specs.Prelude.{ℕ, ◌<◌, ◌≤◌, List, length, slice_range, take}
use Rattle.sno_value.specs.declared.text.Held.{Held}
use Rattle.sno_value.specs.declared.text.Held.TheVariants.{Here, Shared}

abbrev pub bytes_of : Held → List ℕ
bytes_of (Here count bytes) = take count bytes
bytes_of (Shared block start end) = slice_range block.value.items start end

-- the bytes are there
abbrev pub IsHeld : Held → Type 0
IsHeld (Here count bytes) = count ≤ 22
IsHeld (Shared block start end) = (start ≤ end) × (end ≤ length block.value.items) × (end < 4_294_967_296)
