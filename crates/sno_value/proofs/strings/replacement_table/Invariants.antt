use Rattle.std.proofs.Common.{◌≡◌, ℕ, ◌<◌, length, slice_index, take}
use Rattle.sno_value.specs.Strings.{replacement}
use Rattle.sno_value.proofs.strings.replacement_table.Given as goal

abbrev pub invariant-loop-byte : goal.invariant-loop-byte
invariant-loop-byte l = (length l.table ≡ 256) × ((k : ℕ) → k < l.byte → slice_index l.table k ≡ k)

abbrev pub invariant-loop-old : goal.invariant-loop-old
invariant-loop-old l =
    (length l.table ≡ 256)
    × ((byte : ℕ) → byte < 256 → slice_index l.table byte ≡ replacement (take (length l.yielded) l.from) (take (length l.yielded) l.to) byte)
