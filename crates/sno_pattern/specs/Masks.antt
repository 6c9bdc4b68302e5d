-- What a mask of 256 bits stands for.
use Rattle.std.specs.Prelude.{ℕ, ◌/◌, ◌%◌, ◌==◌, Bool, List, filter, slice_index}
use Rattle.std.specs.Int.{bit_at}
use Rattle.sno_pattern.specs.Ends.{count_from}

-- bit b of four words of 64 bits is set
abbrev pub has_bit : List ℕ → ℕ → Bool
has_bit words b = bit_at (slice_index words (b / 64)) (b % 64) == 1

-- the bytes whose bits are set, in rising order
unfoldable pub members : List ℕ → List ℕ
members words = filter (has_bit words) (count_from 0 256)
