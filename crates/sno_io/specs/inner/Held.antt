-- What the view of `Lines` and private contracts read of the bytes that are held.
use Rattle.std.specs.Prelude.{◌≡◌, ◌⊎◌, ℕ, ◌-◌, ◌<◌, true, List, [], ◌++◌, length, slice_range, vec_len, Option}
use Rattle.std.specs.Io.KnownBytes.{Consumes}
use Rattle.sno_io.specs.declared.buffer.Buffer.{Buffer}
use Rattle.sno_io.specs.Lines.{Input}

-- the bytes that a buffer holds
abbrev pub held_in : Buffer → List ℕ
held_in buffer = slice_range buffer.bytes.items buffer.start buffer.end

-- how many bytes have room behind them
abbrev pub room_in : Buffer → ℕ
room_in buffer = vec_len buffer.bytes - buffer.end

-- what the reader gave has joined what was held; it gave nothing where it had told its end
pub record Joins (before after : Option (List ℕ)) (old new : Input) : Type 0 where
  pub given : List ℕ
  pub consumed : Consumes before after given
  pub joined : new.held ≡ old.held ++ given
  pub ended : old.told_end ≡ true → (given ≡ []) × (new.told_end ≡ true)

-- nothing more has to be read, where so many bytes stand before the first line feed that is held, or in all
abbrev pub IsSettled : ℕ → Input → Type 0
IsSettled len reading = (len < length reading.held) ⊎ (1000000 < len) ⊎ (reading.told_end ≡ true)
