-- The lines of an input.
use Rattle.std.specs.Prelude.{◌≡◌, ◌↔◌, ℕ, ◌+◌, ◌<◌, ◌≤◌, ◌==◌, Bool, false, true, List, [], ◌∷◌, ◌++◌, length}
use Rattle.std.specs.Prelude.{take, drop, Option, None, Some, Result, Ok, Err, IsErrOf, OnOk}
use Rattle.std.specs.List.{position_or_len}
use Rattle.std.specs.Io.KnownBytes.{Consumes}
use Rattle.std.specs.declared.vec.Vec.{Vec}
use Rattle.std.specs.declared.alloc.Global.{Global}
use Rattle.sno_io.specs.Devices.{Feed}
use Rattle.sno_io.specs.declared.lines.LineError.{LineError}
use Rattle.sno_io.specs.declared.lines.LineError.TheVariants.{NoMemory, ReadFault, TooLong}

-- ---- the lines of a text

-- what ends a line: a line feed, and no other byte
abbrev pub is_line_feed : ℕ → Bool
is_line_feed byte = byte == 10

-- how many bytes stand before the first line feed, or in all where there is none
abbrev pub line_length : List ℕ → ℕ
line_length text = position_or_len is_line_feed text

-- the first line, without its line feed; the last line may have none
abbrev pub first_line : List ℕ → List ℕ
first_line text = take (line_length text) text

-- what stands behind the first line and its line feed
abbrev pub behind_line : List ℕ → List ℕ
behind_line text = drop (line_length text + 1) text

-- the first line and what stands behind it, or None at the end
abbrev pub next_line : List ℕ → Option (List ℕ × List ℕ)
next_line [] = None
next_line (byte ∷ bytes) = Some (first_line (byte ∷ bytes), behind_line (byte ∷ bytes))

-- ---- what contracts see of `Lines`

-- the bytes that were read and not handed out, whether the reader has told its end, and the error that was answered
pub record Input : Type 0 where
  pub held : List ℕ
  pub told_end : Bool
  pub stopped : Option LineError

-- The answer is the first line of the text, which has at most 1,000,000 bytes, and the rest is behind it; at the end of
-- the text there is none. An error leaves the whole text; the first line is too long only where it has more bytes.
abbrev pub GivesLine : Result (Option (Vec ℕ Global)) LineError → List ℕ → List ℕ → Type 0
GivesLine (Ok None) text rest = (next_line text ≡ None) × (rest ≡ [])
GivesLine (Ok (Some line)) text rest = (next_line text ≡ Some (line.items, rest)) × (length line.items ≤ 1000000)
GivesLine (Err TooLong) text rest = (rest ≡ text) × (1000000 < length (first_line text))
GivesLine (Err ReadFault) text rest = rest ≡ text
GivesLine (Err NoMemory) text rest = rest ≡ text

-- The next line of an input, where the reader has these bytes left before and after. It gave some bytes, none where it
-- had told its end. Whatever may still come behind them, nothing where the end is told, the answer is of all that was
-- held, was given and may come, and what is held then stands behind it.
pub record ReadsLine (before after : Option (List ℕ)) (old new : Input)
    (result : Result (Option (Vec ℕ Global)) LineError) : Type 0 where
  pub given : List ℕ
  pub consumed : Consumes before after given
  pub ended : old.told_end ≡ true → (given ≡ []) × (new.told_end ≡ true)
  pub line : (more : List ℕ) → (new.told_end ≡ true → more ≡ [])
      → GivesLine result (old.held ++ given ++ more) (new.held ++ more)

-- The error that stopped the input is given again, and the input stays as it was.
abbrev pub IsAgain : Input → Input → Result (Option (Vec ℕ Global)) LineError → LineError → Type 0
IsAgain old new result e = (result ≡ Err e) × (new ≡ old)

-- How a call leaves the reader: it has not failed where a line or the end was answered. Where the input had not stopped
-- before, it has failed just where ReadFault was answered, and it tells the end where that was told.
pub record LeavesReader (old new : Input) (feed : Feed)
    (result : Result (Option (Vec ℕ Global)) LineError) : Type 0 where
  pub sound : OnOk result (feed.broken ≡ false)
  pub fault : old.stopped ≡ None → (IsErrOf result ReadFault ↔ (feed.broken ≡ true))
  pub same : old.stopped ≡ None → new.told_end ≡ true → feed.at_end ≡ true
