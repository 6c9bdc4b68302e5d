-- What the events of a match do.
use Rattle.std.specs.Prelude.{ℕ, pos, ◌-◌, List, take, drop}
use Rattle.sno_match.specs.Search.{Event, Assign, Cursor}
use Rattle.sno_runtime.specs.Values.{Str, Int}
use Rattle.sno_runtime.specs.Action.{Action, gives, and_then}
use Rattle.sno_runtime.specs.Variables.{writes, assigns}
use Rattle.sno_runtime.specs.Lines.{line_of}

-- the bytes of the subject from one place to another
abbrev pub part_of : List ℕ → ℕ → ℕ → List ℕ
part_of subject start end = take (end - start) (drop start subject)

-- `$` sets its target to a part of the subject, and `@` to the cursor; nothing else changes anything
abbrev pub effect : List ℕ → Event → Action Unit
effect subject (Assign target start end) = assigns target (Str (part_of subject start end))
effect subject (Cursor target at) = assigns target (Int (pos at))
effect subject event = gives tt

-- an event's line is written, and then the event takes effect
abbrev pub listed : List ℕ → Event → Action Unit
listed subject event = and_then (λ w. writes (line_of w.symbols event) w) (λ done. effect subject event)
