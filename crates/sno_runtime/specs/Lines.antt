-- The lines that `ways` writes.
use Rattle.std.specs.Prelude.{ℕ, List, [], ◌∷◌, ◌++◌, codes, decimal}
use Rattle.sno_match.specs.declared.event.Pending.{Pending}
use Rattle.sno_match.specs.Search.{Event, Way, Assign, Cursor, Value, Ended, Exhausted, Aborted, Limit, Waiting, CutOff}
use Rattle.sno_runtime.specs.Variables.{text_of_name}

-- an assignment that waits for the end of the match
abbrev pub pending_part : List (List ℕ) → Pending → List ℕ
pending_part symbols p =
    codes " " ++ (text_of_name symbols p.target ++ (codes "=" ++ (decimal p.start ++ (codes "-" ++ decimal p.end))))

abbrev pub pending_parts : List (List ℕ) → List Pending → List ℕ
pending_parts symbols [] = []
pending_parts symbols (p ∷ pending) = pending_part symbols p ++ pending_parts symbols pending

abbrev pub span_of : ℕ → ℕ → List ℕ
span_of start end = codes "way " ++ (decimal start ++ (codes " " ++ decimal end))

-- the line of an event, with its line feed; none of a value, whose expression is evaluated
abbrev pub line_of : List (List ℕ) → Event → List ℕ
line_of symbols (Way start end pending) = span_of start end ++ (pending_parts symbols pending ++ codes "\n")
line_of symbols (Assign target start end) =
    codes "set " ++ (text_of_name symbols target
    ++ (codes " " ++ (decimal start ++ (codes " " ++ (decimal end ++ codes "\n")))))
line_of symbols (Cursor target at) =
    codes "cursor " ++ (text_of_name symbols target ++ (codes " " ++ (decimal at ++ codes "\n")))
line_of symbols (Ended Exhausted) = codes "exhausted\n"
line_of symbols (Ended Aborted) = codes "aborted\n"
line_of symbols (Ended Limit) = codes "limit\n"
line_of symbols (Ended Waiting) = []
line_of symbols (Ended (CutOff mark)) = []
line_of symbols (Value primitive expression) = []
