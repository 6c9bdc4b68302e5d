-- The lines of a program text, and the statements in them.
use Rattle.std.specs.Prelude.{ℕ, ◌+◌, ◌-◌, ◌==◌, ◌&&◌, ◌||◌, not, Bool, true, false, List, [], ◌∷◌, ◌++◌, length, take}
use Rattle.std.specs.Prelude.{drop, map, filter, replicate, slice_range, if◌then◌else◌}
use Rattle.std.specs.List.{list_all, concat, count_by, prefix_len}
use Rattle.bstr.specs.Text.{lines_of, without_terminator}
use Rattle.sno_text.specs.declared.node.Span.{Span}
use Rattle.sno_text.specs.Bytes.{byte, is_blank}
use Rattle.sno_text.specs.Refusals.{quote_step}

-- A line of blanks alone, a comment, or a control line.
abbrev pub is_skipped : List ℕ → Bool
is_skipped line = list_all is_blank line || (byte line 0 == 42) || (byte line 0 == 45)

-- '+' or '.' in column 1
abbrev pub is_continuation : List ℕ → Bool
is_continuation line = (byte line 0 == 43) || (byte line 0 == 46)

abbrev pub line_feeds : ℕ → List ℕ
line_feeds n = replicate n 10

-- the end of a line, as LFs
abbrev pub end_feeds : List ℕ → List ℕ
end_feeds line = line_feeds (length line - length (without_terminator line))

-- A line as it stands, its end as LFs.
abbrev pub own : List ℕ → List ℕ
own line = without_terminator line ++ end_feeds line

-- A line that continues the one before: its first character is read as one blank.
abbrev pub continued : List ℕ → List ℕ
continued line = 32 ∷ (drop 1 (without_terminator line) ++ end_feeds line)

abbrev pub prepend : List ℕ → List (List ℕ) → List (List ℕ)
prepend bytes [] = bytes ∷ []
prepend bytes (card ∷ cards) = (bytes ++ card) ∷ cards

-- The cards of some lines: a line with those that continue it. Skipped lines read as LFs, which are no bytes of a
-- statement, so that each byte keeps its place; what comes before the first card is LFs alone. begun: there was a card.
abbrev pub cards_from : Bool → List (List ℕ) → List (List ℕ)
cards_from begun [] = [] ∷ []
cards_from begun (line ∷ lines) =
    if is_skipped (without_terminator line) then prepend (line_feeds (length line)) (cards_from begun lines) else
    if begun && is_continuation (without_terminator line) then prepend (continued line) (cards_from true lines) else
    [] ∷ prepend (own line) (cards_from true lines)

abbrev pub cards : List ℕ → List (List ℕ)
cards s = cards_from false (lines_of s)

-- The text with its lines joined: as long as the text, and each byte of a statement in its place.
abbrev pub joined : List ℕ → List ℕ
joined s = concat (cards s)

-- the parts of a card between the ';' outside literals
abbrev pub cut : (quote start at : ℕ) → List ℕ → List Span
cut quote start at [] = record { start = start; end = at } ∷ []
cut quote start at (b ∷ bs) =
    if (b == 59) && (quote == 0) then record { start = start; end = at } ∷ cut 0 (at + 1) (at + 1) bs
    else cut (quote_step quote b) start (at + 1) bs

abbrev pub part : List ℕ → Span → List ℕ
part s span = slice_range s span.start span.end

-- those that are not of blanks alone
abbrev pub statements_of : List ℕ → List Span
statements_of card = filter (λ span. not (list_all is_blank (part card span))) (cut 0 0 0 card)

abbrev pub moved : ℕ → Span → Span
moved n span = record { start = n + span.start; end = n + span.end }

abbrev pub extents_from : ℕ → List (List ℕ) → List Span
extents_from at [] = []
extents_from at (card ∷ cards) = map (moved at) (statements_of card) ++ extents_from (at + length card) cards

-- Where the statements of a text stand in it, those behind END too.
abbrev pub extents : List ℕ → List Span
extents s = extents_from 0 (cards s)

-- How many bytes a statement has: LFs are none.
abbrev pub size : List ℕ → ℕ
size bytes = count_by (λ b. not (b == 10)) bytes

-- The line of a statement, from 1: that of its first byte.
abbrev pub line_of : List ℕ → Span → ℕ
line_of s span = 1 + count_by (λ b. b == 10) (take (span.start + prefix_len (λ b. b == 10) (part (joined s) span)) s)
