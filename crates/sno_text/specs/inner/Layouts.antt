-- Words of the private clauses of the layout.
use Rattle.std.specs.Prelude.{ℕ, ◌+◌, ◌≤◌, ◌&&◌, not, Bool, List, [], ◌∷◌, length, if◌then◌else◌, slice_range, filter}
use Rattle.std.specs.List.{list_all}
use Rattle.sno_text.specs.declared.layout.LineKind.{LineKind}
use Rattle.sno_text.specs.declared.layout.LineKind.TheVariants.{Skipped, Continuation, Card}
use Rattle.sno_text.specs.declared.node.Span.{Span}
use Rattle.sno_text.specs.Bytes.{is_blank}
use Rattle.sno_text.specs.Lines.{is_skipped, is_continuation, line_feeds, own, continued, part}

abbrev pub kind_of : Bool → List ℕ → LineKind
kind_of begun content = if is_skipped content then Skipped else if begun && is_continuation content
    then Continuation else Card

-- a line as it is read
abbrev pub read_line : LineKind → List ℕ → List ℕ
read_line Skipped line = line_feeds (length line)
read_line Continuation line = continued line
read_line Card line = own line

abbrev pub part_from : ℕ → List ℕ → ℕ → ℕ → List Span
part_from at card start end = if list_all is_blank (slice_range card start end) then []
    else record { start = at + start; end = at + end } ∷ []

-- the parts of a card that are not of blanks alone
abbrev pub kept : List ℕ → List Span → List Span
kept card spans = filter (λ span. not (list_all is_blank (part card span))) spans

-- Spans that follow one another, from a place on and up to another.
abbrev pub InOrder : ℕ → ℕ → List Span → Type 0
InOrder at to [] = at ≤ to
InOrder at to (span ∷ spans) = (at ≤ span.start) × (span.start ≤ span.end) × InOrder span.end to spans
