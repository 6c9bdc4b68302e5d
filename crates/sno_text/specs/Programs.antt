-- Which texts are programs, and which refusal the others get.
use Rattle.std.specs.Prelude.{◌≡◌, ◌≢◌, ℕ, ◌<◌, ◌≤◌, ◌⊎◌, true, false, List, [], ◌∷◌, ◌++◌, length, take, Some}
use Rattle.std.specs.Prelude.{slice_get, codes}
use Rattle.sno_text.specs.declared.error.ReadError.{ReadError}
use Rattle.sno_text.specs.declared.error.ReadError.TheVariants.{Syntax, DuplicateLabel, NoEnd, TooLarge, NoMemory}
use Rattle.sno_text.specs.declared.node.Span.{Span}
use Rattle.sno_text.specs.Refusals.{HasOpenLiteral, is_deep}
use Rattle.sno_text.specs.Lines.{joined, extents, part, size, line_of}
use Rattle.sno_text.specs.Statements.{StatementTree, IsStatement, statement_fits}

-- At this place of the text stands a statement with this tree.
abbrev pub IsStatementAt : List ℕ → Span → StatementTree → Type 0
IsStatementAt s span t = IsStatement (take span.end (joined s)) span.start t

-- One of the statements has this label.
abbrev pub HasLabelled : List ℕ → List StatementTree → List ℕ → Type 0
HasLabelled s before name = (m : ℕ) × (t : StatementTree) × (span : Span) × (slice_get before m ≡ Some t)
    × (t.label ≡ Some span) × (part s span ≡ name)

-- A row of the table: the refusal x is that of this row if its condition holds, and else that of the rows below.
abbrev pub Row : Type 0 → ReadError → ReadError → Type 0 → Type 0
Row holds refusal x below = (holds × (x ≡ refusal)) ⊎ ((holds → ⊥) × below)

-- an integer is greater than 9223372036854775807
abbrev pub HasLargeInteger : List ℕ → Span → Type 0
HasLargeInteger s span = (t : StatementTree) × IsStatementAt s span t × (statement_fits t ≡ false)

-- an earlier statement has its label
abbrev pub HasDuplicate : List ℕ → List StatementTree → Span → Type 0
HasDuplicate s before span = (t : StatementTree) × (label : Span) × IsStatementAt s span t × (t.label ≡ Some label)
    × HasLabelled s before (part s label)

-- it is END L, and L is no label of the program
abbrev pub HasNoEntry : List ℕ → List StatementTree → Span → Type 0
HasNoEntry s before span =
    (t : StatementTree) × (entry : Span) × IsStatementAt s span t × (t.entry ≡ Some entry)
    × (part s entry ≢ codes "END") × (HasLabelled s before (part s entry) → ⊥)

abbrev pub IsTooLargeBytes : List ℕ → Type 0
IsTooLargeBytes bytes = (8000 < size bytes) ⊎ (is_deep 0 0 bytes ≡ true)

abbrev pub IsTooLargeAt : List ℕ → Span → Type 0
IsTooLargeAt s span = IsTooLargeBytes (part (joined s) span)

-- The refusal of a statement, the statements before it being given: that of the first row that fits.
abbrev pub IsRefusedAt : List ℕ → List StatementTree → Span → ReadError → Type 0
IsRefusedAt s before span x =
    Row (100000 ≤ length before) (TooLarge (line_of s span)) x
    (Row (HasOpenLiteral (part (joined s) span)) (Syntax (line_of s span) 1) x
    (Row (IsTooLargeAt s span) (TooLarge (line_of s span)) x
    (Row ((t : StatementTree) → IsStatementAt s span t → ⊥) (Syntax (line_of s span) 3) x
    (Row (HasLargeInteger s span) (Syntax (line_of s span) 2) x
    (Row (HasDuplicate s before span) (DuplicateLabel (line_of s span)) x
    (Row (HasNoEntry s before span) (Syntax (line_of s span) 4) x ⊥))))))

-- No row fits, and this is the statement's tree: the only one.
pub record IsAcceptedAt (s : List ℕ) (before : List StatementTree) (span : Span) (t : StatementTree) : Type 0 where
  pub few : length before < 100000
  pub closed : HasOpenLiteral (part (joined s) span) → ⊥
  pub small : IsTooLargeAt s span → ⊥
  pub reads : IsStatementAt s span t
  pub only : (u : StatementTree) → IsStatementAt s span u → u ≡ t
  pub fit : statement_fits t ≡ true
  pub fresh : HasDuplicate s before span → ⊥
  pub entry : HasNoEntry s before span → ⊥

-- it is labelled END
abbrev pub IsEndTree : List ℕ → StatementTree → Type 0
IsEndTree s t = (span : Span) × (t.label ≡ Some span) × (part s span ≡ codes "END")

-- These are the first statements of the text, each accepted and none of them END.
pub data Begins (s : List ℕ) : List StatementTree → Type 0 where
  none : {ts : List StatementTree} → ts ≡ [] → Begins s ts
  one_more : {ts us : List StatementTree} {t : StatementTree} {span : Span} → Begins s us
      → slice_get (extents s) (length us) ≡ Some span → IsAcceptedAt s us span t →
      (IsEndTree s t → ⊥) → ts ≡ us ++ t ∷ [] → Begins s ts

-- The text is a program with these statements, END the last.
pub record IsProgram (s : List ℕ) (ts : List StatementTree) : Type 0 where
  pub small : length s ≤ 4000000
  pub before : List StatementTree
  pub last : StatementTree
  pub span : Span
  pub all : ts ≡ before ++ last ∷ []
  pub begins : Begins s before
  pub place : slice_get (extents s) (length before) ≡ Some span
  pub accepted : IsAcceptedAt s before span last
  pub is_end : IsEndTree s last

-- The text is refused so: it is too long, or its first statement that is refused is refused so, or no END ends it.
pub data IsRefusedProgram (s : List ℕ) (x : ReadError) : Type 0 where
  text_too_large : 4000000 < length s → x ≡ TooLarge 0 → IsRefusedProgram s x
  statement : {before : List StatementTree} {span : Span} → length s ≤ 4000000 → Begins s before
      → slice_get (extents s) (length before) ≡ Some span →
      IsRefusedAt s before span x → IsRefusedProgram s x
  no_end : {before : List StatementTree} → length s ≤ 4000000 → Begins s before → length (extents s) ≡ length before
      → x ≡ NoEnd → IsRefusedProgram s x

-- Memory was refused: no text that is too long asks for any.
abbrev pub LacksMemory : List ℕ → ReadError → Type 0
LacksMemory s x = (x ≡ NoMemory) × (length s ≤ 4000000)
