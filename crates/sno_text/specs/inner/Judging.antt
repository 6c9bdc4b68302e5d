-- Words of the private clauses of the reader of programs.
use Rattle.std.specs.Prelude.{◌≡◌, ◌≢◌, ℕ, ◌<◌, ◌≤◌, ◌⊎◌, true, List, [], length, Some, None, slice_get, codes, is_some}
use Rattle.std.specs.declared.vec.Vec.{Vec}
use Rattle.std.specs.declared.alloc.Global.{Global}
use Rattle.sno_text.specs.declared.error.ReadError.{ReadError}
use Rattle.sno_text.specs.declared.error.ReadError.TheVariants.{Syntax, DuplicateLabel, TooLarge}
use Rattle.sno_text.specs.declared.node.Node.{Node}
use Rattle.sno_text.specs.declared.node.Span.{Span}
use Rattle.sno_text.specs.declared.phrase.Phrase.{Phrase}
use Rattle.sno_text.specs.declared.statement.Statement.{Statement}
use Rattle.sno_text.specs.Refusals.{HasOpenLiteral}
use Rattle.sno_text.specs.inner.Parsed.{Extends}
use Rattle.sno_text.specs.Lines as lines
use Rattle.sno_text.specs.Lines.{extents, part}
use Rattle.sno_text.specs.Trees.{Uses}
use Rattle.sno_text.specs.Program.{program_ids, IsStatementOf, IsWithin, IsOptionWithin}
use Rattle.sno_text.specs.inner.Program.{number_of, IsIndex}
use Rattle.sno_text.specs.Statements.{StatementTree}
use Rattle.sno_text.specs.Phrases.{phrase_ids, StandsPhrase, StandsStatement}
use Rattle.sno_text.specs.Programs.{Row, HasLabelled, IsAcceptedAt, Begins, IsTooLargeBytes}

-- What is known of the statements before one: how many there are, and their labels.
pub record Knows (s : List ℕ) (before : List StatementTree) (count : ℕ)
    (entries : List (Vec ℕ Global × ℕ)) : Type 0 where
  pub many : length before ≡ count
  pub sound : (name : List ℕ) → is_some (number_of entries name) ≡ true → HasLabelled s before name
  pub complete : (name : List ℕ) → number_of entries name ≡ None → HasLabelled s before name → ⊥

-- A statement is refused before its grammar is asked.
abbrev pub IsShapeRefused : ℕ → List ℕ → ℕ → ReadError → Type 0
IsShapeRefused count bytes line x =
    Row (100000 ≤ count) (TooLarge line) x
    (Row (HasOpenLiteral bytes) (Syntax line 1) x
    (Row (IsTooLargeBytes bytes) (TooLarge line) x ⊥))

-- It is refused by its labels.
abbrev pub IsLabelRefused : List ℕ → List (Vec ℕ Global × ℕ) → Phrase → ℕ → ReadError → Type 0
IsLabelRefused s entries p line x =
    ((span : Span) × (p.label ≡ Some span) × (is_some (number_of entries (part s span)) ≡ true)
    × (x ≡ DuplicateLabel line))
    ⊎ (((span : Span) → p.label ≡ Some span → number_of entries (part s span) ≡ None)
    × (span : Span) × (p.entry ≡ Some span) × (part s span ≢ codes "END")
    × (number_of entries (part s span) ≡ None) × (x ≡ Syntax line 4))

-- It is accepted, and was read; the nodes that joined the table are parts of it.
pub record Accepts (s : List ℕ) (before : List StatementTree) (span : Span) (old nodes : List Node)
    (p : Phrase) : Type 0 where
  pub tree : StatementTree
  pub accepted : IsAcceptedAt s before span tree
  pub stands : StandsPhrase nodes p tree
  pub used : Uses nodes (length old) (phrase_ids p)

-- A statement lies in a text that isn't too large, whose joined lines are j, and begins in the line of this number.
pub record IsPlaced (s j : List ℕ) (span : Span) (number : ℕ) : Type 0 where
  pub joined : j ≡ lines.joined s
  pub size : length j ≡ length s
  pub small : length s ≤ 4000000
  pub extent : IsWithin span (length s)
  pub line : number ≡ lines.line_of s span

-- A statement was judged and is accepted: there is room for it, its label is new, and its nodes joined the table.
pub record IsJudged (s : List ℕ) (count : ℕ) (entries : List (Vec ℕ Global × ℕ)) (span : Span) (old nodes : List Node)
    (p : Phrase) : Type 0 where
  pub accepted : (before : List StatementTree) → Knows s before count entries → Accepts s before span old nodes p
  pub few : count < 100000
  pub label : IsOptionWithin p.label (length s)
  pub fresh : (name : Span) → p.label ≡ Some name → number_of entries (part s name) ≡ None
  pub extends : Extends (length s) old nodes
  pub room : length nodes ≤ span.end

abbrev pub statement_of : Phrase → ℕ → Statement
statement_of p line = record { line = line; label = p.label; core = p.core; jump = p.jump; entry = p.entry }

-- These statements were read, and end at a place.
pub record IsTabled (s : List ℕ) (ts : List StatementTree) (at : ℕ) (nodes : List Node) (statements : List Statement)
    (entries : List (Vec ℕ Global × ℕ)) : Type 0 where
  pub count : length statements ≡ length ts
  pub room : length nodes ≤ at
  pub extends : Extends (length s) [] nodes
  pub stands : (j : ℕ) (st : Statement) (span : Span) (t : StatementTree) → slice_get statements j ≡ Some st
      → slice_get (extents s) j ≡ Some span → slice_get ts j ≡ Some t → StandsStatement s nodes st span t
  pub sound : (j : ℕ) (st : Statement) → slice_get statements j ≡ Some st → IsStatementOf (length s) (length nodes) st
  pub labels : (j : ℕ) (st : Statement) (t : StatementTree) → slice_get statements j ≡ Some st
      → slice_get ts j ≡ Some t → st.label ≡ t.label
  pub index : IsIndex s statements entries
  pub used : Uses nodes 0 (program_ids statements)

-- The first k statements of the text were read, none of them END.
pub record IsReading (s : List ℕ) (k at : ℕ) (nodes : List Node) (statements : List Statement)
    (entries : List (Vec ℕ Global × ℕ)) : Type 0 where
  pub before : List StatementTree
  pub begins : Begins s before
  pub many : length before ≡ k
  pub tabled : IsTabled s before at nodes statements entries
