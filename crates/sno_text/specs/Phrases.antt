-- What the readers of whole statements give: words of private clauses, and what a statement of a program stands for.
use Rattle.std.specs.Prelude.{◌≡◌, ◌≢◌, ℕ, ◌+◌, ◌≤◌, List, ◌++◌, length, Option, Some, None, slice_get}
use Rattle.sno_text.specs.declared.node.Node.{Node}
use Rattle.sno_text.specs.declared.node.Span.{Span}
use Rattle.sno_text.specs.declared.phrase.Phrase.{Phrase}
use Rattle.sno_text.specs.declared.statement.Statement.{Statement}
use Rattle.sno_text.specs.Grammar.{IsGap}
use Rattle.sno_text.specs.Statements.{StatementTree, Fall, HasCore, HasJump, statement_fits}
use Rattle.sno_text.specs.Lines.{extents, line_of}
use Rattle.sno_value.specs.declared.ids.ExprId.{ExprId}
use Rattle.sno_text.specs.Trees.{Uses}
use Rattle.sno_text.specs.Program.{Program, core_option_ids, jump_ids, program_ids}
use Rattle.sno_text.specs.Pieces.{StandsCores, StandsJump}

-- [b core] [b goto] [b], behind a label that ends at i
pub record IsRest (s : List ℕ) (given : Option Span) (i : ℕ) (t : StatementTree) : Type 0 where
  pub after_core : ℕ
  pub after_jump : ℕ
  pub label : t.label ≡ given
  pub core : HasCore s i after_core t.core
  pub jump : HasJump s after_core after_jump t.jump
  pub rest : IsGap s after_jump (length s)
  pub entry : t.entry ≡ None
  pub some : t.label ≡ None → t.core ≡ None → t.jump ≢ Fall

-- What was read stands for the statement's tree.
abbrev pub StandsPhrase : List Node → Phrase → StatementTree → Type 0
StandsPhrase table p t = (p.label ≡ t.label) × StandsCores table p.core t.core
    × StandsJump table p.jump t.jump × (p.entry ≡ t.entry)

-- the numbers of the expressions that were read
abbrev pub phrase_ids : Phrase → List ExprId
phrase_ids p = core_option_ids p.core ++ jump_ids p.jump

-- There is one tree of this kind, and it was read.
pub record GivesPhrase (P : StatementTree → Type 0) (n i : ℕ) (old new : List Node) (p : Phrase) : Type 0 where
  pub tree : StatementTree
  pub reads : P tree
  pub only : (u : StatementTree) → P u → u ≡ tree
  pub stands : StandsPhrase new p tree
  pub fits : p.fits ≡ statement_fits tree
  pub room : length new + i ≤ length old + n
  pub used : Uses new (length old) (phrase_ids p)

-- A statement of a program stands for a tree, s being the program's text.
pub record StandsStatement (s : List ℕ) (table : List Node) (st : Statement) (span : Span)
    (t : StatementTree) : Type 0 where
  pub line : st.line ≡ line_of s span
  pub label : st.label ≡ t.label
  pub core : StandsCores table st.core t.core
  pub jump : StandsJump table st.jump t.jump
  pub entry : st.entry ≡ t.entry

-- The statements of a program stand for these trees, in order, and each node of the table is a part of one.
pub record StandsProgram (p : Program) (s : List ℕ) (ts : List StatementTree) : Type 0 where
  pub count : length p.statements ≡ length ts
  pub each : (k : ℕ) (st : Statement) (span : Span) (t : StatementTree) → slice_get p.statements k ≡ Some st
      → slice_get (extents s) k ≡ Some span → slice_get ts k ≡ Some t →
      StandsStatement s p.nodes st span t
  pub used : Uses p.nodes 0 (program_ids p.statements)
