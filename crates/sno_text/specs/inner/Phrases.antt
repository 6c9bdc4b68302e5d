-- Words of private clauses: what the readers of whole statements give.
use Rattle.std.specs.Prelude.{◌≡◌, ℕ, ◌≤◌, List, length, Option, Some, None}
use Rattle.sno_text.specs.declared.node.Node.{Node}
use Rattle.sno_text.specs.declared.node.Span.{Span}
use Rattle.sno_text.specs.declared.phrase.Phrase.{Phrase}
use Rattle.sno_text.specs.Grammar.{IsGap}
use Rattle.sno_text.specs.Statements.{StatementTree, Fall, HasEntry, IsStatement}
use Rattle.sno_text.specs.inner.Pieces.{MeetsEnd}
use Rattle.sno_text.specs.declared.table.Read.{Read}
use Rattle.sno_text.specs.Phrases.{GivesPhrase, IsRest}

abbrev pub PhraseOutcome : (StatementTree → Type 0) → ℕ → ℕ → List Node → List Node → Option Phrase → Type 0
PhraseOutcome P n i old new None = (u : StatementTree) → P u → ⊥
PhraseOutcome P n i old new (Some p) = GivesPhrase P n i old new p

abbrev pub PlainOutcome : List ℕ → Option Span → ℕ → List Node → List Node → Option Phrase → Type 0
PlainOutcome s label i old new = PhraseOutcome (IsRest s label i) (length s) i old new

abbrev pub StatementOutcome : List ℕ → ℕ → List Node → List Node → Option Phrase → Type 0
StatementOutcome s i old new = PhraseOutcome (IsStatement s i) (length s) i old new

-- [b label] [b], behind END
pub record IsEndRest (s : List ℕ) (given : Span) (t : StatementTree) : Type 0 where
  pub after_entry : ℕ
  pub label : t.label ≡ Some given
  pub entry : HasEntry s given.end after_entry t.entry
  pub rest : IsGap s after_entry (length s)
  pub core : t.core ≡ None
  pub jump : t.jump ≡ Fall

-- [b label] was read, and there is no other that ends where the statement does.
pub record FindsEntry (s : List ℕ) (i : ℕ) (f : Read (Option Span)) : Type 0 where
  pub reads : HasEntry s i f.end f.what
  pub only : (k : ℕ) (u : Option Span) → HasEntry s i k u → MeetsEnd s k → (k ≡ f.end) × (u ≡ f.what)
  pub order : i ≤ f.end
  pub within : f.end ≤ length s

abbrev pub EndOutcome : List ℕ → Span → Option Phrase → Type 0
EndOutcome s label found =
    (table : List Node) → PhraseOutcome (IsEndRest s label) (length s) label.end table table found
