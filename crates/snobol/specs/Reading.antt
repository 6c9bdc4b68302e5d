-- A pattern's text, and the table of nodes that it is read into.
use Rattle.std.specs.Prelude.{◌≡◌, ◌<◌, List, [], ◌∷◌, ℕ, length}
use Rattle.sno_value.specs.declared.ids.ExprId.{ExprId}
use Rattle.sno_text.specs.Program.{Program, IsTable}
use Rattle.sno_text.specs.Trees.{Tree, Stands, Uses}
use Rattle.sno_text.specs.Refusals.{IsAccepted, IsRefused}
use Rattle.sno_text.specs.declared.error.ReadError.{ReadError}
use Rattle.sno_text.specs.declared.error.ReadError.TheVariants.{NoMemory}

-- the text is accepted, and the number of the table stands for its tree, of which each node is a part; there are no
-- statements, and so no label
pub record IsRead (text : List ℕ) (program : Program) (e : ExprId) : Type 0 where
  pub tree : Tree
  pub accepted : IsAccepted text tree
  pub stands : Stands program.nodes e tree
  pub used : Uses program.nodes 0 (e ∷ [])
  pub program_text : program.text ≡ text
  pub number : e.0 < length program.nodes
  pub table : IsTable (length program.text) program.nodes
  pub statements : program.statements ≡ []

-- Why a pattern's text is refused; want of memory is no refusal.
abbrev pub IsRefusal : List ℕ → ReadError → Type 0
IsRefusal text NoMemory = ⊥
IsRefusal text error = IsRefused text error
