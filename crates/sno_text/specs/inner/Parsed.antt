-- What a function of the reader gives: the private clauses in one word each.
use Rattle.std.specs.Prelude.{◌≡◌, ℕ, ◌+◌, ◌<◌, ◌≤◌, ◌==◌, if◌then◌else◌, Bool, List, [], ◌∷◌, ◌++◌, length, Option}
use Rattle.std.specs.Prelude.{Some, None, slice_get}
use Rattle.sno_text.specs.declared.table.Found.{Found}
use Rattle.sno_text.specs.declared.table.FoundList.{FoundList}
use Rattle.sno_value.specs.declared.ids.ExprId.{ExprId}
use Rattle.sno_text.specs.declared.node.Node.{Node}
use Rattle.sno_text.specs.declared.node.Node.TheVariants as nodes
use Rattle.sno_text.specs.declared.node.Span.{Span}
use Rattle.std.specs.declared.vec.Vec.{Vec}
use Rattle.std.specs.declared.alloc.Global.{Global}
use Rattle.sno_text.specs.Trees.{Tree, fits, StandsFor, Uses}
use Rattle.sno_text.specs.Grammar.{Nonterminal, Argument, Arguments}
use Rattle.sno_text.specs.Program.{OperandsBelow, SpansWithin, IsNamed}
use Rattle.sno_text.specs.inner.Links.{Finds, Refuses, Grows, Lists, Shuts, Closes}

-- the node of a name with arguments in brackets
abbrev pub applied_node : ℕ → Span → Vec ExprId Global → Node
applied_node opening span ids = if opening == 40 then nodes.Call span ids else nodes.Item span ids

-- A node that may stand in the table at a number, n being the length of the text.
pub record IsSound (n id : ℕ) (node : Node) : Type 0 where
  pub operands : OperandsBelow node id
  pub spans : SpansWithin node n
  pub named : IsNamed node

-- The table has grown, or is as it was.
pub record Grown (old new : List Node) : Type 0 where
  pub more : List Node
  pub is : new ≡ old ++ more

-- It has grown by sound nodes.
pub data Extends (n : ℕ) (old new : List Node) : Type 0 where
  extended : Grown old new
      → ((id : ℕ) (node : Node) → length old ≤ id → slice_get new id ≡ Some node → IsSound n id node)
      → Extends n old new

-- What was found has a tree; its number stands for the tree; it lies in the text; each byte of it gave one node at
-- most, and each of these nodes is a part of the tree.
pub record Gives (s : List ℕ) (p : Nonterminal) (stops : ℕ → Type 0) (i : ℕ) (old new : List Node)
    (f : Found) : Type 0 where
  pub tree : Tree
  pub finds : Finds s p stops i f.end tree
  pub stands : StandsFor new tree (f.id ∷ [])
  pub fit : f.fits ≡ fits tree
  pub some : i < f.end
  pub within : f.end ≤ length s
  pub room : length new + i ≤ length old + f.end
  pub used : Uses new (length old) (f.id ∷ [])

abbrev pub Parsed : List ℕ → Nonterminal → (ℕ → Type 0) → ℕ → List Node → List Node → Option Found → Type 0
Parsed s p stops i old new None = Refuses s p stops i
Parsed s p stops i old new (Some f) = Gives s p stops i old new f

-- The operands so far.
pub record Growing (s : List ℕ) (level i : ℕ) (old new : List Node) (f : Found) : Type 0 where
  pub tree : Tree
  pub grows : Grows s level i f.end tree
  pub stands : StandsFor new tree (f.id ∷ [])
  pub fit : f.fits ≡ fits tree
  pub some : i < f.end
  pub within : f.end ≤ length s
  pub room : length new + i ≤ length old + f.end
  pub used : Uses new (length old) (f.id ∷ [])

-- An argument may be empty; it gave one node more than bytes at most.
pub record GivesArgument (s : List ℕ) (i : ℕ) (old new : List Node) (f : Found) : Type 0 where
  pub tree : Tree
  pub finds : Finds s Argument (Closes s) i f.end tree
  pub stands : StandsFor new tree (f.id ∷ [])
  pub fit : f.fits ≡ fits tree
  pub order : i ≤ f.end
  pub within : f.end ≤ length s
  pub room : length new + i ≤ length old + f.end + 1
  pub used : Uses new (length old) (f.id ∷ [])

abbrev pub ParsedArgument : List ℕ → ℕ → List Node → List Node → Option Found → Type 0
ParsedArgument s i old new None = Refuses s Argument (Closes s) i
ParsedArgument s i old new (Some f) = GivesArgument s i old new f

pub record GivesList (s : List ℕ) (i : ℕ) (old new : List Node) (ids : List ExprId) (end : ℕ) (ok : Bool) : Type 0 where
  pub tree : Tree
  pub finds : Finds s Arguments (Shuts s) i end tree
  pub stands : StandsFor new tree ids
  pub fit : ok ≡ fits tree
  pub order : i ≤ end
  pub within : end ≤ length s
  pub room : length new + i ≤ length old + end + 1
  pub used : Uses new (length old) ids

-- The arguments so far.
pub record Listing (s : List ℕ) (i : ℕ) (old new : List Node) (ids : List ExprId) (end : ℕ) (ok : Bool) : Type 0 where
  pub tree : Tree
  pub lists : Lists s i end tree
  pub stands : StandsFor new tree ids
  pub fit : ok ≡ fits tree
  pub order : i ≤ end
  pub within : end ≤ length s
  pub room : length new + i ≤ length old + end + 1
  pub used : Uses new (length old) ids

abbrev pub ParsedList : List ℕ → ℕ → List Node → List Node → Option FoundList → Type 0
ParsedList s i old new None = Refuses s Arguments (Shuts s) i
ParsedList s i old new (Some f) = GivesList s i old new f.ids.items f.end f.fits
