-- The nodes that the stored kinds stand for, and what a table keeps of them. Private contracts alone cite it.
use Rattle.std.specs.Prelude.{ℕ, ◌<◌, ◌≤◌, Bool, true, false, ◌&&◌, ◌↔◌, List, length, map, get_or, None, Some, IsTrue, IfSome}
use Rattle.sno_pattern.specs.Pattern.{Pattern, Text, Counted, Among, Arb, Bal, Rem, Fail, IsQuiet}
use Rattle.sno_pattern.specs.Table.{Node, LeafNode, FenceNode, CutNode, AbortNode, SucceedNode, ArbnoNode, AltNode}
use Rattle.sno_pattern.specs.Table.{CatNode, CondNode, ImmNode, PlaceNode, DeferNode, tree}
use Rattle.sno_pattern.specs.Places.{BeginsWith}
use Rattle.sno_pattern.specs.Masks.{members}
use Rattle.sno_pattern.specs.inner.Table.{AllParts}
use Rattle.sno_pattern.specs.declared.kind.Kind.{Kind}
use Rattle.sno_pattern.specs.declared.kind.Kind.TheVariants as K
use Rattle.sno_pattern.specs.declared.kind.Entry.{Entry}

abbrev pub node_of : Kind → Node
node_of (K.Text bytes) = LeafNode (Text bytes)
node_of (K.Counted prim n) = LeafNode (Counted prim n)
node_of (K.Among prim set) = LeafNode (Among prim set)
node_of K.Arb = LeafNode Arb
node_of K.Bal = LeafNode Bal
node_of K.Rem = LeafNode Rem
node_of K.Fail = LeafNode Fail
node_of K.Fence = FenceNode
node_of (K.Cut p) = CutNode p.0
node_of K.Abort = AbortNode
node_of K.Succeed = SucceedNode
node_of (K.Arbno p) = ArbnoNode p.0
node_of (K.Alt p q begins) = AltNode p.0 q.0
node_of (K.Cat p q) = CatNode p.0 q.0
node_of (K.Cond p target) = CondNode p.0 target
node_of (K.Imm p target) = ImmNode p.0 target
node_of (K.Cursor target) = PlaceNode target
node_of (K.Defer e) = DeferNode None e.0
node_of (K.DeferPrim prim e) = DeferNode (Some prim) e.0

abbrev pub nodes_of : List Entry → List Node
nodes_of entries = map (λ entry. node_of entry.kind) entries

abbrev pub flags_of : List Entry → List Bool
flags_of entries = map (λ entry. entry.quiet) entries

-- whether a node is quiet, by the flags of its parts
abbrev pub quiet_over : List Bool → Node → Bool
quiet_over flags (LeafNode a) = true
quiet_over flags FenceNode = false
quiet_over flags (CutNode p) = get_or flags p false
quiet_over flags AbortNode = false
quiet_over flags SucceedNode = false
quiet_over flags (ArbnoNode p) = get_or flags p false
quiet_over flags (AltNode p q) = get_or flags p false && get_or flags q false
quiet_over flags (CatNode p q) = get_or flags p false && get_or flags q false
quiet_over flags (CondNode p target) = get_or flags p false
quiet_over flags (ImmNode p target) = get_or flags p false
quiet_over flags (PlaceNode target) = true
quiet_over flags (DeferNode primitive expression) = false

-- the bytes that are kept with a choice are those with which its tree begins
abbrev pub IsBegun : Kind → Pattern → Type 0
IsBegun (K.Alt p q begins) pattern = IfSome begins.steps (λ steps. BeginsWith (members begins.words) steps pattern)
IsBegun kind pattern = Unit {0}

-- not too many, each names parts before it, and each flag says whether the tree is quiet, and the bytes that are
-- kept with a choice are its first
pub record IsTable (entries : List Entry) : Type 0 where
  pub room : length entries ≤ 4000000
  pub parts : AllParts 0 (nodes_of entries)
  pub quiet : (id : ℕ) → id < length entries → IsTrue (get_or (flags_of entries) id false) ↔ IsQuiet
      (tree (nodes_of entries) id)
  pub begins : (id : ℕ) (other : Entry) → id < length entries → IsBegun (get_or entries id other).kind
      (tree (nodes_of entries) id)
