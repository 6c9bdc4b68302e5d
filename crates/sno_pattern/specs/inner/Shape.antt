-- Words of private clauses: what a node shows of itself.
use Rattle.std.specs.Prelude.{ℕ, ◌≡◌, List, Option, None, Some, slice_get}
use Rattle.sno_pattern.specs.Ends.{ends}
use Rattle.sno_pattern.specs.Table.{Node, LeafNode, FenceNode, CutNode, AbortNode, SucceedNode, ArbnoNode, AltNode}
use Rattle.sno_pattern.specs.Table.{CatNode, CondNode, ImmNode, PlaceNode, DeferNode}
use Rattle.sno_pattern.specs.declared.shape.Shape.{Shape}
use Rattle.sno_pattern.specs.declared.shape.Shape.TheVariants as S
use Rattle.sno_pattern.specs.Shape.{expression, pattern}
use Rattle.sno_pattern.specs.Pattern.{Primitive}
use Rattle.sno_pattern.specs.declared.head.Head.{Head}
use Rattle.sno_pattern.specs.declared.head.Head.TheVariants as H

-- the shape of a node
abbrev pub shape_of : Node → Shape
shape_of (LeafNode a) = S.Primitive
shape_of FenceNode = S.Fence
shape_of (CutNode p) = S.Cut (pattern p)
shape_of AbortNode = S.Abort
shape_of SucceedNode = S.Succeed
shape_of (ArbnoNode p) = S.Arbno (pattern p)
shape_of (AltNode p q) = S.Alt (pattern p) (pattern q)
shape_of (CatNode p q) = S.Cat (pattern p) (pattern q)
shape_of (CondNode p target) = S.Cond (pattern p) target
shape_of (ImmNode p target) = S.Imm (pattern p) target
shape_of (PlaceNode target) = S.Cursor target
shape_of (DeferNode None e) = S.Defer (expression e)
shape_of (DeferNode (Some primitive) e) = S.DeferPrim primitive (expression e)

abbrev pub end_of_node : Node → List ℕ → ℕ → ℕ → Option ℕ
end_of_node (LeafNode a) s c i = slice_get (ends a s c) i
end_of_node node s c i = None

-- what a node comes to at a cursor
abbrev pub IsHead : Node → List ℕ → ℕ → Head → Type 0
IsHead node s c (H.Ends first next) =
    (a : Primitive) × (node ≡ LeafNode a) × (end_of_node node s c 0 ≡ first) × (end_of_node node s c 1 ≡ next)
IsHead node s c (H.Other shape) = shape_of node ≡ shape
