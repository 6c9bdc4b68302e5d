-- What a shape says of a number.
use Rattle.std.specs.Prelude.{ℕ, ◌<◌, ◌≤◌, ◌+◌, ◌≡◌, List, Option, None, Some, length, slice_get}
use Rattle.sno_pattern.specs.Pattern.{Pattern, Primitive, Leaf, Fence, Cut, Abort, Succeed, Arbno, Alt, Cat, Cond, Imm}
use Rattle.sno_pattern.specs.Pattern.{Place, Defer}
use Rattle.sno_pattern.specs.Ends.{ends}
use Rattle.sno_pattern.specs.Table.{Node}
use Rattle.sno_pattern.specs.Table.{tree}
use Rattle.sno_value.specs.declared.ids.PatId.{PatId}
use Rattle.sno_value.specs.declared.ids.ExprId.{ExprId}
use Rattle.sno_pattern.specs.declared.shape.Shape.{Shape}
use Rattle.sno_pattern.specs.declared.shape.Shape.TheVariants as S
use Rattle.sno_pattern.specs.declared.head.Head.{Head}
use Rattle.sno_pattern.specs.declared.head.Head.TheVariants as H

-- the head of the tree, and the numbers of its parts
abbrev pub HasShape : List Node → ℕ → Shape → Type 0
HasShape nodes id S.Primitive = (a : Primitive) × (tree nodes id ≡ Leaf a)
HasShape nodes id (S.Cat p q) = (p.0 < id) × (q.0 < id) × (tree nodes id ≡ Cat (tree nodes p.0) (tree nodes q.0))
HasShape nodes id (S.Alt p q) = (p.0 < id) × (q.0 < id) × (tree nodes id ≡ Alt (tree nodes p.0) (tree nodes q.0))
HasShape nodes id (S.Arbno p) = (p.0 < id) × (tree nodes id ≡ Arbno (tree nodes p.0))
HasShape nodes id (S.Cond p target) = (p.0 < id) × (tree nodes id ≡ Cond (tree nodes p.0) target)
HasShape nodes id (S.Imm p target) = (p.0 < id) × (tree nodes id ≡ Imm (tree nodes p.0) target)
HasShape nodes id (S.Cursor target) = tree nodes id ≡ Place target
HasShape nodes id S.Fence = tree nodes id ≡ Fence
HasShape nodes id (S.Cut p) = (p.0 < id) × (tree nodes id ≡ Cut (tree nodes p.0))
HasShape nodes id S.Abort = tree nodes id ≡ Abort
HasShape nodes id S.Succeed = tree nodes id ≡ Succeed
HasShape nodes id (S.Defer expression) = tree nodes id ≡ Defer None expression.0
HasShape nodes id (S.DeferPrim primitive expression) = tree nodes id ≡ Defer (Some primitive) expression.0

abbrev pub pattern : ℕ → PatId
pattern n = record { 0 = n }

abbrev pub expression : ℕ → ExprId
expression n = record { 0 = n }

-- the end with this number of a primitive, in order of trial
abbrev pub end_of : Pattern → List ℕ → ℕ → ℕ → Option ℕ
end_of (Leaf a) s c i = slice_get (ends a s c) i
end_of pattern s c i = None

abbrev pub IsPrimitive : Pattern → Type 0
IsPrimitive pattern = (a : Primitive) × (pattern ≡ Leaf a)

-- what a tree comes to at a cursor: the first two ends of a primitive, or its shape
abbrev pub HasHead : List Node → ℕ → List ℕ → ℕ → Head → Type 0
HasHead nodes id s c (H.Ends first next) =
    IsPrimitive (tree nodes id) × (end_of (tree nodes id) s c 0 ≡ first) × (end_of (tree nodes id) s c 1 ≡ next)
HasHead nodes id s c (H.Other shape) = HasShape nodes id shape

-- the end that a primitive has behind another, or the shape of the tree
abbrev pub GoesOnAs : List Node → ℕ → List ℕ → ℕ → Head → Type 0
GoesOnAs nodes id s last (H.Ends first next) =
    IsPrimitive (tree nodes id)
    × ((c i : ℕ) → c ≤ length s → end_of (tree nodes id) s c i ≡ Some last → end_of (tree nodes id) s c (i + 1) ≡ next)
GoesOnAs nodes id s last (H.Other shape) = HasShape nodes id shape
