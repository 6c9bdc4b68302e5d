-- Syntax trees, and what it means that a number of the flat table stands for one.
use Rattle.std.specs.Prelude.{◌≡◌, ℕ, ◌<◌, ◌≤◌, ◌⊎◌, ◌^◌, List, length, [], ◌∷◌, ◌++◌, Bool, true, ◌&&◌, nat_lt, Some}
use Rattle.std.specs.Prelude.{slice_get, min, pos, ◌-◌, ◌==◌, if◌then◌else◌}
use Rattle.std.specs.List.{AllByRecursion}
use Rattle.std.specs.declared.vec.Vec.{Vec}
use Rattle.std.specs.declared.alloc.Global.{Global}
use Rattle.sno_text.specs.declared.node.Operator.{Operator}
use Rattle.sno_text.specs.declared.node.UnaryOperator.{UnaryOperator}
use Rattle.sno_text.specs.declared.node.UnaryOperator.TheVariants.{Plus, Minus, Indirect, NameOf, Defer, Cursor, Query}
use Rattle.sno_text.specs.declared.node.UnaryOperator.TheVariants.{Not}
use Rattle.sno_text.specs.declared.node.Node.{Node}
use Rattle.sno_text.specs.declared.node.Node.TheVariants as nodes
use Rattle.sno_value.specs.declared.ids.ExprId.{ExprId}

-- the operator of a unary sign: + - $ . * @ ? or else ~
abbrev pub unary_operator : ℕ → UnaryOperator
unary_operator b =
    if b == 43 then Plus else
    if b == 45 then Minus else
    if b == 36 then Indirect else
    if b == 46 then NameOf else
    if b == 42 then Defer else
    if b == 64 then Cursor else
    if b == 63 then Query else Not

-- a token is known by the places where it begins and ends in the text
pub data Tree : Type 0 where
  Variable : (from to : ℕ) → Tree
  Integer : (value : ℕ) → Tree
  Literal : (from to : ℕ) → Tree
  Keyword : (from to : ℕ) → Tree
  Unary : UnaryOperator → Tree → Tree
  Binary : Operator → Tree → Tree → Tree
  -- a name and its arguments
  Call : (from to : ℕ) → Tree → Tree
  Item : (from to : ℕ) → Tree → Tree
  -- arguments: the first one alone, or those before and one more
  One : Tree → Tree
  And : Tree → Tree → Tree

-- each integer is at most 9223372036854775807
abbrev pub fits : Tree → Bool
fits (Variable from to) = true
fits (Integer value) = nat_lt value (2 ^ 63)
fits (Literal from to) = true
fits (Keyword from to) = true
fits (Unary o t) = fits t
fits (Binary o t u) = fits t && fits u
fits (Call from to t) = fits t
fits (Item from to t) = fits t
fits (One t) = fits t
fits (And t u) = fits t && fits u

-- what stands in the table at a number
abbrev pub Holds : List Node → ExprId → Node → Type 0
Holds table id node = slice_get table id.0 ≡ Some node

-- The last of the numbers stands for the tree, all of them for the arguments of a tree of arguments.
-- The numbers of its operands are smaller.
abbrev pub StandsFor : List Node → Tree → List ExprId → Type 0
StandsFor table (Variable from to) ids =
    (id : ExprId) × (ids ≡ id ∷ []) × Holds table id (nodes.Variable (record { start = from; end = to }))
StandsFor table (Integer value) ids =
    (id : ExprId) × (ids ≡ id ∷ []) × Holds table id (nodes.Integer (pos (min value (2 ^ 63 - 1))))
StandsFor table (Literal from to) ids =
    (id : ExprId) × (ids ≡ id ∷ []) × Holds table id (nodes.Literal (record { start = from; end = to }))
StandsFor table (Keyword from to) ids =
    (id : ExprId) × (ids ≡ id ∷ []) × Holds table id (nodes.Keyword (record { start = from; end = to }))
StandsFor table (Unary o t) ids =
    (id a : ExprId) × (ids ≡ id ∷ []) × Holds table id (nodes.Unary o a) × (a.0 < id.0) × StandsFor table t (a ∷ [])
StandsFor table (Binary o t u) ids =
    (id a b : ExprId) × (ids ≡ id ∷ []) × Holds table id (nodes.Binary o a b) × (a.0 < id.0) × (b.0 < id.0)
    × StandsFor table t (a ∷ []) × StandsFor table u (b ∷ [])
StandsFor table (Call from to t) ids =
    (id : ExprId) × (arguments : Vec ExprId Global) × (ids ≡ id ∷ [])
    × Holds table id (nodes.Call (record { start = from; end = to }) arguments)
    × AllByRecursion (λ a. a.0 < id.0) arguments.items × StandsFor table t arguments.items
StandsFor table (Item from to t) ids =
    (id : ExprId) × (arguments : Vec ExprId Global) × (ids ≡ id ∷ [])
    × Holds table id (nodes.Item (record { start = from; end = to }) arguments)
    × AllByRecursion (λ a. a.0 < id.0) arguments.items × StandsFor table t arguments.items
StandsFor table (One t) ids = StandsFor table t ids
StandsFor table (And t u) ids = (before : List ExprId) × (last : ExprId) × (ids ≡ before ++ last ∷ [])
    × StandsFor table t before × StandsFor table u (last ∷ [])

abbrev pub Stands : List Node → ExprId → Tree → Type 0
Stands table id t = StandsFor table t (id ∷ [])

-- the numbers of a node's operands
abbrev pub operands : Node → List ExprId
operands (nodes.Variable span) = []
operands (nodes.Integer value) = []
operands (nodes.Literal span) = []
operands (nodes.Keyword span) = []
operands (nodes.Unary o a) = a ∷ []
operands (nodes.Binary o a b) = a ∷ b ∷ []
operands (nodes.Call span arguments) = arguments.items
operands (nodes.Item span arguments) = arguments.items

abbrev pub IsOneOf : ExprId → List ExprId → Type 0
IsOneOf id [] = ⊥
IsOneOf id (a ∷ ids) = (id ≡ a) ⊎ IsOneOf id ids

-- Number k is a part of the trees that these numbers stand for: it is one of them, or a part of the operands of one.
pub data IsPart (table : List Node) (k : ℕ) : List ExprId → Type 0 where
  whole : {ids : List ExprId} (id : ExprId) → IsOneOf id ids → id.0 ≡ k → IsPart table k ids
  operand : {ids : List ExprId} (id : ExprId) (node : Node) → IsOneOf id ids → Holds table id node
      → IsPart table k (operands node) → IsPart table k ids

-- Each node of the table from a number on is a part of these trees: none is left behind.
pub record Uses (table : List Node) (from : ℕ) (ids : List ExprId) : Type 0 where
  pub each : (k : ℕ) → from ≤ k → k < length table → IsPart table k ids
