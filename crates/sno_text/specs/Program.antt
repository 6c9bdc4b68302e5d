-- What contracts see of a program: its text, its table of nodes and its statements.
use Rattle.std.specs.Prelude.{◌≡◌, ◌<◌, ◌≤◌, ◌+◌, ℕ, List, [], ◌∷◌, ◌++◌, Option, Some, None, slice_get}
use Rattle.std.specs.Prelude.{slice_range}
use Rattle.sno_text.specs.declared.statement.Statement.{Statement}
use Rattle.sno_text.specs.declared.statement.Core.{Core}
use Rattle.sno_text.specs.declared.statement.Jump.{Jump}
use Rattle.sno_text.specs.declared.statement.Jump.TheVariants.{Fall, Always, Either}
use Rattle.sno_text.specs.declared.statement.Target.{Target}
use Rattle.sno_text.specs.declared.statement.Target.TheVariants as targets
use Rattle.sno_value.specs.declared.ids.ExprId.{ExprId}
use Rattle.std.specs.List.{AllByRecursion}
use Rattle.sno_text.specs.declared.node.Node.{Node}
use Rattle.sno_text.specs.declared.node.Node.TheVariants.{Variable, Integer, Literal, Keyword, Unary, Binary, Call}
use Rattle.sno_text.specs.declared.node.Node.TheVariants.{Item}
use Rattle.sno_text.specs.declared.node.Span.{Span}

pub record Program : Type 0 where
  pub text : List ℕ
  pub nodes : List Node
  pub statements : List Statement

-- The operands of a node have smaller numbers than n.
abbrev pub OperandsBelow : Node → ℕ → Type 0
OperandsBelow (Variable span) n = Unit {0}
OperandsBelow (Integer value) n = Unit {0}
OperandsBelow (Literal span) n = Unit {0}
OperandsBelow (Keyword span) n = Unit {0}
OperandsBelow (Unary o a) n = a.0 < n
OperandsBelow (Binary o a b) n = (a.0 < n) × (b.0 < n)
OperandsBelow (Call span arguments) n = AllByRecursion (λ a. a.0 < n) arguments.items
OperandsBelow (Item span arguments) n = AllByRecursion (λ a. a.0 < n) arguments.items

-- A span lies in a text of this length.
abbrev pub IsWithin : Span → ℕ → Type 0
IsWithin span n = (span.start ≤ span.end) × (span.end ≤ n)

-- So does the span of a node, where it has one.
abbrev pub SpansWithin : Node → ℕ → Type 0
SpansWithin (Variable span) n = IsWithin span n
SpansWithin (Integer value) n = Unit {0}
SpansWithin (Literal span) n = IsWithin span n
SpansWithin (Keyword span) n = IsWithin span n
SpansWithin (Unary o a) n = Unit {0}
SpansWithin (Binary o a b) n = Unit {0}
SpansWithin (Call span arguments) n = IsWithin span n
SpansWithin (Item span arguments) n = IsWithin span n

-- The name of a node, where it has one, is not null.
abbrev pub IsNamed : Node → Type 0
IsNamed (Variable span) = span.start < span.end
IsNamed (Integer value) = Unit {0}
IsNamed (Literal span) = Unit {0}
IsNamed (Keyword span) = Unit {0}
IsNamed (Unary o a) = Unit {0}
IsNamed (Binary o a b) = Unit {0}
IsNamed (Call span arguments) = span.start < span.end
IsNamed (Item span arguments) = span.start < span.end

-- Each node of the table has operands with smaller numbers than its own, spans in a text of length n, and a name that
-- is not null where it has one.
pub record IsTable (n : ℕ) (nodes : List Node) : Type 0 where
  pub operands : (id : ℕ) (node : Node) → slice_get nodes id ≡ Some node → OperandsBelow node id
  pub spans : (id : ℕ) (node : Node) → slice_get nodes id ≡ Some node → SpansWithin node n
  pub named : (id : ℕ) (node : Node) → slice_get nodes id ≡ Some node → IsNamed node

-- Where it is there, a span lies in a text of length n.
abbrev pub IsOptionWithin : Option Span → ℕ → Type 0
IsOptionWithin None n = Unit {0}
IsOptionWithin (Some span) n = IsWithin span n

-- Where it is there, a number is of a table of m nodes.
abbrev pub IsOptionBelow : Option ExprId → ℕ → Type 0
IsOptionBelow None m = Unit {0}
IsOptionBelow (Some id) m = id.0 < m

abbrev pub IsTargetOf : ℕ → ℕ → Target → Type 0
IsTargetOf n m (targets.Label span) = IsWithin span n
IsTargetOf n m (targets.Computed id) = id.0 < m

abbrev pub IsTargetOptionOf : ℕ → ℕ → Option Target → Type 0
IsTargetOptionOf n m None = Unit {0}
IsTargetOptionOf n m (Some t) = IsTargetOf n m t

abbrev pub IsJumpOf : ℕ → ℕ → Jump → Type 0
IsJumpOf n m Fall = Unit {0}
IsJumpOf n m (Always t) = IsTargetOf n m t
IsJumpOf n m (Either t u) = IsTargetOptionOf n m t × IsTargetOptionOf n m u

abbrev pub IsCoreOf : ℕ → Option Core → Type 0
IsCoreOf m None = Unit {0}
IsCoreOf m (Some c) = (c.subject.0 < m) × IsOptionBelow c.pattern m × IsOptionBelow c.object m

-- The spans of a statement lie in a text of length n, and its expressions are of a table of m nodes.
pub record IsStatementOf (n m : ℕ) (st : Statement) : Type 0 where
  pub label : IsOptionWithin st.label n
  pub core : IsCoreOf m st.core
  pub jump : IsJumpOf n m st.jump
  pub entry : IsOptionWithin st.entry n

-- the numbers of the expressions that a part of a statement holds
abbrev pub option_ids : Option ExprId → List ExprId
option_ids None = []
option_ids (Some id) = id ∷ []

abbrev pub target_ids : Target → List ExprId
target_ids (targets.Label span) = []
target_ids (targets.Computed id) = id ∷ []

abbrev pub target_option_ids : Option Target → List ExprId
target_option_ids None = []
target_option_ids (Some t) = target_ids t

abbrev pub jump_ids : Jump → List ExprId
jump_ids Fall = []
jump_ids (Always t) = target_ids t
jump_ids (Either t u) = target_option_ids t ++ target_option_ids u

abbrev pub core_ids : Core → List ExprId
core_ids c = c.subject ∷ (option_ids c.pattern ++ option_ids c.object)

abbrev pub core_option_ids : Option Core → List ExprId
core_option_ids None = []
core_option_ids (Some c) = core_ids c

abbrev pub statement_ids : Statement → List ExprId
statement_ids st = core_option_ids st.core ++ jump_ids st.jump

-- and those that statements hold
abbrev pub program_ids : List Statement → List ExprId
program_ids [] = []
program_ids (st ∷ sts) = statement_ids st ++ program_ids sts

-- Statement n, counted from 1, has this label.
abbrev pub IsLabelled : List ℕ → List Statement → List ℕ → ℕ → Type 0
IsLabelled text statements name n =
    (k : ℕ) × (st : Statement) × (span : Span) × (n ≡ k + 1)
    × (slice_get statements k ≡ Some st) × (st.label ≡ Some span)
    × (slice_range text span.start span.end ≡ name)
