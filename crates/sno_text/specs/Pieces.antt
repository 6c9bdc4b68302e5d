-- What the readers of the parts of a statement give: words of private clauses only.
use Rattle.std.specs.Prelude.{◌≡◌, ℕ, ◌+◌, ◌≤◌, Bool, List, length, Option, Some, None}
use Rattle.sno_text.specs.declared.node.Node.{Node}
use Rattle.sno_text.specs.declared.table.Read.{Read}
use Rattle.sno_text.specs.declared.statement.Target.{Target}
use Rattle.sno_text.specs.declared.statement.Target.TheVariants as targets
use Rattle.sno_text.specs.declared.statement.Jump.{Jump}
use Rattle.sno_text.specs.declared.statement.Jump.TheVariants as jumps
use Rattle.sno_text.specs.declared.statement.Core.{Core}
use Rattle.sno_value.specs.declared.ids.ExprId.{ExprId}
use Rattle.sno_text.specs.Trees.{Tree, Stands, Uses}
use Rattle.sno_text.specs.Statements.{TargetTree, Label, Computed, JumpTree, Fall, Always, Either, CoreTree}

-- What was read stands for a tree of its kind, of which the text has no other that ends where it may. `held` tells the
-- expressions that it holds; each node that joined the table is a part of one.
pub record Gives (V C : Type 0) (P : ℕ → V → Type 0) (stops : ℕ → Type 0) (standing : List Node → C → V → Type 0)
    (held : C → List ExprId) (fitting : V → Bool) (n i : ℕ) (old new : List Node) (f : Read C) : Type 0 where
  pub tree : V
  pub reads : P f.end tree
  pub only : (k : ℕ) (u : V) → P k u → stops k → (k ≡ f.end) × (u ≡ tree)
  pub stands : standing new f.what tree
  pub fits : f.fits ≡ fitting tree
  pub order : i ≤ f.end
  pub within : f.end ≤ n
  pub room : length new + i ≤ length old + f.end
  pub used : Uses new (length old) (held f.what)

abbrev pub StandsTarget : List Node → Target → TargetTree → Type 0
StandsTarget table (targets.Label span) (Label place) = span ≡ place
StandsTarget table (targets.Computed id) (Computed t) = Stands table id t
StandsTarget table (targets.Label span) (Computed t) = ⊥
StandsTarget table (targets.Computed id) (Label place) = ⊥

abbrev pub StandsOption : (C V : Type 0) → (C → V → Type 0) → Option C → Option V → Type 0
StandsOption C V stands None None = Unit {0}
StandsOption C V stands (Some c) (Some v) = stands c v
StandsOption C V stands None (Some v) = ⊥
StandsOption C V stands (Some c) None = ⊥

abbrev pub StandsJump : List Node → Jump → JumpTree → Type 0
StandsJump table jumps.Fall Fall = Unit {0}
StandsJump table (jumps.Always t) (Always u) = StandsTarget table t u
StandsJump table (jumps.Either a b) (Either c d) = StandsOption Target TargetTree (StandsTarget table) a c
    × StandsOption Target TargetTree (StandsTarget table) b d
StandsJump table jumps.Fall (Always u) = ⊥
StandsJump table jumps.Fall (Either c d) = ⊥
StandsJump table (jumps.Always t) Fall = ⊥
StandsJump table (jumps.Always t) (Either c d) = ⊥
StandsJump table (jumps.Either a b) Fall = ⊥
StandsJump table (jumps.Either a b) (Always u) = ⊥

abbrev pub StandsExpression : List Node → Option ExprId → Option Tree → Type 0
StandsExpression table = StandsOption ExprId Tree (Stands table)

abbrev pub StandsCore : List Node → Core → CoreTree → Type 0
StandsCore table c t = Stands table c.subject t.subject × StandsExpression table c.pattern t.pattern
    × (c.equals ≡ t.equals) × StandsExpression table c.object t.object

abbrev pub StandsCores : List Node → Option Core → Option CoreTree → Type 0
StandsCores table = StandsOption Core CoreTree (StandsCore table)
