-- Which cuts are open in a stack, and which of them goals close.
use Rattle.std.specs.Prelude.{ℕ, suc, ◌≡◌, ◌≤◌, List, [], ◌∷◌, ◌++◌, length}
use Rattle.sno_pattern.specs.Pattern.{Pattern, Cut}
use Rattle.sno_pattern.specs.Table.{Node, tree}
use Rattle.sno_match.specs.declared.goal.Goal.{Goal as Numbered}
use Rattle.sno_match.specs.declared.goal.Goal.TheVariants as N
use Rattle.sno_match.specs.declared.goal.Mark.{Mark}
use Rattle.sno_match.specs.declared.goal.Mark.TheVariants.{Enter, Next}
use Rattle.sno_match.specs.Point.{Point}

-- a cut by the steps that were left and the points that stood below its point when it was entered
abbrev pub Scope : Type 0
Scope = ℕ × ℕ

-- those that goals close, the innermost first
abbrev pub closes : List Numbered → List Scope
closes [] = []
closes (N.CloseCut left depth ∷ rest) = (left, depth) ∷ closes rest
closes (goal ∷ rest) = closes rest

abbrev pub opened_at : Pattern → ℕ → ℕ → List Scope
opened_at (Cut p) left depth = (left, depth) ∷ []
opened_at pattern left depth = []

-- the one whose point this is, if it is one's
abbrev pub opened : List Node → List Numbered → Mark → ℕ → List Scope
opened nodes goals Enter depth = []
opened nodes (N.Match id ∷ rest) (Next left) depth = opened_at (tree nodes id.0) left depth
opened nodes goals (Next left) depth = []

-- those whose points stand in a stack, the newest first
abbrev pub opens : List Node → List Point → List Scope
opens nodes [] = []
opens nodes (point ∷ below) = opened nodes point.goals point.mark (length below) ++ opens nodes below

-- each point's goals close just the cuts that stand below it
abbrev pub AllScoped : List Node → List Point → Type 0
AllScoped nodes [] = Unit {0}
AllScoped nodes (point ∷ below) = (closes point.goals ≡ opens nodes below) × AllScoped nodes below

-- the cuts were entered with more and more steps left, the newest with at least so many
abbrev pub RiseFrom : ℕ → List Scope → Type 0
RiseFrom n [] = Unit {0}
RiseFrom n (scope ∷ scopes) = (n ≤ scope.0) × RiseFrom (suc scope.0) scopes

-- the cuts of a stack, where at most so many steps are left
pub record HasCuts (nodes : List Node) (left : ℕ) (points : List Point) : Type 0 where
  pub scoped : AllScoped nodes points
  pub rising : RiseFrom left (opens nodes points)
