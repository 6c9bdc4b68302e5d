-- What the builders do.
use Rattle.std.specs.Prelude.{ℕ, ◌≡◌, ◌<◌, ◌↔◌, ◌⊎◌, List, [], ◌∷◌, ◌++◌, length, Result, IfOk, IfErr, OnErr, IsErrOf}
use Rattle.sno_value.specs.declared.ids.PatId.{PatId}
use Rattle.sno_pattern.specs.declared.table.BuildError.{BuildError}
use Rattle.sno_pattern.specs.declared.table.BuildError.TheVariants.{Full, NoMemory}
use Rattle.sno_pattern.specs.Pattern.{Pattern}
use Rattle.sno_pattern.specs.Table.{Node, tree}

-- the list had room, and has gained one node at its end, whose number is told; each old number stands for its old tree
abbrev pub Appends : List Node → List Node → Node → PatId → Type 0
Appends old new node id =
    (id.0 ≡ length old) × (new ≡ old ++ node ∷ []) × (length old < 4000000)
    × ((k : ℕ) → k < length old → tree new k ≡ tree old k)

-- The list has gained this node, whose number stands for this pattern; or it is what it was, since it is full or memory
-- was refused.
pub record Builds (node : Node) (pattern : Pattern) (old new : List Node) (result : Result PatId BuildError)
    : Type 0 where
  pub ok : IfOk result (Appends old new node)
  pub stands : IfOk result (λ id. tree new id.0 ≡ pattern)
  pub err : OnErr result (new ≡ old)
  pub full : IsErrOf result Full ↔ (length old ≡ 4000000)
  pub others : IfErr result (λ e. (e ≡ Full) ⊎ (e ≡ NoMemory))
