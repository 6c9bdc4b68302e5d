-- Words of private clauses: what the readers of the parts of a statement give.
use Rattle.std.specs.Prelude.{◌≡◌, ℕ, ◌+◌, ◌⊎◌, Bool, ◌&&◌, List, ◌++◌, length, Option, Some, None}
use Rattle.sno_text.specs.declared.bytes.Class.TheVariants.{Blank}
use Rattle.sno_text.specs.declared.node.Node.{Node}
use Rattle.sno_text.specs.declared.table.Read.{Read}
use Rattle.sno_text.specs.declared.statement.Target.{Target}
use Rattle.sno_text.specs.declared.statement.Target.TheVariants as targets
use Rattle.sno_text.specs.declared.statement.Jump.TheVariants as jumps
use Rattle.sno_value.specs.declared.ids.ExprId.{ExprId}
use Rattle.sno_text.specs.Bytes.{byte, IsWholeRun}
use Rattle.sno_text.specs.Program.{option_ids, target_ids, target_option_ids}
use Rattle.sno_text.specs.Trees.{Tree}
use Rattle.sno_text.specs.Statements.{TargetTree, HasObject}
use Rattle.sno_text.specs.Statements.{HasTargets, option_fits, target_fits, target_option_fits}
use Rattle.sno_text.specs.declared.goto.Targets.{Targets}
use Rattle.sno_text.specs.declared.body.Object.{Object}
use Rattle.sno_text.specs.Pieces.{Gives, StandsExpression, StandsOption, StandsTarget}

-- After a gap comes the end of the statement.
pub record MeetsEnd (s : List ℕ) (j : ℕ) : Type 0 where
  pub gap : IsWholeRun Blank s j (length s)

-- After a gap comes the end of the statement or ':'.
pub record MeetsColon (s : List ℕ) (j : ℕ) : Type 0 where
  pub at : ℕ
  pub gap : IsWholeRun Blank s j at
  pub here : (at ≡ length s) ⊎ (byte s at ≡ 58)

-- After a gap comes the end of the statement, ':' or '='.
pub record MeetsEquals (s : List ℕ) (j : ℕ) : Type 0 where
  pub at : ℕ
  pub gap : IsWholeRun Blank s j at
  pub here : (at ≡ length s) ⊎ ((byte s at ≡ 58) ⊎ (byte s at ≡ 61))

abbrev pub Anywhere : ℕ → Type 0
Anywhere j = Unit {0}

-- The text has none.
pub record Lacks (V : Type 0) (P : ℕ → V → Type 0) (stops : ℕ → Type 0) : Type 0 where
  pub none : (k : ℕ) (u : V) → P k u → stops k → ⊥

abbrev pub ParsedPiece : (V C : Type 0) → (ℕ → V → Type 0) → (ℕ → Type 0)
    → (List Node → C → V → Type 0) → (C → List ExprId)
    → (V → Bool) → ℕ → ℕ → List Node → List Node → Option (Read C) → Type 0
ParsedPiece V C P stops stands held fit n i old new None = Lacks V P stops
ParsedPiece V C P stops stands held fit n i old new (Some f) = Gives V C P stops stands held fit n i old new f

abbrev pub StandsTargets : List Node → Option Target → Option TargetTree → Type 0
StandsTargets table = StandsOption Target TargetTree (StandsTarget table)

abbrev pub HasObjectPair : List ℕ → ℕ → ℕ → Bool × Option Tree → Type 0
HasObjectPair s i j pair = HasObject s i j pair.0 pair.1

abbrev pub StandsObject : List Node → Object → Bool × Option Tree → Type 0
StandsObject table o pair = (o.equals ≡ pair.0) × StandsExpression table o.object pair.1

abbrev pub object_ids : Object → List ExprId
object_ids o = option_ids o.object

abbrev pub object_fits : Bool × Option Tree → Bool
object_fits pair = option_fits pair.1

abbrev pub HasTargetPair : List ℕ → ℕ → ℕ → ℕ → TargetTree × Option TargetTree → Type 0
HasTargetPair s letter i j pair = HasTargets s letter i j pair.0 pair.1

abbrev pub StandsTargetPair : List Node → Targets → TargetTree × Option TargetTree → Type 0
StandsTargetPair table p pair = StandsTarget table p.first pair.0 × StandsTargets table p.second pair.1

abbrev pub pair_ids : Targets → List ExprId
pair_ids p = target_ids p.first ++ target_option_ids p.second

abbrev pub pair_fits : TargetTree × Option TargetTree → Bool
pair_fits pair = target_fits pair.0 && target_option_fits pair.1
