-- What stands for a part of a statement stays as the table grows.
use Rattle.std.proofs.Common.{ℕ, List, Some, None, Option}
use Rattle.sno_value.specs.declared.ids.ExprId.{ExprId}
use Rattle.sno_text.specs.declared.node.Node.{Node}
use Rattle.sno_text.specs.declared.statement.Target.{Target}
use Rattle.sno_text.specs.declared.statement.Target.TheVariants as targets
use Rattle.sno_text.specs.declared.statement.Jump.{Jump}
use Rattle.sno_text.specs.declared.statement.Jump.TheVariants as jumps
use Rattle.sno_text.specs.declared.statement.Core.{Core}
use Rattle.sno_text.specs.Trees.{Tree, Stands}
use Rattle.sno_text.specs.inner.Parsed.{Extends}
use Rattle.sno_text.specs.Statements.{TargetTree, Label, Computed, JumpTree, Fall, Always, Either, CoreTree}
use Rattle.sno_text.specs.Pieces.{StandsTarget, StandsJump, StandsExpression, StandsCore, StandsCores}
use Rattle.sno_text.specs.inner.Pieces.{StandsTargets}
use Rattle.sno_text.proofs.Tables.{grown_of, stands_more}

pub stands_kept : {n : ℕ} {old new : List Node} (id : ExprId) (t : Tree) → Extends n old new → Stands old id t → Stands new id t
stands_kept {old = old} {new = new} id t x h = stands_more old new t _ (grown_of x) h

pub stands_target_more : {n : ℕ} {old new : List Node} (c : Target) (t : TargetTree) → Extends n old new → StandsTarget old c t → StandsTarget new c t
stands_target_more (targets.Label span) (Label place) x h = h
stands_target_more (targets.Computed id) (Computed u) x h = stands_kept id u x h
stands_target_more (targets.Label span) (Computed u) x h = absurd h
stands_target_more (targets.Computed id) (Label place) x h = absurd h

pub stands_targets_more : {n : ℕ} {old new : List Node} (c : Option Target) (t : Option TargetTree) → Extends n old new
    → StandsTargets old c t → StandsTargets new c t
stands_targets_more None None x h = h
stands_targets_more (Some a) (Some b) x h = stands_target_more a b x h
stands_targets_more None (Some b) x h = absurd h
stands_targets_more (Some a) None x h = absurd h

pub stands_expression_more : {n : ℕ} {old new : List Node} (c : Option ExprId) (t : Option Tree) → Extends n old new → StandsExpression old c t
    → StandsExpression new c t
stands_expression_more None None x h = h
stands_expression_more (Some a) (Some b) x h = stands_kept a b x h
stands_expression_more None (Some b) x h = absurd h
stands_expression_more (Some a) None x h = absurd h

pub stands_jump_more : {n : ℕ} {old new : List Node} (c : Jump) (t : JumpTree) → Extends n old new → StandsJump old c t → StandsJump new c t
stands_jump_more jumps.Fall Fall x h = h
stands_jump_more (jumps.Always a) (Always b) x h = stands_target_more a b x h
stands_jump_more (jumps.Either a b) (Either d e) x h = (stands_targets_more a d x h.0, stands_targets_more b e x h.1)
stands_jump_more jumps.Fall (Always b) x h = absurd h
stands_jump_more jumps.Fall (Either d e) x h = absurd h
stands_jump_more (jumps.Always a) Fall x h = absurd h
stands_jump_more (jumps.Always a) (Either d e) x h = absurd h
stands_jump_more (jumps.Either a b) Fall x h = absurd h
stands_jump_more (jumps.Either a b) (Always d) x h = absurd h

pub stands_core_more : {n : ℕ} {old new : List Node} (c : Core) (t : CoreTree) → Extends n old new → StandsCore old c t → StandsCore new c t
stands_core_more c t x h =
    (stands_kept c.subject t.subject x h.0, stands_expression_more c.pattern t.pattern x h.1, h.2, stands_expression_more c.object t.object x h.3)

pub stands_cores_more : {n : ℕ} {old new : List Node} (c : Option Core) (t : Option CoreTree) → Extends n old new → StandsCores old c t → StandsCores new c t
stands_cores_more None None x h = h
stands_cores_more (Some a) (Some b) x h = stands_core_more a b x h
stands_cores_more None (Some b) x h = absurd h
stands_cores_more (Some a) None x h = absurd h
