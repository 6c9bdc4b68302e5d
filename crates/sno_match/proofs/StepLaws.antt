-- A plan that was right and was carried out is a step.
use Rattle.std.proofs.Common.{◌≡◌, ℕ, List, [], ◌∷◌, Option, refl, ap, ◌∙◌}
use Rattle.std.specs.declared.result.Result.{Result}
use Rattle.std.specs.declared.result.Result.TheVariants.{Ok, Err}
use Rattle.std.specs.Result.{OnOk}
use Rattle.sno_value.specs.declared.ids.PatId.{PatId}
use Rattle.sno_pattern.specs.Pattern.{Pattern}
use Rattle.sno_pattern.specs.Table.{Node, tree}
use Rattle.sno_match.specs.declared.event.Event.{Event as Told}
use Rattle.sno_match.specs.declared.goal.Goal.{Goal as Numbered}
use Rattle.sno_match.specs.declared.goal.Goal.TheVariants as N
use Rattle.sno_match.specs.declared.goal.Mark.{Mark}
use Rattle.sno_match.specs.declared.goal.Mark.TheVariants.{Enter, Next}
use Rattle.sno_match.specs.declared.plan.Plan.{Plan}
use Rattle.sno_match.specs.Point.{Point}
use Rattle.sno_match.specs.inner.Plan.{IsPlan, IsPlain, KeepsScopes}
use Rattle.sno_match.specs.Scopes.{opened_at, opened}
use Rattle.sno_match.specs.inner.Move.{CarriesOut, Steps}

pub stepped : {T E : Type 0} (nodes : List Node) (s : List ℕ) (goal : Numbered) (c : ℕ) (mark : Mark) (left : ℕ) (old new : List Point)
    (told : Option Told) (result : Result T E) (plan : Plan) → IsPlan nodes s goal c mark plan → KeepsScopes nodes goal plan
    → OnOk result (CarriesOut plan c left old told new) → OnOk result (Steps nodes s goal c mark left old told new)
stepped nodes s goal c mark left old new told (Ok done) plan p q h = record { plan = plan; is_plan = p; scopes = q; carried = h }
stepped nodes s goal c mark left old new told (Err refused) plan p q h = tt

-- a pattern that is no cut opens none
pub plain : (nodes : List Node) (id : PatId) (p : Pattern) → tree nodes id.0 ≡ p → ((left depth : ℕ) → opened_at p left depth ≡ [])
    → IsPlain nodes (N.Match id)
plain nodes id p t none = (refl, λ rest mark depth. opens_none rest mark depth)
  where
    opens_none : (rest : List Numbered) (mark : Mark) (depth : ℕ) → opened nodes (N.Match id ∷ rest) mark depth ≡ []
    opens_none rest Enter depth = refl
    opens_none rest (Next left) depth = ap (λ q. opened_at q left depth) t ∙ none left depth
