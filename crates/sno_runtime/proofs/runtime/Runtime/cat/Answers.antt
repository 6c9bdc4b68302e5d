use Rattle.std.proofs.Common.{◌∷◌, [], ◌∙◌}
use Rattle.sno_runtime.proofs.Builders.{made_behind, none_again}
use Rattle.sno_runtime.proofs.Stores.{known_grown}
use Rattle.sno_runtime.proofs.runtime.Runtime.cat.Goals as goal

pub returns : goal.returns
returns c =
    let none = none_again _ _ _ _ _ c.in_ok-id.ensures c.in_default.not-Some in
    made_behind _ _ _ _ _ _ _ c.self.invariant none.0 (c.self.view_is ∙ none.1) c.keep_made.ensures.same c.keep_made.ensures.id c.in_ok-id-2.ensures.built.ok

pub invariant_of-self-2 : goal.invariant_of-self-2
invariant_of-self-2 c = known_grown _ _ _ (_ ∷ [], c.in_ok-id-2.ensures.built.ok.1) c.self.invariant
