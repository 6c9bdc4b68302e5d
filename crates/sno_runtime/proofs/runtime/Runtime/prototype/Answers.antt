use Rattle.std.proofs.Common.{ℕ, List, Bor, ◌∙◌}
use Rattle.std.proofs.lemmas.Result.{err_from_is_err_and}
use Rattle.sno_runtime.specs.Values.{shown}
use Rattle.sno_runtime.proofs.ObjectOperations.{prototype_of_map}
use Rattle.sno_runtime.proofs.ObjectsKnown.{prototype_known}
use Rattle.sno_runtime.proofs.ObjectLaws.{asked_text, asked_text_err}
use Rattle.sno_runtime.proofs.runtime.Runtime.prototype.Goals as goal

pub returns-in_err-prototype : goal.returns-in_err-prototype
returns-in_err-prototype c =
    let p = err_from_is_err_and c.from_residual.result c.from_residual.ensures.1 in
    rw (← c.self.view_is, p.1, p.2)
    (asked_text_err {Y = Bor (List ℕ)} (λ text. text.now) _ _ _ _ (prototype_of_map (shown c.self.inside.patterns) _ c.args.array)
    c.in_err-prototype.ensures)

pub returns : goal.returns
returns c =
    rw (← c.self.view_is, c.in_ok-text.ensures)
    (asked_text _ _ c.in_ok-prototype.field-0.now (prototype_of_map (shown c.self.inside.patterns) _ c.args.array ∙ c.in_ok-prototype.ensures)
    (prototype_known c.self.inside.patterns _ c.args.array _ c.in_ok-prototype.ensures c.self.invariant.objects))
