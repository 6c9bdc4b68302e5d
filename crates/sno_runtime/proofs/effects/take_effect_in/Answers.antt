use Rattle.std.proofs.Common.{◌≡◌, refl}
use Rattle.std.proofs.lemmas.Result.{err_from_is_err_and}
use Rattle.sno_runtime.specs.Effects.{part_of}
use Rattle.sno_runtime.proofs.Performing.{no_memory}
use Rattle.sno_runtime.proofs.effects.take_effect_in.Goals as goal

pub returns-in_ok-part-in-Assign-clause-does : goal.returns-in_ok-part-in-Assign-clause-does
returns-in_ok-part-in-Assign-clause-does g c =
    let is : c.in_ok-part-in-Assign.part ≡ part_of c.args.matcher.now.subject c.in-Assign.start c.in-Assign.end = c.in_ok-part-in-Assign.ensures in
    rw (c.in-Assign.is, ← is) c.assign.ensures.does

pub returns-in_err-part-in-Assign-clause-does : goal.returns-in_err-part-in-Assign-clause-does
returns-in_err-part-in-Assign-clause-does g c =
    let p = err_from_is_err_and c.from_residual.result c.from_residual.ensures.1 in
    rw (p.1, p.2) (no_memory _ _ _ _ refl)
