use Rattle.std.proofs.Common.{◌≡◌, ◌<◌, arith, refl}
use Rattle.std.proofs.Math.Facts.{to_z_pos}
use mir.Syntax.{w64}
use Rattle.std.proofs.lemmas.Result.{err_from_is_err_and}
use Rattle.sno_runtime.specs.Effects.{part_of}
use Rattle.sno_runtime.proofs.Performing.{no_memory}
use Rattle.sno_runtime.proofs.effects.take_effect.Goals as goal

pub returns-in_ok-part-in-Assign-clause-does : goal.returns-in_ok-part-in-Assign-clause-does
returns-in_ok-part-in-Assign-clause-does g c =
    let is : c.in_ok-part-in-Assign.part ≡ part_of c.args.subject.now c.in-Assign.start c.in-Assign.end = c.in_ok-part-in-Assign.ensures in
    rw (c.in-Assign.is, ← is) c.assign.ensures.does

pub returns-in-Cursor-clause-does : goal.returns-in-Cursor-clause-does
returns-in-Cursor-clause-does g c =
    let within = rw c.in-Cursor.is at c.requires.within in
    let small : c.in-Cursor.at < 9_223_372_036_854_775_808 = let s = c.requires.subject in omega arith in
    rw c.in-Cursor.is (rw (to_z_pos w64 small) at c.assign-in-Cursor.ensures.does)

pub returns-in_err-part-in-Assign-clause-does : goal.returns-in_err-part-in-Assign-clause-does
returns-in_err-part-in-Assign-clause-does g c =
    let p = err_from_is_err_and c.from_residual.result c.from_residual.ensures.1 in
    rw (p.1, p.2) (no_memory _ _ _ _ refl)
