use Rattle.std.proofs.Common.{refl, ◌∷◌, []}
use Rattle.std.proofs.lemmas.Result.{err_from_is_err_and}
use Rattle.sno_runtime.proofs.Primitives.{primitive_behind, primitive_refused}
use Rattle.sno_runtime.proofs.Stores.{known_grown}
use Rattle.sno_runtime.proofs.runtime.Runtime.prim_anew.Goals as goal

pub returns : goal.returns
returns c =
    primitive_behind _ _ _ _ _ _ _ _ c.self.invariant c.requires.room c.self.view_is c.keep_made.ensures.same c.keep_made.ensures.id
    c.in_ok-id.ensures.good c.in_ok-id.ensures.ok

pub returns-in_err-id : goal.returns-in_err-id
returns-in_err-id c =
    let p = err_from_is_err_and c.from_residual.result c.from_residual.ensures.1 in let h = c.in_err-id.ensures in
    rw (p.1, p.2, ← c.self.view_is)
    (primitive_refused _ _ _ _ _ _ c.in_err-id.was h.err refl c.prim.ensures.null_set c.prim.ensures.bad_count c.prim.ensures.full)

pub invariant_of-self-2 : goal.invariant_of-self-2
invariant_of-self-2 c = known_grown _ _ _ (_ ∷ [], c.in_ok-id.ensures.ok.1) c.self.invariant
