use Rattle.std.proofs.lemmas.Result.{err_from_is_err_and}
use Rattle.sno_runtime.proofs.Performing.{listed_cut, listed_on}
use Rattle.snobol.proofs.listing.list_event.Goals as goal

pub returns-in_err-put-clause-does : goal.returns-in_err-put-clause-does
returns-in_err-put-clause-does g c =
    let p = err_from_is_err_and c.from_residual-in_err-put.result c.from_residual-in_err-put.ensures.1 in
    let b = c.in_err-put.ensures.bytes in
    rw (p.1, p.2) (listed_cut _ _ _ _ _ _ b.0 c.in_ok-line.ensures (rw c.deref.ensures.value at b.1) b.2)

pub returns-clause-does : goal.returns-clause-does
returns-clause-does g c =
    listed_on _ _ _ _ _ _ _ _ _ _ c.in_ok-line.ensures (rw c.deref.ensures.value at c.in_ok-put.ensures.bytes) c.take_effect.ensures.does
