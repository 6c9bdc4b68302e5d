use Rattle.std.proofs.lemmas.Result.{err_from_is_err_and}
use Rattle.sno_runtime.proofs.ItemLaws.{entry_refused, entry_there, no_entry, entry_told, entry_untold}
use Rattle.sno_runtime.proofs.items.entry_read.Goals as goal

pub returns-in_err-name : goal.returns-in_err-name
returns-in_err-name c =
    let p = err_from_is_err_and c.from_residual.result c.from_residual.ensures.1 in
    rw (p.1, p.2) (entry_refused _ _ _ _ (entry_untold c.args.table c.args.runtime.now _ c.store.ensures c.args.key.now _ c.in_err-name.ensures))

pub returns-in-Some : goal.returns-in-Some
returns-in-Some c =
    let found = entry_told c.args.table c.args.runtime.now _ c.store.ensures c.args.key.now in
    entry_there _ _ _ _ _ (rw c.in-Some.is at (found _ c.in_ok-name.ensures)) c.stored.ensures

pub returns-in-None : goal.returns-in-None
returns-in-None c =
    let found = entry_told c.args.table c.args.runtime.now _ c.store.ensures c.args.key.now in
    rw c.null.ensures (no_entry _ _ _ (rw c.in-None.is at (found _ c.in_ok-name.ensures)))
