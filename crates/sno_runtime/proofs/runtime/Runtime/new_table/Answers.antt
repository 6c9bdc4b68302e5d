use Rattle.std.proofs.Common.{Ok}
use Rattle.std.proofs.lemmas.Result.{err_from_is_err_and}
use Rattle.sno_store.specs.Tables.{new_table}
use Rattle.sno_runtime.specs.Values.{shown}
use Rattle.sno_runtime.proofs.ObjectOperations.{new_table_map}
use Rattle.sno_runtime.proofs.ObjectsKnown.{new_table_leaves}
use Rattle.sno_runtime.proofs.ObjectLaws.{done_ok, done_err, done_known}
use Rattle.sno_runtime.proofs.runtime.Runtime.new_table.Goals as goal

pub returns-in_err-id : goal.returns-in_err-id
returns-in_err-id c =
    let p = err_from_is_err_and c.from_residual.result c.from_residual.ensures.1 in
    rw (← c.self.view_is, p.1, p.2) (done_err _ _ _ _ _ (new_table_map (shown c.self.inside.patterns)) c.in_err-id.ensures)

pub invariant_of-self-2 : goal.invariant_of-self-2
invariant_of-self-2 c = done_known _ _ _ new_table (Ok c.in_ok-id.id) c.self.invariant
    (new_table_leaves c.self.inside.patterns _ c.self.invariant.objects) c.in_ok-id.ensures

pub returns : goal.returns
returns c = rw (← c.self.view_is) (done_ok _ _ _ _ _ (new_table_map (shown c.self.inside.patterns)) c.in_ok-id.ensures)
