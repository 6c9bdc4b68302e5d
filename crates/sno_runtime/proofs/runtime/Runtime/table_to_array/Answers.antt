use Rattle.std.proofs.Common.{Ok}
use Rattle.std.proofs.lemmas.Result.{err_from_is_err_and}
use Rattle.sno_store.specs.Tables.{table_to_array}
use Rattle.sno_runtime.specs.Values.{shown}
use Rattle.sno_store.specs.Stored.{stored_notions}
use Rattle.sno_runtime.specs.Containers.{notions}
use Rattle.sno_runtime.proofs.ObjectOperations.{table_to_array_map}
use Rattle.sno_runtime.proofs.ObjectsKnown.{table_to_array_leaves}
use Rattle.sno_runtime.proofs.ObjectLaws.{done_ok, done_err, done_known, shown_agrees}
use Rattle.sno_runtime.proofs.runtime.Runtime.table_to_array.Goals as goal

pub returns-in_err-array : goal.returns-in_err-array
returns-in_err-array c =
    let p = err_from_is_err_and c.from_residual.result c.from_residual.ensures.1 in
    rw (← c.self.view_is, p.1, p.2)
    (done_err _ _ _ _ _ (table_to_array_map (shown c.self.inside.patterns) stored_notions notions (shown_agrees c.self.inside.patterns)
    c.args.table) c.in_err-array.ensures)

pub invariant_of-self-2 : goal.invariant_of-self-2
invariant_of-self-2 c = done_known _ _ _ (table_to_array stored_notions c.args.table) (Ok c.in_ok-array.array) c.self.invariant
    (table_to_array_leaves c.self.inside.patterns c.args.table _ c.self.invariant.objects) c.in_ok-array.ensures

pub returns : goal.returns
returns c = rw (← c.self.view_is)
    (done_ok _ _ _ _ _ (table_to_array_map (shown c.self.inside.patterns) stored_notions notions (shown_agrees c.self.inside.patterns)
    c.args.table) c.in_ok-array.ensures)
