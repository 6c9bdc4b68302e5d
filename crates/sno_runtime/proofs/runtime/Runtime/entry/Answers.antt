use Rattle.std.proofs.Common.{Ok}
use Rattle.std.proofs.lemmas.Result.{err_from_is_err_and}
use Rattle.sno_store.specs.Tables.{make_entry}
use Rattle.sno_runtime.specs.Values.{shown}
use Rattle.sno_store.specs.Stored.{stored_notions}
use Rattle.sno_runtime.specs.Containers.{notions}
use Rattle.sno_runtime.proofs.ObjectOperations.{make_entry_map}
use Rattle.sno_runtime.proofs.ObjectsKnown.{make_entry_leaves}
use Rattle.sno_runtime.proofs.ObjectLaws.{done_ok, done_err, done_known, shown_agrees}
use Rattle.sno_runtime.proofs.runtime.Runtime.entry.Goals as goal

pub returns-in_err-name : goal.returns-in_err-name
returns-in_err-name c =
    let p = err_from_is_err_and c.from_residual.result c.from_residual.ensures.1 in
    rw (← c.self.view_is, p.1, p.2)
    (done_err _ _ _ _ _ (make_entry_map (shown c.self.inside.patterns) stored_notions notions (shown_agrees c.self.inside.patterns) c.args.table
    c.args.key) c.in_err-name.ensures)

pub invariant_of-self-2 : goal.invariant_of-self-2
invariant_of-self-2 c = done_known _ _ _ (make_entry stored_notions c.args.table c.args.key) (Ok c.in_ok-name.name) c.self.invariant
    (make_entry_leaves c.self.inside.patterns c.args.table c.args.key _ (rw (← c.self.view_is) at c.requires) c.self.invariant.objects) c.in_ok-name.ensures

pub returns : goal.returns
returns c = rw (← c.self.view_is)
    (done_ok _ _ _ _ _ (make_entry_map (shown c.self.inside.patterns) stored_notions notions (shown_agrees c.self.inside.patterns) c.args.table
    c.args.key) c.in_ok-name.ensures)
