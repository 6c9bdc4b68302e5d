use Rattle.std.proofs.Common.{[], Ok}
use Rattle.sno_value.specs.declared.value.Value.TheVariants as stored
use Rattle.sno_store.specs.Types.{new_data}
use Rattle.sno_runtime.proofs.FieldLaws.{object_made}
use Rattle.sno_runtime.proofs.ObjectsKnown.{new_data_leaves}
use Rattle.sno_runtime.proofs.ObjectLaws.{done_known}
use Rattle.sno_runtime.proofs.runtime.Runtime.new_data.Goals as goal

pub invariant_of-self-2 : goal.invariant_of-self-2
invariant_of-self-2 c = done_known _ _ _ (new_data (stored.Str []) c.self.inside.store.types c.args.number c.args.fields.now)
    (Ok c.in_ok-id.id) c.self.invariant (new_data_leaves c.self.inside.patterns c.self.inside.store.types c.args.number c.args.fields.now _
    (rw (← c.self.view_is) at c.requires) c.self.invariant.objects) c.in_ok-id.ensures

pub returns : goal.returns
returns c = rw (← c.self.view_is) (object_made _ _ c.args.number c.args.fields.now _ c.in_ok-id.ensures)
