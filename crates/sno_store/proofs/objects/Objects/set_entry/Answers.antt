use Rattle.std.proofs.Common.{◌∙◌, sym, ap, arith, length}
use Rattle.std.proofs.lemmas.List.{length-map}
use Rattle.sno_store.specs.Objects.{changed, with_entry_value}
use Rattle.sno_store.specs.inner.Seen.{seen}
use Rattle.sno_store.proofs.ObjectLaws.{changed_is, changed_past}
use Rattle.sno_store.proofs.objects.Objects.set_entry.Goals as goal

pub returns-then-place-len : goal.returns-then-place-len
returns-then-place-len c = changed_is (with_entry_value c.args.entry c.args.value) c.self.inside.objects.items c.args.id.0 c.set_entry.new.self
    c.index_mut-object.result.now (omega arith) c.index_mut-object.ensures.value c.set_entry.ensures
    ∙ ap (λ objects. changed (with_entry_value c.args.entry c.args.value) objects c.args.id) c.self.view_is

pub returns-else-place-len : goal.returns-else-place-len
returns-else-place-len c =
    changed_past (with_entry_value c.args.entry c.args.value) c.args.self.now c.args.id.0
    (omega (arith, ap length (sym c.self.view_is), length-map c.self.inside.objects.items seen))
