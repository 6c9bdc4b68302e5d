use Rattle.std.proofs.Common.{arith, rules, subst, sym, Ok, Err}
use Rattle.std.specs.Box.{with_value}
use Rattle.sno_store.specs.inner.Seen.{IsEntry}
use Rattle.sno_store.specs.Stored.{stored_notions}
use Rattle.sno_store.specs.Tables.{make_entry}
use Rattle.sno_store.proofs.ObjectLaws.{entry_kept, no_entry, passed_on}
use Rattle.sno_store.proofs.objects.Objects.entry.Goals as goal

pub returns-in_default : goal.returns-in_default
returns-in_default c =
    no_entry c.args.id c.args.key c.self.inside.objects.items c.args.self.now c.self.view_is c.index_mut-object.result.now
    (omega arith) c.index_mut-object.ensures.value c.in_default.not-Table

pub returns-in_err-entry : goal.returns-in_err-entry
returns-in_err-entry c =
    passed_on (make_entry stored_notions c.args.id c.args.key) _ _ c.in_err-entry.field-0.0 c.from_residual.result c.from_residual.ensures.1
    (entry_kept c.args.id c.args.key c.self.inside.objects.items c.args.self.now c.self.view_is c.index_mut-object.result.now
    (omega arith) c.index_mut-object.ensures.value c.in-Table.entries (with_value c.in-Table.entries c.entry_in.new.entries)
    (sym c.in-Table.is) (search rules)
    (Err c.in_err-entry.field-0.0)
    (subst (λ es. IsEntry c.args.key es c.entry_in.new.entries (Err c.in_err-entry.field-0.0)) c.deref_mut.ensures.value c.in_err-entry.ensures))

pub returns : goal.returns
returns c =
    entry_kept c.args.id c.args.key c.self.inside.objects.items c.args.self.now c.self.view_is c.index_mut-object.result.now
    (omega arith) c.index_mut-object.ensures.value c.in-Table.entries (with_value c.in-Table.entries c.entry_in.new.entries)
    (sym c.in-Table.is) (search rules)
    (Ok c.in_ok-entry.entry)
    (subst (λ es. IsEntry c.args.key es c.entry_in.new.entries (Ok c.in_ok-entry.entry)) c.deref_mut.ensures.value c.in_ok-entry.ensures)
