use Rattle.std.proofs.Common.{option_copied, sym, ap, ◌∙◌}
use Rattle.sno_store.proofs.ObjectLaws.{entry_is}
use Rattle.sno_store.proofs.objects.Objects.entry_value.Goals as goal

pub returns : goal.returns
returns c = entry_is _ _ _ _ _ (ap option_copied (sym c.in_ok-table.was) ∙ c.table.ensures) c.get.ensures
