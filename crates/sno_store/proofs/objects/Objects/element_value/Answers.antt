use Rattle.std.proofs.Common.{option_copied, sym, ap, ◌∙◌}
use Rattle.sno_store.proofs.ObjectLaws.{element_is}
use Rattle.sno_store.proofs.objects.Objects.element_value.Goals as goal

pub returns : goal.returns
returns c = element_is _ _ _ _ _ (ap option_copied (sym c.in_ok-array.was) ∙ c.array.ensures) c.get.ensures
