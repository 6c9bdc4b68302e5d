use Rattle.std.proofs.Common.{◌∙◌, option_copied, option_map, sym, ap}
use Rattle.sno_store.proofs.ObjectLaws.{field_is}
use Rattle.sno_store.proofs.objects.Objects.field_value.Goals as goal

pub returns : goal.returns
returns c = field_is _ _ _ _ _ (ap (λ o. option_map (λ instance. instance.fields.items) (option_copied o)) (sym c.in_ok-instance.was)
    ∙ c.instance.ensures.fields) c.get.ensures
