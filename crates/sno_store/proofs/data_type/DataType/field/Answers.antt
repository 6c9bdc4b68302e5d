use Rattle.std.proofs.Common.{◌==◌, ◌∙◌, sym, ap, position}
use Rattle.sno_value.specs.declared.ids.SymId.{SymId}
use Rattle.sno_store.specs.Types.{DataType}
use Rattle.sno_store.proofs.TypeLaws.{position_mapped}
use Rattle.sno_store.proofs.data_type.DataType.field.Goals as goal

pub returns-in_err-place : goal.returns-in_err-place
returns-in_err-place c =
    c.from_residual.ensures ∙ sym c.in_err-place.was ∙ c.place_of.ensures.place ∙ ap (position (λ field. field.0 == c.args.symbol.0)) c.deref.ensures.value
    ∙ sym (position_mapped (λ (id : SymId). id.0) (λ field. field == c.args.symbol.0) c.self.inside.fields.items)
    ∙ ap (λ (t : DataType). position (λ field. field == c.args.symbol.0) t.fields) c.self.view_is

pub returns : goal.returns
returns c =
    sym c.in_ok-place.was ∙ c.place_of.ensures.place ∙ ap (position (λ field. field.0 == c.args.symbol.0)) c.deref.ensures.value
    ∙ sym (position_mapped (λ (id : SymId). id.0) (λ field. field == c.args.symbol.0) c.self.inside.fields.items)
    ∙ ap (λ (t : DataType). position (λ field. field == c.args.symbol.0) t.fields) c.self.view_is
