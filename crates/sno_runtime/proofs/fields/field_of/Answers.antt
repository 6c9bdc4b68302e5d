use Rattle.sno_runtime.proofs.FieldLaws.{field_there, field_missing}
use Rattle.sno_runtime.proofs.fields.field_of.Goals as goal

pub returns-in-Some : goal.returns-in-Some
returns-in-Some c = rw c.in-Data.is (field_there c.args.symbol.0 c.in-Data.id _ _ c.field.result c.in-Some.is (rw c.store.ensures at c.field.ensures))

pub returns-in-None : goal.returns-in-None
returns-in-None c =
    rw (c.in-Data.is, c.error-in-None.ensures)
    (field_missing c.args.symbol.0 c.in-Data.id _ c.field.result c.in-None.is (rw c.store.ensures at c.field.ensures))
