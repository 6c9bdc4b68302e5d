use Rattle.sno_runtime.proofs.TypeLaws.{type_given}
use Rattle.sno_runtime.proofs.types.datatype.Goals as goal

pub returns : goal.returns
returns c =
    rw c.in_ok-name.ensures (type_given c.args.runtime.now c.args.x.now c.type_name.result.now c.type_name.ensures.name c.type_name.ensures.short)
