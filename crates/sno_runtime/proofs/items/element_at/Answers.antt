use mir.Syntax.{w64}
use mir.Val.{SFits}
use Rattle.std.proofs.lemmas.Int.{to_z-of_z}
use Rattle.std.proofs.Common.{[], ◌∷◌, rules}
use Rattle.sno_runtime.proofs.ItemLaws.{elements_there, element_told}
use Rattle.sno_runtime.proofs.items.element_at.Goals as goal

pub returns-in-Ok : goal.returns-in-Ok
returns-in-Ok c =
    let fits : SFits w64 c.args.subscript = search rules in
    let same = to_z-of_z w64 c.args.subscript fits in
    elements_there c.args.array (c.args.subscript ∷ []) c.args.runtime.now c.in-Ok.name
    (element_told c.args.array c.args.runtime.now _ c.store.ensures (c.args.subscript ∷ []) c.in-Ok.name
    (rw (c.from_ref-subscripts.ensures.value, same) at c.in-Ok.ensures))
