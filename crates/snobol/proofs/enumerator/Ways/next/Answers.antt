use Rattle.std.proofs.Common.{◌∙◌, ℕ, List, [], ap, sym}
use Rattle.sno_runtime.specs.Runtime.{world}
use Rattle.snobol.specs.Enumeration.{left_of, rest_of}
use Rattle.snobol.proofs.NextLaws.{told_as}
use Rattle.snobol.proofs.enumerator.Ways.next.Goals as goal

pub returns-clause-tells : goal.returns-clause-tells
returns-clause-tells g c = λ going.
    let i = c.self.inside in
    let told = c.tell_next-told.new in
    told_as _ _ _ _ _ _ _ _
    (ap rest_of (sym c.self.view_is)
    ∙ ap (λ (subject : List ℕ). left_of i.program i.expression subject i.anchored i.limit i.search (world i.runtime [])) (sym c.deref.ensures.value))
    (ap (λ (subject : List ℕ). left_of i.program i.expression subject i.anchored i.limit told.search (world told.runtime [])) (sym c.deref.ensures.value))
    c.ended_by-self-inside.ensures c.tell_next-told.ensures.does
