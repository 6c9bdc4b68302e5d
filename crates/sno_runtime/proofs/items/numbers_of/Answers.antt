use Rattle.std.proofs.Common.{map, ap, sym, ◌∙◌, rules}
use mir.Syntax.{w64}
use mir.Val.{SFits}
use Rattle.std.proofs.lemmas.List.{take_all}
use Rattle.std.proofs.lemmas.Int.{to_z-of_z}
use Rattle.std.proofs.lemmas.Result.{err_from_is_err_and}
use Rattle.sno_runtime.specs.Values.{shown}
use Rattle.sno_runtime.specs.Containers.{numbers_of}
use Rattle.sno_runtime.proofs.ItemLaws.{numbers_next, numbers_refused}
use Rattle.sno_runtime.proofs.items.numbers_of.Goals as goal

pub returns-in_err-number_of : goal.returns-in_err-number_of
returns-in_err-number_of c nodes =
    let p = err_from_is_err_and c.from_residual.result c.from_residual.ensures.1 in
    rw (p.1, p.2) (numbers_refused nodes _ _ _ _ c.loop-subscript-test.true c.subscript-item.is (c.in_err-number_of.ensures nodes))

pub loop-subscript-preserved : goal.loop-subscript-preserved
loop-subscript-preserved c nodes =
    let fits : SFits w64 c.in_ok-number_of.field-0 = search rules in
    rw (c.in_ok-push.ensures.items, to_z-of_z w64 c.in_ok-number_of.field-0 fits)
    (numbers_next nodes _ _ _ _ _ c.loop-subscript-test.true c.subscript-item.is (c.in_ok-number_of.ensures nodes) (c.loop-subscript.invariant nodes))

pub returns : goal.returns
returns c nodes =
    ap (λ xs. numbers_of (map (shown nodes) xs)) (sym (take_all c.loop-subscript.subscript-index c.args.subscripts.now c.loop-subscript-test.false))
    ∙ c.loop-subscript.invariant nodes
