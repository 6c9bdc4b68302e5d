use Rattle.std.proofs.Common.{Vec, ℤ, Global}
use Rattle.std.proofs.lemmas.Result.{err_from_is_err_and}
use Rattle.sno_runtime.specs.Runtime.{itself}
use Rattle.sno_runtime.specs.inner.Runtime.{any}
use Rattle.sno_runtime.proofs.Conversions.{missing_in}
use Rattle.sno_runtime.proofs.ItemLaws.{unnumbered, element_refused, element_there, element_told, element_untold, out_of_range}
use Rattle.sno_runtime.proofs.items.element.Goals as goal

pub returns-in_err-numbers : goal.returns-in_err-numbers
returns-in_err-numbers c =
    let p = err_from_is_err_and c.from_residual.result c.from_residual.ensures.1 in
    let runtime = c.args.runtime.now in
    rw (p.1, p.2) (missing_in {X = Vec ℤ Global} (λ numbers. numbers.items) itself any _ _ runtime _ (unnumbered c.args.array _)
    (c.in_err-numbers.ensures runtime.nodes))

pub returns-in_err-name : goal.returns-in_err-name
returns-in_err-name c =
    let p = err_from_is_err_and c.from_residual-in_err-name.result c.from_residual-in_err-name.ensures.1 in
    rw (p.1, p.2, c.in_ok-numbers.ensures c.args.runtime.now.nodes, ← c.deref.ensures.value)
    (element_refused _ _ _ _ (element_untold c.args.array c.args.runtime.now _ c.store.ensures _ _ c.in_err-name.ensures))

pub returns-in-Some : goal.returns-in-Some
returns-in-Some c =
    rw (c.in_ok-numbers.ensures c.args.runtime.now.nodes, ← c.deref.ensures.value)
    (element_there _ _ _ _ (rw c.in-Some.is at (element_told c.args.array c.args.runtime.now _ c.store.ensures _ _ c.in_ok-name.ensures)))

pub returns : goal.returns
returns c =
    rw (c.in_ok-numbers.ensures c.args.runtime.now.nodes, ← c.deref.ensures.value)
    (out_of_range _ _ _ (rw c.in-None.is at (element_told c.args.array c.args.runtime.now _ c.store.ensures _ _ c.in_ok-name.ensures)))
