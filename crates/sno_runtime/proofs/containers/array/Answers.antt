use Rattle.std.proofs.Common.{List, ℕ}
use Rattle.std.proofs.lemmas.Result.{err_from_is_err_and}
use Rattle.sno_runtime.proofs.Conversions.{missing}
use Rattle.sno_runtime.proofs.FunctionLaws.{absent}
use Rattle.sno_runtime.proofs.ContainerLaws.{array_given, array_refused}
use Rattle.sno_runtime.proofs.containers.array.Goals as goal

pub returns-in_err-text : goal.returns-in_err-text
returns-in_err-text c =
    let p = err_from_is_err_and c.from_residual.result c.from_residual.ensures.1 in
    let runtime = c.args.runtime.now in
    rw (p.1, p.2) (missing {X = List ℕ} (λ t. t) _ _ runtime _ (absent _ _) (c.in_err-text.ensures.text runtime.nodes))

pub new_array-requires-clause-prototype : goal.new_array-requires-clause-prototype
new_array-requires-clause-prototype c = rw c.as_slice.ensures (c.in_ok-text.ensures.short c.args.runtime.now.nodes c.requires.prototype)

pub returns-in_err-id : goal.returns-in_err-id
returns-in_err-id c =
    let p = err_from_is_err_and c.from_residual-in_err-id.result c.from_residual-in_err-id.ensures.1 in
    rw (p.1, p.2, c.in_ok-text.ensures.text c.args.runtime.now.nodes, ← c.as_slice.ensures) (array_refused _ _ _ _ c.in_err-id.ensures)

pub returns : goal.returns
returns c = rw (c.in_ok-text.ensures.text c.args.runtime.now.nodes, ← c.as_slice.ensures) (array_given _ _ _ _ c.in_ok-id.ensures)
