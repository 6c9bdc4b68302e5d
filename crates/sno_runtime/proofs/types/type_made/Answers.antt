use Rattle.std.proofs.Common.{List, ℕ}
use Rattle.std.proofs.lemmas.Result.{err_from_is_err_and}
use Rattle.sno_runtime.proofs.Conversions.{missing}
use Rattle.sno_runtime.proofs.FunctionLaws.{absent}
use Rattle.sno_runtime.proofs.Calls.{defined_null, not_defined_null}
use Rattle.sno_runtime.proofs.types.type_made.Goals as goal

pub returns-in_err-prototype : goal.returns-in_err-prototype
returns-in_err-prototype c =
    let p = err_from_is_err_and c.from_residual.result c.from_residual.ensures.1 in
    let runtime = c.args.runtime.now in
    rw (p.1, p.2) (missing {X = List ℕ} (λ t. t) _ _ runtime _ (absent _ _) (c.in_err-prototype.ensures.text runtime.nodes))

pub define_data-requires : goal.define_data-requires
define_data-requires c = rw c.as_slice.ensures (c.in_ok-prototype.ensures.short c.args.runtime.now.nodes c.requires)

pub returns-in_err-define_data : goal.returns-in_err-define_data
returns-in_err-define_data c =
    let p = err_from_is_err_and c.from_residual-in_err-define_data.result c.from_residual-in_err-define_data.ensures.1 in
    rw (p.1, p.2, c.in_ok-prototype.ensures.text c.args.runtime.now.nodes, ← c.as_slice.ensures) (not_defined_null _ _ _ _ c.in_err-define_data.ensures)

pub returns : goal.returns
returns c = rw (c.in_ok-prototype.ensures.text c.args.runtime.now.nodes, ← c.as_slice.ensures, c.null.ensures)
    (defined_null _ _ _ _ c.in_ok-define_data.ensures)
