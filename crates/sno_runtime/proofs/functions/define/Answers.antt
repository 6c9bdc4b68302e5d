use Rattle.std.proofs.Common.{List, ℕ}
use Rattle.std.proofs.lemmas.Result.{err_from_is_err_and}
use Rattle.sno_runtime.proofs.Conversions.{missing}
use Rattle.sno_runtime.proofs.FunctionLaws.{absent}
use Rattle.sno_runtime.proofs.Calls.{defined_null, not_defined_null}
use Rattle.sno_runtime.proofs.functions.define.Goals as goal

pub returns-in_err-prototype : goal.returns-in_err-prototype
returns-in_err-prototype c =
    let p = err_from_is_err_and c.from_residual.result c.from_residual.ensures.1 in
    let runtime = c.args.runtime.now in
    rw (p.1, p.2) (missing {X = List ℕ} (λ t. t) _ _ runtime _ (absent _ _) (c.in_err-prototype.ensures.text runtime.nodes))

pub returns-in_err-entry : goal.returns-in_err-entry
returns-in_err-entry c =
    let p = err_from_is_err_and c.from_residual-in_err-entry.result c.from_residual-in_err-entry.ensures.1 in
    let runtime = c.args.runtime.now in
    rw (p.1, p.2, c.in_ok-prototype.ensures.text runtime.nodes)
    (missing {X = List ℕ} (λ t. t) _ _ runtime _ (absent _ _) (c.in_err-entry.ensures.text runtime.nodes))

pub define-requires : goal.define-requires
define-requires c = rw c.as_slice.ensures (c.in_ok-prototype.ensures.short c.args.runtime.now.nodes c.requires)

pub returns-in_err-define : goal.returns-in_err-define
returns-in_err-define c =
    let p = err_from_is_err_and c.from_residual-in_err-define.result c.from_residual-in_err-define.ensures.1 in
    let nodes = c.args.runtime.now.nodes in
    rw (p.1, p.2, c.in_ok-prototype.ensures.text nodes, c.in_ok-entry.ensures.text nodes, ← c.as_slice.ensures, ← c.as_slice-2.ensures)
    (not_defined_null _ _ _ _ c.in_err-define.ensures)

pub returns : goal.returns
returns c =
    let nodes = c.args.runtime.now.nodes in
    rw (c.in_ok-prototype.ensures.text nodes, c.in_ok-entry.ensures.text nodes, ← c.as_slice.ensures, ← c.as_slice-2.ensures, c.null.ensures)
    (defined_null _ _ _ _ c.in_ok-define.ensures)
