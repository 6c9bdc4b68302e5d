use Rattle.std.proofs.Common.{List, ℕ}
use Rattle.std.proofs.lemmas.Result.{err_from_is_err_and}
use Rattle.sno_runtime.specs.Runtime.{itself}
use Rattle.sno_runtime.specs.inner.Runtime.{any}
use Rattle.sno_runtime.proofs.Conversions.{missing_in}
use Rattle.sno_runtime.proofs.Names.{named_by_text, unnamed}
use Rattle.sno_runtime.proofs.unary_operators.named_by.Goals as goal

pub returns-in_err-text : goal.returns-in_err-text
returns-in_err-text c =
    let p = err_from_is_err_and c.from_residual.result c.from_residual.ensures.1 in
    let nodes = c.args.runtime.now.nodes in
    rw (p.1, p.2, named_by_text nodes c.args.x c.in_default.not-Name) (missing_in {X = List ℕ} (λ t. t) itself any _ _ c.args.runtime.now _
    (unnamed _) (c.in_err-text.ensures.text nodes))

pub returns-in_err-target : goal.returns-in_err-target
returns-in_err-target c =
    let p = err_from_is_err_and c.from_residual-in_err-target.result c.from_residual-in_err-target.ensures.1 in
    let nodes = c.args.runtime.now.nodes in
    rw (p.1, p.2, named_by_text nodes c.args.x c.in_default.not-Name, c.in_ok-text.ensures.text nodes, ← c.as_slice.ensures) c.in_err-target.ensures
