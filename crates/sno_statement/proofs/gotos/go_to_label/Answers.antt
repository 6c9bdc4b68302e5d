use Rattle.std.proofs.Common.{◌∙◌, ap, length}
use Rattle.std.proofs.lemmas.Result.{err_from_is_err_and}
use Rattle.sno_statement.specs.Steps.{goto_of}
use Rattle.sno_statement.proofs.GotoLaws.{textless, not_empty, goes_by_label}
use Rattle.sno_statement.proofs.gotos.go_to_label.Goals as goal

pub returns-in_err-label-clause-does : goal.returns-in_err-label-clause-does
returns-in_err-label-clause-does c =
    let p = err_from_is_err_and c.from_residual.result c.from_residual.ensures.1 in
    let s = c.args.runtime.now in
    rw (p.1, p.2) (textless c.args.program.now c.args.value s _ (c.in_err-label.ensures.text s.nodes))

pub returns-clause-does : goal.returns-clause-does
returns-clause-does c =
    let s = c.args.runtime.now in
    let some = not_empty c.in_ok-label.label _ _ (ap length c.as_slice.ensures) c.is_empty.ensures c.if-is_empty.false in
    goes_by_label c.args.program.now c.args.value c.in_ok-label.label c.goto_of.result s _ (c.in_ok-label.ensures.text s.nodes) some
    (c.goto_of.ensures ∙ ap (goto_of c.args.program.now) c.as_slice-2.ensures) c.go_to.ensures.does
