use Rattle.std.proofs.Common.{◌∙◌, ap, Err}
use Rattle.std.proofs.lemmas.Result.{err_from_is_err_and}
use Rattle.sno_statement.proofs.AnswerLaws.{answered, refused, none_given, halted}
use Rattle.sno_statement.proofs.answers.answer_of.Goals as goal

pub answer-requires : goal.answer-requires
answer-requires c = rw c.in-Ok.is at c.requires

pub returns-in_err-pattern-in-Ok : goal.returns-in_err-pattern-in-Ok
returns-in_err-pattern-in-Ok c = λ act before old new did.
    let p = err_from_is_err_and c.from_residual.result c.from_residual.ensures.1 in
    rw (p.1, p.2) (refused _ _ _ _ _ _ _ c.in-Ok.value _ (rw c.in-Ok.is at did) c.in_err-pattern-in-Ok.ensures)

pub returns-in_ok-pattern-in-Ok : goal.returns-in_ok-pattern-in-Ok
returns-in_ok-pattern-in-Ok c = λ act before old new did. answered _ _ _ _ _ _ _ c.in-Ok.value _ (rw c.in-Ok.is at did) c.in_ok-pattern-in-Ok.ensures

pub returns-in-Err-Failure : goal.returns-in-Err-Failure
returns-in-Err-Failure c =
    λ act before old new did. none_given _ _ _ _ _ _ (rw (c.in-Err-Failure.is ∙ ap Err (rw c.in-Err-Failure.is at c.in-Err-Failure.field-0-is)) at did)

pub returns-in-Err-Halt : goal.returns-in-Err-Halt
returns-in-Err-Halt c = λ act before old new did. halted _ _ _ _ _ _ c.in-Err-Halt.stop
    (rw (c.in-Err-Halt.is ∙ ap Err (rw c.in-Err-Halt.is at c.in-Err-Halt.field-0-is)) at did)
