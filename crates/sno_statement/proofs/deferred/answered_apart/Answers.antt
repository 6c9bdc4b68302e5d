use Rattle.sno_statement.proofs.deferred.answered_apart.Goals as goal

pub answer_of-requires : goal.answer_of-requires
answer_of-requires g c = c.evaluate-value.ensures.answer
