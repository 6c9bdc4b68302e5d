use Rattle.sno_statement.proofs.matching.direct_span.Goals as goal

pub returns : goal.returns
returns g c = λ program call f ready. (rw c.looks_directly.ensures at c.found_span.ensures) program call f ready
