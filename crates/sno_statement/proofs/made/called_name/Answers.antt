use Rattle.sno_statement.proofs.made.called_name.Goals as goal

pub returns-in-Comparison : goal.returns-in-Comparison
returns-in-Comparison c = λ program part known. let of = rw c.in-Comparison.is at known in (of.0, of.1)

pub returns-in-Remainder : goal.returns-in-Remainder
returns-in-Remainder c = λ program part known. let of = rw c.in-Remainder.is at known in (of.0, of.1)

pub returns-in-Examination : goal.returns-in-Examination
returns-in-Examination c = λ program part known. let of = rw c.in-Examination.is at known in (of.0, of.1)

pub returns-in-Call : goal.returns-in-Call
returns-in-Call c = λ program part known. let of = rw c.in-Call.is at known in (of.0, of.1)
