use Rattle.std.proofs.Common.{sym, arith}
use Rattle.std.proofs.lemmas.List.{length-take-le}
use Rattle.sno_pattern.proofs.AgreementLaws.{none_begins}
use Rattle.sno_pattern.proofs.ends.beginning.Goals as goal

pub slice_bounds-result-end : goal.slice_bounds-result-end
slice_bounds-result-end c = sym (length-take-le 64 c.args.text.now (omega (arith, c.is_long.ensures.long c.if-is_long.true)))

pub returns-then-is_long-clause-none : goal.returns-then-is_long-clause-none
returns-then-is_long-clause-none c = λ bytes. none_begins c.args.text.now bytes 64 (omega (arith, c.is_long.ensures.long c.if-is_long.true))
