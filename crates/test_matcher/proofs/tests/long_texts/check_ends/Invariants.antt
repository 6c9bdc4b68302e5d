use Rattle.sno_pattern.specs.Looks.{AreTrue}
use Rattle.test_matcher.proofs.tests.long_texts.check_ends.Given as goal

abbrev pub invariant-rows : goal.invariant-rows
invariant-rows g l = AreTrue l.patterns l.subject l.looks
