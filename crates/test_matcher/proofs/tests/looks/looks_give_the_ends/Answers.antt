use Rattle.test_matcher.proofs.tests.looks.looks_give_the_ends.Goals as goal

pub check_looks-requires-clause-looks : goal.check_looks-requires-clause-looks
check_looks-requires-clause-looks g c = c.new-looks.ensures _ _
