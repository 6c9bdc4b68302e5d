use Rattle.test_matcher.proofs.tests.present.many_sets_share_what_is_present.Goals as goal

pub check_rows-requires : goal.check_rows-requires
check_rows-requires g c = record { looks = c.new-looks.ensures _ _ }
