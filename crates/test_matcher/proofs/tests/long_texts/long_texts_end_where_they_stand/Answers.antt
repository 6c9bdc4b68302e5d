use Rattle.test_matcher.proofs.tests.long_texts.long_texts_end_where_they_stand.Goals as goal

pub check_ends-requires : goal.check_ends-requires
check_ends-requires g c = record { looks = c.new-looks.ensures _ _ }

pub check_places-requires-2 : goal.check_places-requires-2
check_places-requires-2 g c = record { looks = c.clear.ensures _ _ }
