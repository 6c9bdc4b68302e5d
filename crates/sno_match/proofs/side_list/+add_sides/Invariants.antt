use Rattle.sno_match.proofs.side_list.+add_sides.Given as goal

abbrev pub decreases-add_sides : goal.decreases-add_sides
decreases-add_sides l = l.depth
