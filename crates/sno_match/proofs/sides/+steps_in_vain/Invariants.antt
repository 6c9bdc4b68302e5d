use Rattle.sno_match.proofs.sides.+steps_in_vain.Given as goal

abbrev pub decreases-steps_in_vain : goal.decreases-steps_in_vain
decreases-steps_in_vain l = l.depth
