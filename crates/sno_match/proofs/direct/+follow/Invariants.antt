use Rattle.sno_match.proofs.direct.+follow.Given as goal

abbrev pub decreases-follow : goal.decreases-follow
decreases-follow l = l.depth
