use Rattle.sno_pattern.proofs.first_bytes.+add_beginning.Given as goal

abbrev pub decreases-add_beginning : goal.decreases-add_beginning
decreases-add_beginning l = l.depth
