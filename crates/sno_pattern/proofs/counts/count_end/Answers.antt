use Rattle.sno_pattern.proofs.counts.count_end.Goals as goal

pub returns-in-Pos : goal.returns-in-Pos
returns-in-Pos c = rw c.in-Pos.is (c.pos_end.ensures c.args.subject.now)
