use Rattle.sno_runtime.proofs.types.integer.Goals as goal

pub returns : goal.returns
returns c s = rw (← c.number.ensures s.nodes, ← c.is_some.ensures) (c.null_where.ensures s)
