use Rattle.sno_runtime.proofs.types.ident.Goals as goal

pub returns-in-Some : goal.returns-in-Some
returns-in-Some c s = rw (← c.in-Some.ensures s.nodes) (c.null_where.ensures s)
