use Rattle.sno_store.proofs.tree.Tree.insert.Goals as goal

pub returns-in_err-settle-clause-keeps : goal.returns-in_err-settle-clause-keeps
returns-in_err-settle-clause-keeps c = record { each = λ i within on. c.settle.ensures.keeps.each i within (c.tries.invariant.each i within on) }

pub returns-then-branch-clause-keeps : goal.returns-then-branch-clause-keeps
returns-then-branch-clause-keeps c = record { each = λ i within on. c.settle.ensures.keeps.each i within (c.tries.invariant.each i within on) }

pub tries-preserved : goal.tries-preserved
tries-preserved c = record { each = λ i within on. c.settle.ensures.keeps.each i within (c.tries.invariant.each i within on) }
