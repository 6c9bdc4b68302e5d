use Rattle.sno_store.specs.inner.Paths.{Keeps}
use Rattle.sno_store.proofs.tree.Tree.insert.Given as goal

abbrev pub invariant-tries : goal.invariant-tries
invariant-tries l = Keeps l.hashes l.fn.self.slots.items l.self.slots.items

abbrev pub decreases-tries : goal.decreases-tries
decreases-tries l = l.tries
