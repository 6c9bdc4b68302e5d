use Rattle.std.proofs.Common.{◌≡◌, ◌≤◌}
use Rattle.sno_store.specs.inner.Paths.{path_end}
use Rattle.sno_store.proofs.tree.Tree.held.Given as goal

abbrev pub invariant-levels : goal.invariant-levels
invariant-levels l = (l.left ≤ 16) × (path_end l.self.slots.items l.left l.node l.rest ≡ path_end l.self.slots.items 16 0 l.hash)

abbrev pub decreases-levels : goal.decreases-levels
decreases-levels l = l.left
