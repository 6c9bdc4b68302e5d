use Rattle.std.proofs.Common.{◌≡◌, replicate}
use Rattle.sno_store.proofs.elements.copied.Given as goal

abbrev pub invariant-values : goal.invariant-values
invariant-values l = l.values.items ≡ replicate l._copied l.value
