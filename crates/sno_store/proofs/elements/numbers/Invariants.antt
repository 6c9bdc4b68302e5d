use Rattle.std.proofs.Common.{◌≡◌, replicate}
use Rattle.sno_value.specs.declared.value.Value.TheVariants as stored
use Rattle.sno_store.proofs.elements.numbers.Given as goal

abbrev pub invariant-values : goal.invariant-values
invariant-values l = l.values.items ≡ replicate l._put (stored.Int l.number)
