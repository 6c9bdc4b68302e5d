use Rattle.std.proofs.Common.{◌≡◌, drop, max}
use Rattle.sno_store.specs.inner.Seen.{reach}
use Rattle.sno_store.proofs.functions.reach.Given as goal

abbrev pub invariant-symbols : goal.invariant-symbols
invariant-symbols l = max l.reach (reach (drop l.symbol-index l.symbols)) ≡ reach l.symbols
