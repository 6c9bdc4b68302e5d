use Rattle.std.proofs.Common.{◌≡◌, ◌++◌, drop}
use Rattle.sno_store.specs.Stored.{stored_notions}
use Rattle.sno_store.specs.Tables.{filled, rows}
use Rattle.sno_store.proofs.entries.Entries.rows.Given as goal

abbrev pub invariant-entries : goal.invariant-entries
invariant-entries l = l.values.items ++ rows (filled stored_notions (drop l.key-index l.self)) ≡ rows (filled stored_notions l.self)
