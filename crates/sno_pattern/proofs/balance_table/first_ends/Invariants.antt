use Rattle.std.proofs.Common.{◌≤◌, length}
use Rattle.sno_pattern.specs.BalanceTable.{IsBalanceFrom}
use Rattle.sno_pattern.proofs.balance_table.first_ends.Given as goal

abbrev pub invariant-cursors : goal.invariant-cursors
invariant-cursors l = record {
  inside : l.known ≤ length l.subject;
  table : IsBalanceFrom l.known l.subject l.table.items;
}

abbrev pub decreases-cursors : goal.decreases-cursors
decreases-cursors l = l.known
