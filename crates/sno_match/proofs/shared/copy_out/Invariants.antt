use Rattle.std.proofs.Common.{◌≡◌, ◌≤◌, length, take, vec_len, vec_capacity}
use Rattle.sno_match.proofs.shared.copy_out.Given as goal

-- the entries that were met stand in the list
abbrev pub invariant-loop-entry : goal.invariant-loop-entry
invariant-loop-entry l = record {
  items : l.way.items ≡ take l.entry-index l.fn.entries;
  len : vec_len l.way ≡ l.entry-index;
  room : length l.fn.entries ≤ vec_capacity l.way;
}
