use Rattle.std.proofs.Common.{◌≡◌, ◌≤◌, ℕ, ◌+◌, ◌-◌, ◌%◌, drop, length, nat_lt}
use Rattle.sno_value.specs.Keys.{letters}
use Rattle.sno_value.proofs.keys.name_key.Given as goal

-- the key is that of the letters behind those that are left, however many more were read from it
abbrev pub invariant-letters : goal.invariant-letters
invariant-letters l = record {
  within : l.left ≤ length l.name;
  few : length l.name ≤ 10;
  told : (more : ℕ) → letters (nat_lt (l.key % 66) 2) (length l.name - l.left + more) l.key ≡ drop l.left l.name;
}

-- letters left
abbrev pub decreases-letters : goal.decreases-letters
decreases-letters l = l.left
