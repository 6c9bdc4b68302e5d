-- Where the paths of hashes end in a tree, and which numbers are there. Private contracts alone cite it.
use Rattle.std.specs.Prelude.{◌≡◌, ℕ, zero, suc, ◌+◌, ◌-◌, ◌/◌, ◌%◌, ◌<◌, ◌≤◌, Bool, true, false, List, length, nat_le, slice_index_or}
use Rattle.std.specs.Prelude.{Option, Some, if◌then◌else◌}
use Rattle.sno_store.specs.declared.tree.End.{End}

-- what a slot has
abbrev pub at : List ℕ → ℕ → ℕ
at slots slot = slice_index_or slots slot 0

abbrev pub end_at : ℕ → ℕ → ℕ → End
end_at slot rest left = record { slot = slot; rest = rest; left = left }

-- the end of a path that begins at a node, over so many nodes at most
unfoldable pub path_end : List ℕ → ℕ → ℕ → ℕ → End
path_end slots zero node rest = end_at 0 0 0
path_end slots (suc n) node rest =
    if nat_le (at slots (node + rest % 16)) 1_000_000 then end_at (node + rest % 16) (rest / 16) n
    else path_end slots n (at slots (node + rest % 16) - 1_000_000) (rest / 16)

abbrev pub end_of : List ℕ → ℕ → End
end_of slots hash = path_end slots 16 0 hash

-- a number is at the end of the path of a hash
abbrev pub IsOn : List ℕ → ℕ → ℕ → Type 0
IsOn slots hash number = at slots (end_of slots hash).slot ≡ suc number

-- each number below so many that was at the end of its path is there
pub record Keeps (hashes old new : List ℕ) : Type 0 where
  pub each : (i : ℕ) → i < length hashes → IsOn old (slice_index_or hashes i 0) i → IsOn new (slice_index_or hashes i 0) i

-- the number that a slot has, if it has one
pub record IsFoundIn (found : Option ℕ) (held : ℕ) : Type 0 where
  pub each : (i : ℕ) → held ≡ suc i → i < 1_000_000 → found ≡ Some i

-- a number that is at the end of its path
pub record IsLive (slots hashes : List ℕ) (slot held : ℕ) : Type 0 where
  pub some : 1 ≤ held
  pub known : held ≤ length hashes
  pub here : (end_of slots (slice_index_or hashes (held - 1) 0)).slot ≡ slot

-- what was told of that
pub record IsLiveAnswer (slots hashes : List ℕ) (slot held : ℕ) (answer : Bool) : Type 0 where
  pub yes : answer ≡ true → IsLive slots hashes slot held
  pub no : answer ≡ false → IsLive slots hashes slot held → ⊥
