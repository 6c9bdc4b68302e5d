-- Which bytes are present in the parts of a subject.
use Rattle.std.specs.Prelude.{ℕ, zero, suc, ◌≡◌, ◌<◌, ◌/◌, true, List, [], length, get_or}
use Rattle.sno_pattern.specs.Ends.{is_in}
use Rattle.sno_pattern.specs.Masks.{members}

-- the part of a level in which a cursor lies: blocks of 64 bytes on the lowest, and eight parts of the level below on each other
abbrev pub part_of : ℕ → ℕ → ℕ
part_of zero c = c / 64
part_of (suc level) c = part_of level c / 8

-- each byte of the subject is in the mask of its part
pub record IsLevel (s : List ℕ) (level : ℕ) (masks : List (List ℕ)) : Type 0 where
  pub within : (c : ℕ) → c < length s → part_of level c < length masks
  pub has : (c : ℕ) → c < length s → is_in (members (get_or masks (part_of level c) [])) (get_or s c 0) ≡ true

-- each level that was made is the subject's
pub record ArePresent (s : List ℕ) (levels : List (List (List ℕ))) : Type 0 where
  pub each : (level : ℕ) → level < length levels → IsLevel s level (get_or levels level [])
