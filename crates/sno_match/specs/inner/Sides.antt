-- Sides of a choice in a list. These words are private to the matcher.
use Rattle.std.specs.Prelude.{ℕ, ◌≡◌, ◌<◌, ◌++◌, false, List, IfSome, length, take}
use Rattle.std.specs.List.{AllByRecursion}
use Rattle.sno_pattern.specs.Pattern.{Pattern}
use Rattle.sno_pattern.specs.Places.{BeginsWithByte, has_end}
use Rattle.sno_pattern.specs.Table.{Node, tree}
use Rattle.sno_match.specs.declared.side_list.Side.{Side}
use Rattle.sno_match.specs.declared.side_list.SideList.{SideList}
use Rattle.sno_match.specs.inner.Starts.{FailsAt}

abbrev pub sides_of : SideList → List Side
sides_of list = take list.count list.sides

-- a pattern, with the byte with which it begins, where that is known
abbrev pub IsSide : List Node → Side → Type 0
IsSide nodes side = (side.id.0 < length nodes) × IfSome side.byte (BeginsWithByte (tree nodes side.id.0))

-- it has no end from a cursor
abbrev pub MissedAt : List Node → List ℕ → ℕ → Side → Type 0
MissedAt nodes s c side = has_end (tree nodes side.id.0) s c ≡ false

-- where each of these has no end from a cursor, the pattern is searched in vain from there, in so many steps
pub record FailsWithSides (nodes : List Node) (p : Pattern) (steps : ℕ) (sides : List Side) : Type 0 where
  pub fails : (s : List ℕ) (c : ℕ) → AllByRecursion (MissedAt nodes s c) sides → FailsAt p s steps c

-- the sides of a pattern have joined others
abbrev pub Lists : List Node → Pattern → ℕ → List Side → List Side → Type 0
Lists nodes p steps before after = (sides : List Side) × (after ≡ before ++ sides) × FailsWithSides nodes p steps sides
