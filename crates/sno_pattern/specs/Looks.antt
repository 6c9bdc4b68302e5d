-- What the looks through one subject have found out.
use Rattle.std.specs.Prelude.{ℕ, ◌≡◌, ◌<◌, ◌≤◌, List, length, get_or}
use Rattle.sno_pattern.specs.declared.looks.Run.{Run}
use Rattle.sno_pattern.specs.BalanceTable.{IsTableIfMade}
use Rattle.sno_pattern.specs.Compared.{Compared, AreCompared}
use Rattle.sno_pattern.specs.Present.{ArePresent}
use Rattle.sno_pattern.specs.Shape.{end_of}
use Rattle.sno_pattern.specs.Table.{Node, tree}

-- from each cursor of the run the first end of the primitive is that of the run
pub record IsTrueRun (nodes : List Node) (s : List ℕ) (run : Run) : Type 0 where
  pub known : run.from ≤ run.until → run.id.0 < length nodes
  pub ends : (c : ℕ) → run.from ≤ c → c ≤ run.until → end_of (tree nodes run.id.0) s c 0 ≡ run.end

-- each run of a list that is told of this subject is true of it and this table
pub record AreTrueRuns (nodes : List Node) (s : List ℕ) (turn : ℕ) (runs : List Run) : Type 0 where
  pub each : (place : ℕ) (other : Run) → place < length runs → (get_or runs place other).turn ≡ turn → IsTrueRun nodes s (get_or runs place other)

-- the runs that are remembered, those in place and more, the number of the subject of which they are told, the table of BAL's first ends, the masks of what is present in the subject's parts, and what comparisons of long texts told
pub record Found : Type 0 where
  pub runs : List Run
  pub more : List Run
  pub turn : ℕ
  pub first_ends : List ℕ
  pub present : List (List (List ℕ))
  pub compared : Compared

-- each run that is remembered of this subject is true of it and this table, and the ends of BAL, the masks and what comparisons told are the subject's
pub record AreTrue (nodes : List Node) (s : List ℕ) (found : Found) : Type 0 where
  pub places : length found.runs ≡ 32
  pub runs : AreTrueRuns nodes s found.turn found.runs
  pub more : AreTrueRuns nodes s found.turn found.more
  pub balance : IsTableIfMade s found.first_ends
  pub present : ArePresent s found.present
  pub compared : AreCompared nodes s found.compared
