-- Words of private clauses: what holds of every program and of the index of its labels.
use Rattle.std.specs.Prelude.{◌≡◌, ◌<◌, ◌≤◌, ◌^◌, ℕ, List, length, Option, Some, slice_get}
use Rattle.std.specs.Map.{lookup}
use Rattle.std.specs.Ordering.{is_eq, nat_cmp}
use Rattle.std.specs.Cmp.Lexicographic.{slice_cmp}
use Rattle.std.specs.declared.vec.Vec.{Vec}
use Rattle.std.specs.declared.alloc.Global.{Global}
use Rattle.sno_text.specs.declared.statement.Statement.{Statement}
use Rattle.sno_text.specs.declared.statement.Target.TheVariants as targets
use Rattle.sno_text.specs.declared.node.Node.{Node}
use Rattle.sno_text.specs.Program.{IsLabelled, IsStatementOf, IsTable}

-- the number at a label among the entries of an index
abbrev pub number_of : List (Vec ℕ Global × ℕ) → List ℕ → Option ℕ
number_of entries name = lookup (λ k. is_eq (slice_cmp nat_cmp name k.items)) entries

-- The entries are the labels of the statements with their numbers.
pub record IsIndex (text : List ℕ) (statements : List Statement) (entries : List (Vec ℕ Global × ℕ)) : Type 0 where
  pub sound : (name : List ℕ) (n : ℕ) → number_of entries name ≡ Some n → IsLabelled text statements name n
  pub complete : (name : List ℕ) (n : ℕ) → IsLabelled text statements name n → number_of entries name ≡ Some n

-- What is true of the parts of every program.
pub record IsWhole (text : List ℕ) (nodes : List Node) (statements : List Statement)
    (entries : List (Vec ℕ Global × ℕ)) : Type 0 where
  pub count : length nodes < 2 ^ 32
  pub few : length statements ≤ 100000
  pub table : IsTable (length text) nodes
  pub sound : (k : ℕ) (st : Statement) → slice_get statements k ≡ Some st
      → IsStatementOf (length text) (length nodes) st
  pub index : IsIndex text statements entries
