-- The counts of turns in the definitions of matches, listings and chains of statements: they are there so that the
-- definitions end, and cut nothing off.
use Rattle.std.specs.Prelude.{◌≡◌, ◌≢◌, ℕ, ◌+◌, Bool, List, []}
use Rattle.sno_pattern.specs.Pattern.{Pattern}
use Rattle.sno_text.specs.Program.{Program}
use Rattle.sno_runtime.specs.World.{World}
use Rattle.sno_runtime.specs.Action.{Error, Stops}
use Rattle.sno_expression.specs.Evaluate.{Caller}
use Rattle.sno_statement.specs.Turns.{most_events}
use Rattle.sno_statement.specs.Matches.{first_way}
use Rattle.snobol.specs.Listing.{lists_events}
use Rattle.snobol.specs.Meaning.{chain}

-- A match and a listing are the same with more turns than most_events has.
pub record SessionsEnd : Type 0 where
  pub matches : (program : Program) (call : Caller) (p : Pattern) (subject : List ℕ) (anchored : Bool)
      (limit more : ℕ) → first_way program call p subject anchored limit (most_events limit + more) [] 0
      ≡ first_way program call p subject anchored limit (most_events limit) [] 0
  pub listings : (program : Program) (p : Pattern) (subject : List ℕ) (anchored : Bool) (limit more : ℕ)
      → lists_events program p subject anchored limit (most_events limit + more) [] 0
      ≡ lists_events program p subject anchored limit (most_events limit) [] 0

-- A chain is the same with more turns, unless its turns ran out: then it ends in an error 20 that names no statement,
-- where that of a statement that may not begin names it.
abbrev pub ChainsEnd : Type 0
ChainsEnd =
    (program : Program) (call : Caller) (most more n : ℕ) (w : World) →
    (chain program call most n w).ending ≢ Stops (Error 20) →
    chain program call (most + more) n w ≡ chain program call most n w
