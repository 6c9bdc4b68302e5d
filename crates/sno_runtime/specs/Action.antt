-- What a part of a program does: how it ends, the world after it, and what it wrote. What is written only grows, since
-- each part's bytes stand behind those of the part before.
use Rattle.std.specs.Prelude.{ℕ, List, [], ◌++◌, Option, None, Some}
use Rattle.sno_runtime.specs.World.{World}

-- why a run is over
pub data End : Type 0 where
  Error : (code : ℕ) → End
  -- an error with the number of the statement that it names
  ErrorIn : (code statement : ℕ) → End
  -- the program came to its END
  Ended : End

-- a value, failure, or the end of the run
pub data Ending (A : Type 0) : Type 0 where
  Got : (value : A) → Ending A
  Fails : Ending A
  Stops : (why : End) → Ending A

pub record Outcome (A : Type 0) : Type 0 where
  pub ending : Ending A
  pub world : World
  pub wrote : List ℕ

abbrev pub Action : Type 0 → Type 0
Action A = World → Outcome A

abbrev pub gives : {A : Type 0} → A → Action A
gives a w = record { ending = Got a; world = w; wrote = [] }

abbrev pub fails : {A : Type 0} → Action A
fails w = record { ending = Fails; world = w; wrote = [] }

abbrev pub stops : {A : Type 0} → End → Action A
stops why w = record { ending = Stops why; world = w; wrote = [] }

-- what has ended so goes on with its value, or with None where it failed
abbrev pub settled : {A B : Type 0} → Ending A → World → List ℕ → (Option A → World → Outcome B) → Outcome B
settled (Got a) w wrote next =
    record {
      ending = (next (Some a) w).ending;
      world = (next (Some a) w).world;
      wrote = wrote ++ (next (Some a) w).wrote;
    }
settled Fails w wrote next =
    record { ending = (next None w).ending; world = (next None w).world; wrote = wrote ++ (next None w).wrote }
settled (Stops why) w wrote next = record { ending = Stops why; world = w; wrote = wrote }

-- m, and then next with its value, or with None where m fails
unfoldable pub settles : {A B : Type 0} → Action A → (Option A → Action B) → Action B
settles m next w = settled (m w).ending (m w).world (m w).wrote next

abbrev pub either : {A B : Type 0} → B → (A → B) → Option A → B
either none some None = none
either none some (Some x) = some x

-- m, and then next with its value; where m fails all fails
abbrev pub and_then : {A B : Type 0} → Action A → (A → Action B) → Action B
and_then m next = settles m (either fails next)

-- An error names the statement that is performed. What fails
-- behind a statement is where it goes on, and that is error 11.
abbrev pub named_end : {A : Type 0} → ℕ → Ending A → Ending A
named_end statement (Got a) = Got a
named_end statement Fails = Stops (ErrorIn 11 statement)
named_end statement (Stops (Error code)) = Stops (ErrorIn code statement)
named_end statement (Stops (ErrorIn code inner)) = Stops (ErrorIn code inner)
named_end statement (Stops Ended) = Stops Ended

abbrev pub in_statement : {A : Type 0} → ℕ → Action A → Action A
in_statement statement m w =
    record { ending = named_end statement (m w).ending; world = (m w).world; wrote = (m w).wrote }
