-- The listing of a pattern's ways: what `ways` writes, and how it ends.
use Rattle.std.specs.Prelude.{◌≡◌, ◌⊎◌, ℕ, nat_lt, Bool, List, [], if◌then◌else◌, length, codes, Option}
use Rattle.sno_io.specs.Devices.{Begins}
use Rattle.sno_value.specs.declared.ids.ExprId.{ExprId}
use Rattle.sno_text.specs.Program.{Program}
use Rattle.sno_pattern.specs.Pattern.{Pattern}
use Rattle.sno_match.specs.Search.{Event, Answer, trace}
use Rattle.snobol.specs.declared.enumeration.WaysOutcome.{WaysOutcome}
use Rattle.snobol.specs.declared.enumeration.WaysOutcome.TheVariants.{Done, Refused, Error as HasError, NoMemory}
use Rattle.snobol.specs.declared.enumeration.WaysOutcome.TheVariants.{WriteFault}
use Rattle.sno_runtime.specs.World.{new_world, listing_keywords}
use Rattle.sno_runtime.specs.Action.{Error, ErrorIn, Ended, Ending, Got, Fails, Stops, Outcome, Action, gives, stops}
use Rattle.sno_runtime.specs.Action.{settles, either, and_then}
use Rattle.sno_expression.specs.Forms.{value}
use Rattle.sno_runtime.specs.Operators.{as_pattern}
use Rattle.sno_expression.specs.Evaluate.{expression}
use Rattle.snobol.specs.Meaning.{calls}
use Rattle.snobol.specs.Reading.{IsRead, IsRefusal}
use Rattle.sno_runtime.specs.Variables.{writes}
use Rattle.sno_runtime.specs.Effects.{listed}
use Rattle.sno_statement.specs.Turns.{answers, session, most_events}

-- an event's line is written and the event takes effect, and then the next ones do; a deferred part has no line
abbrev pub lists_event : List ℕ → Event → Action Unit → Action Unit
lists_event subject event next = and_then (listed subject event) (λ done. next)

abbrev pub lists_events : Program → Pattern → List ℕ → Bool → ℕ → ℕ → List Answer → ℕ → Action Unit
lists_events program p subject anchored limit =
    session (lists_event subject) (answers program (calls program))
    (λ given. trace p subject anchored limit given) (gives tt)

-- the events of the whole trace; a pattern that failed while it was built has no way
abbrev pub lists_ways : Program → List ℕ → Bool → ℕ → Option Pattern → Action Unit
lists_ways program subject anchored limit =
    either (writes (codes "exhausted\n")) (λ p. lists_events program p subject anchored limit (most_events limit) [] 0)

-- The subject's length is judged, then the pattern is evaluated, and then its ways are listed.
abbrev pub lists : Program → ExprId → List ℕ → Bool → ℕ → Action Unit
lists program e subject anchored limit =
    if nat_lt 1_000_000 (length subject) then stops (Error 8)
    else settles (and_then (expression program (calls program) (value e)) as_pattern)
    (lists_ways program subject anchored limit)

-- how the listing of a pattern that is read ends, and its lines
abbrev pub listing : Program → ExprId → List ℕ → Bool → ℕ → Outcome Unit
listing program e subject anchored limit =
    lists program e subject anchored limit (new_world [] (listing_keywords anchored 1_000_000 limit))

-- how a listing has ended: an error is told by its code, and behind anything else nothing more is to be listed
abbrev pub outcome_of : Ending Unit → WaysOutcome
outcome_of (Got done) = Done
outcome_of Fails = Done
outcome_of (Stops (Error code)) = HasError code
outcome_of (Stops (ErrorIn code statement)) = HasError code
outcome_of (Stops Ended) = Done

-- The pattern's text is read, and this is the listing's outcome and its lines.
pub record IsListed (pattern subject : List ℕ) (anchored : Bool) (limit : ℕ) (outcome : WaysOutcome)
    (lines : List ℕ) : Type 0 where
  pub program : Program
  pub number : ExprId
  pub read : IsRead pattern program number
  pub ends : outcome_of (listing program number subject anchored limit).ending ≡ outcome
  pub written : (listing program number subject anchored limit).wrote ≡ lines

-- The pattern's text is read, and these bytes begin the listing's lines.
pub record IsCutShort (pattern subject : List ℕ) (anchored : Bool) (limit : ℕ) (bytes : List ℕ) : Type 0 where
  pub program : Program
  pub number : ExprId
  pub read : IsRead pattern program number
  pub begins : Begins bytes (listing program number subject anchored limit).wrote

-- What was written is the listing of the pattern's ways with this
-- outcome; where it was broken off, a beginning of its lines.
abbrev pub IsListing : List ℕ → List ℕ → Bool → ℕ → WaysOutcome → List ℕ → Type 0
IsListing pattern subject anchored limit Done wrote = IsListed pattern subject anchored limit Done wrote
IsListing pattern subject anchored limit (HasError code) wrote =
    IsListed pattern subject anchored limit (HasError code) wrote
IsListing pattern subject anchored limit (Refused error) wrote = IsRefusal pattern error × (wrote ≡ [])
IsListing pattern subject anchored limit NoMemory wrote = (wrote ≡ []) ⊎ IsCutShort pattern subject anchored limit wrote
IsListing pattern subject anchored limit WriteFault wrote = IsCutShort pattern subject anchored limit wrote
