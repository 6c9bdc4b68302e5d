-- A listing whose lines are told one after another.
use Rattle.std.specs.Prelude.{◌≡◌, ◌≤◌, ℕ, ◌+◌, ◌-◌, ◌*◌, Bool, List, [], ◌∷◌, ◌++◌, length, Option, None, Some}
use Rattle.std.specs.List.{AllByRecursion}
use Rattle.sno_io.specs.Devices.{Begins}
use Rattle.sno_value.specs.declared.ids.ExprId.{ExprId}
use Rattle.sno_text.specs.Program.{Program}
use Rattle.sno_pattern.specs.Table.{tree}
use Rattle.sno_match.specs.Matching.{Matching, answers_of, told_of}
use Rattle.sno_match.specs.Search.{Event, Value}
use Rattle.sno_runtime.specs.Action.{Outcome, Action, either}
use Rattle.sno_runtime.specs.Runtime.{Runtime, world}
use Rattle.sno_statement.specs.Turns.{most_events}
use Rattle.snobol.specs.declared.enumeration.WaysOutcome.{WaysOutcome}
use Rattle.snobol.specs.declared.enumeration.WaysOutcome.TheVariants.{Done, Refused, Error as HasError, NoMemory}
use Rattle.snobol.specs.declared.enumeration.WaysOutcome.TheVariants.{WriteFault}
use Rattle.snobol.specs.Listing.{lists, lists_events, listing, outcome_of}
use Rattle.snobol.specs.Reading.{IsRead}

-- what contracts see of such a listing: the pattern that was read, what it is matched with, what its expressions can
-- change, the search, once the pattern was evaluated, and the end that was told
pub record Enumeration : Type 0 where
  pub program : Program
  pub number : ExprId
  pub subject : List ℕ
  pub anchored : Bool
  pub limit : ℕ
  pub state : Runtime
  pub search : Option Matching
  pub ended : Option WaysOutcome

-- lists the events behind those that a search has told
abbrev pub lists_rest : Program → Matching → Action Unit
lists_rest program m =
    lists_events program (tree m.nodes m.pattern.0) m.subject m.anchored m.limit (most_events m.limit - m.told)
    (answers_of m.nodes m.answers) m.told

-- lists what is left: all, before the pattern is evaluated
abbrev pub left_of : Program → ExprId → List ℕ → Bool → ℕ → Option Matching → Action Unit
left_of program e subject anchored limit =
    either (lists program e subject anchored limit) (lists_rest program)

-- how what is left will end, and its lines
abbrev pub rest_of : Enumeration → Outcome Unit
rest_of w = left_of w.program w.number w.subject w.anchored w.limit w.search (world w.state [])

-- a pattern that is read, of which nothing was told: all of its listing is left
pub record IsBegun (pattern subject : List ℕ) (anchored : Bool) (limit : ℕ) (w : Enumeration) : Type 0 where
  pub read : IsRead pattern w.program w.number
  pub subject_is : w.subject ≡ subject
  pub anchored_is : w.anchored ≡ anchored
  pub limit_is : w.limit ≡ limit
  pub unsearched : w.search ≡ None
  pub going : w.ended ≡ None
  pub whole : rest_of w ≡ listing w.program w.number subject anchored limit

-- these lines were written of what was left, and this is left
pub record Leaves (before after : Outcome Unit) (wrote : List ℕ) : Type 0 where
  pub ends : before.ending ≡ after.ending
  pub lines : before.wrote ≡ wrote ++ after.wrote

-- What was left has ended, and these were its lines; where it was broken off, a beginning of them.
abbrev pub EndsIn : Outcome Unit → List ℕ → WaysOutcome → Type 0
EndsIn before wrote Done = (outcome_of before.ending ≡ Done) × (before.wrote ≡ wrote)
EndsIn before wrote (HasError code) = (outcome_of before.ending ≡ HasError code) × (before.wrote ≡ wrote)
EndsIn before wrote (Refused error) = ⊥
EndsIn before wrote NoMemory = Begins wrote before.wrote
EndsIn before wrote WriteFault = Begins wrote before.wrote

-- what a call does that writes this: it goes on, or tells the end
abbrev pub Goes : Outcome Unit → Outcome Unit → List ℕ → Option WaysOutcome → Type 0
Goes before after wrote None = Leaves before after wrote
Goes before after wrote (Some outcome) = EndsIn before wrote outcome

-- a deferred part has no line
abbrev pub IsDeferred : Event → Type 0
IsDeferred (Value primitive e) = Unit {0}
IsDeferred event = ⊥

-- the events that a search has told
abbrev pub events_told : Option Matching → List (Event × ℕ)
events_told None = []
events_told (Some m) = told_of m

-- One event with a line was told, behind deferred parts. The search has taken the steps up to that event, and no more;
-- it tells fewer events than this.
pub record TellsLine (before after : Option Matching) (limit : ℕ) : Type 0 where
  pub search : Matching
  pub after_is : after ≡ Some search
  pub parts : List (Event × ℕ)
  pub deferred : AllByRecursion (λ told. IsDeferred told.0) parts
  pub line : Event
  pub has_line : IsDeferred line → ⊥
  pub told : events_told after ≡ events_told before ++ (parts ++ (line, search.steps) ∷ [])
  pub few : length (events_told after) ≤ 2 * limit + 2
