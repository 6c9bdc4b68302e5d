-- What the calls answer that ask for one line of a listing after another.
use Rattle.std.specs.Prelude.{◌≡◌, ◌≢◌, ◌≤◌, ◌<◌, ℕ, Bool, true, false, List, [], Option, Some, None, length}
use Rattle.snobol.specs.Enumeration.{Enumeration, Goes, IsBegun, TellsLine, rest_of}
use Rattle.snobol.specs.Jobs.{listed, no_memory}
use Rattle.snobol.specs.Listing.{IsListing}
use Rattle.snobol.specs.declared.enumeration.WaysOutcome.{WaysOutcome}
use Rattle.snobol.specs.declared.enumeration.WaysOutcome.TheVariants.{Done, Refused, Error, NoMemory, WriteFault}
use Rattle.sno_calls.specs.Calls.{Holds, IsTold}
use Rattle.sno_calls.specs.declared.Told.{Told}
use Rattle.sno_calls.specs.declared.search.Search.{Search}

-- all is well, and no line tells of it
abbrev pub IsWell : List ℕ → List ℕ → Told → Type 0
IsWell line_old line_new told = (told.status ≡ 0) × (told.told ≡ 0) × (line_new ≡ line_old)

-- How a listing stands: all is well where more may come, and where all lines were written; else it is told how it ended. A
-- writer that fails has found no memory.
abbrev pub IsToldOf : Option WaysOutcome → List ℕ → List ℕ → Told → Type 0
IsToldOf None line_old line_new told = IsWell line_old line_new told
IsToldOf (Some Done) line_old line_new told = IsWell line_old line_new told
IsToldOf (Some (Refused error)) line_old line_new told = IsTold (listed (Refused error)) line_old line_new told
IsToldOf (Some (Error code)) line_old line_new told = IsTold (listed (Error code)) line_old line_new told
IsToldOf (Some NoMemory) line_old line_new told = IsTold no_memory line_old line_new told
IsToldOf (Some WriteFault) line_old line_new told = IsTold no_memory line_old line_new told

-- What comes next of a listing: what is still to be given, or what its next line writes, or nothing behind its end.
pub data Writes (before : Search) (after : Enumeration) (wrote : List ℕ) : Type 0 where
  still_is : before.bytes.items ≢ [] → after ≡ before.ways → wrote ≡ before.bytes.items → Writes before after wrote
  line_is : before.bytes.items ≡ [] → before.ways.ended ≡ None
      → after ≡ record before.ways { state = after.state; search = after.search; ended = after.ended }
      → Goes (rest_of before.ways) (rest_of after) wrote after.ended
      → (after.ended ≡ None → TellsLine before.ways.search after.search before.ways.limit) → Writes before after wrote
  over_is : (outcome : WaysOutcome) → before.bytes.items ≡ [] → before.ways.ended ≡ Some outcome
      → after ≡ before.ways → wrote ≡ [] → Writes before after wrote

-- What comes next was given, and how the listing stands; or it found no room, and is still to be given.
pub data Gives (before after : Search) (out_old out_new line_old line_new : List ℕ) (told : Told) : Type 0 where
  given_is : (wrote : List ℕ) → Writes before after.ways wrote → length wrote ≤ length out_old
      → told.written ≡ length wrote → Holds out_old out_new told.written wrote
      → IsToldOf after.ways.ended line_old line_new told → after.bytes.items ≡ []
      → Gives before after out_old out_new line_old line_new told
  kept_is : (wrote : List ℕ) → Writes before after.ways wrote → length out_old < length wrote
      → told ≡ record { status = 7; written = 0; told = 0 } → out_new ≡ out_old → line_new ≡ line_old
      → after.bytes.items ≡ wrote → Gives before after out_old out_new line_old line_new told

-- Nothing was done, and no listing is held.
abbrev pub IsNotBegunIn : List ℕ → List ℕ → Bool → Told → Type 0
IsNotBegunIn line_old line_new held told =
    (told ≡ record { status = 64; written = 0; told = 0 }) × (line_new ≡ line_old) × (held ≡ false)

-- A listing was begun, and is held with nothing to give; or why there is none.
pub data IsBegunIn (pattern subject : List ℕ) (anchored : Bool) (steps : ℕ) (held : Bool) (value : Option Search)
    (line_old line_new : List ℕ) (told : Told) : Type 0 where
  begun_is : (search : Search) → value ≡ Some search → held ≡ true
      → IsBegun pattern subject anchored steps search.ways → search.bytes.items ≡ [] → told.written ≡ 0
      → IsToldOf None line_old line_new told
      → IsBegunIn pattern subject anchored steps held value line_old line_new told
  ended_is : (outcome : WaysOutcome) → IsListing pattern subject anchored steps outcome [] → held ≡ false
      → told.written ≡ 0 → IsToldOf (Some outcome) line_old line_new told
      → IsBegunIn pattern subject anchored steps held value line_old line_new told

-- no listing is held, so nothing was given
abbrev pub IsNothingIn : List ℕ → List ℕ → List ℕ → List ℕ → Told → Type 0
IsNothingIn out_old out_new line_old line_new told =
    (told ≡ record { status = 64; written = 0; told = 0 }) × (out_new ≡ out_old) × (line_new ≡ line_old)

-- the listing that is held gave what comes next, and is still held
pub record GivesIn (value_old value_new : Option Search) (held : Bool) (out_old out_new line_old line_new : List ℕ)
    (told : Told) : Type 0 where
  pub before : Search
  pub after : Search
  pub old : value_old ≡ Some before
  pub new : value_new ≡ Some after
  pub held_is : held ≡ true
  pub gives : Gives before after out_old out_new line_old line_new told
