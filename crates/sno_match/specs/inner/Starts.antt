-- Starts that fail at once. These words are private to the matcher.
use Rattle.std.specs.Prelude.{ℕ, ◌≡◌, ◌+◌, Bool, false, List, [], ◌∷◌, map}
use Rattle.sno_pattern.specs.Pattern.{Pattern}
use Rattle.sno_pattern.specs.Places.{stands_at}
use Rattle.sno_match.specs.declared.event.Pending.{Pending}
use Rattle.sno_match.specs.Search.{Goal, Match, Exhausted, Answer, Search, Gives, further, search}
use Rattle.sno_match.specs.inner.Running.{later_starts}

-- the searches from the starts behind this one
abbrev pub searches_behind : Bool → Pattern → List ℕ → ℕ → List Search
searches_behind anchored p s start = map (λ b. search s b (Match p ∷ []) b []) (later_starts anchored s start)

-- from the cursor the pattern is searched in vain, which takes so many steps, whatever comes behind it
pub record FailsAt (p : Pattern) (s : List ℕ) (price c : ℕ) : Type 0 where
  pub fails : (start : ℕ) (rest : List Goal) (pending : List Pending) (answers : List Answer)
      (due left : ℕ) → due ≡ left + price →
      search s start (Match p ∷ rest) c pending answers due ≡ Gives [] answers left Exhausted

-- from the cursor a search for the one is, so many steps later, a search for the other, whatever comes behind it
pub record GivesWay (p q : Pattern) (s : List ℕ) (price c : ℕ) : Type 0 where
  pub gives_way : (start : ℕ) (rest : List Goal) (pending : List Pending) (answers : List Answer)
      (due left : ℕ) → due ≡ left + price →
      search s start (Match p ∷ rest) c pending answers due ≡ search s start (Match q ∷ rest) c pending answers left

-- where one is searched in vain from a cursor, so is the other, and that takes so many steps more
pub record FailsWith (p first : Pattern) (more : ℕ) : Type 0 where
  pub vain : (s : List ℕ) (price c : ℕ) → FailsAt first s price c → FailsAt p s (price + more) c

-- from each cursor at which none of these bytes stands the pattern is searched in vain, in so many steps
pub record FailsOutside (p : Pattern) (set : List ℕ) (price : ℕ) : Type 0 where
  pub outside : (s : List ℕ) (c : ℕ) → stands_at set s c ≡ false → FailsAt p s price c

-- where the search from one start is exhausted, that from the
-- other is exhausted so many steps later, and nothing is told
pub record Passes (anchored : Bool) (p : Pattern) (s : List ℕ) (from to price : ℕ) : Type 0 where
  pub passes : (answers : List Answer) (due left : ℕ) → due ≡ left + price →
      further (Gives [] answers due Exhausted) (searches_behind anchored p s from)
      ≡ further (Gives [] answers left Exhausted) (searches_behind anchored p s to)

-- from the cursor these goals are searched in vain, which takes so many steps, whatever waits
pub record GoalsFail (s : List ℕ) (goals : List Goal) (price c : ℕ) : Type 0 where
  pub fails : (start : ℕ) (pending : List Pending) (answers : List Answer) (due left : ℕ) → due ≡ left + price →
      search s start goals c pending answers due ≡ Gives [] answers left Exhausted
