-- What a call that tells a line has done, and answers.
use Rattle.std.proofs.Common.{◌≡◌, ◌≤◌, ℕ, Bool, true, false, List, [], ◌++◌, length, refl, sym, subst, Option, None, Some, Result, Ok, Err}
use Rattle.std.specs.Io.KnownBytes.{Appends}
use Rattle.sno_io.proofs.Bytes.{appends_then}
use Rattle.sno_value.specs.declared.ids.ExprId.{ExprId}
use Rattle.sno_value.specs.declared.ids.PatId.{PatId}
use Rattle.sno_pattern.specs.Pattern.{Pattern}
use Rattle.sno_pattern.specs.Table.{Node}
use Rattle.sno_text.specs.Program.{Program}
use Rattle.sno_match.specs.Matching.{Matching, begins}
use Rattle.sno_match.specs.Search.{Answer}
use Rattle.sno_runtime.specs.Action.{Outcome, Action}
use Rattle.sno_runtime.specs.Runtime.{Runtime, world, tree_of, IsPatternOf}
use Rattle.sno_runtime.specs.World.{World}
use Rattle.sno_runtime.specs.declared.stops.Exit.{Exit}
use Rattle.sno_runtime.specs.declared.stops.Exit.TheVariants.{Failure, Halt}
use Rattle.sno_runtime.specs.declared.stops.Stop.TheVariants.{Error as HasError, ErrorIn as HasErrorIn, NoMemory, ReadFault, WriteFault, Ended as HasEnded}
use Rattle.sno_statement.specs.Running.{Devices, Runs}
use Rattle.sno_statement.proofs.SessionLaws.{Follows, given_to}
use Rattle.snobol.specs.declared.enumeration.WaysOutcome.{WaysOutcome}
use Rattle.snobol.specs.declared.enumeration.WaysOutcome.TheVariants as ways
use Rattle.snobol.specs.Enumeration.{Goes, Leaves, left_of, lists_rest}
use Rattle.snobol.specs.Listing.{lists}
use Rattle.snobol.specs.inner.Telling.{ended_by}
use Rattle.snobol.proofs.EnumerationLaws.{Nothing, built, to_end}
use Rattle.snobol.proofs.LineLaws.{built_left, goes_then, rest_followed}

-- what is left of a session is what the search has left
pub rest_left : (start : Outcome Unit) (program : Program) (m : Matching) (nodes : List Node) (p : Pattern) (subject : List ℕ) (anchored : Bool) (limit : ℕ)
    (given : List Answer) (told : ℕ) (w : World) (wrote : List ℕ) → Follows m nodes p subject anchored limit → given_to m ≡ given → m.told ≡ told
    → Leaves start (to_end program p subject anchored limit given told w) wrote → Leaves start (lists_rest program m w) wrote
rest_left start program m nodes p subject anchored limit given told w wrote follows g t h =
    subst (λ (act : Action Unit). Leaves start (act w) wrote) (sym (rest_followed program m nodes p subject anchored limit follows))
    (subst (λ (answers : List Answer). Leaves start (to_end program p subject anchored limit answers m.told w) wrote) (sym g)
    (subst (λ (n : ℕ). Leaves start (to_end program p subject anchored limit given n w) wrote) (sym t) h))

-- the same search
pub left_here : (program : Program) (e : ExprId) (subject : List ℕ) (anchored : Bool) (limit : ℕ) (s t : Option Matching) (v : World)
    (after : Outcome Unit) (taken now : Option (List ℕ)) (told : Option WaysOutcome) → s ≡ t
    → (wrote : List ℕ) × Appends taken now wrote × Goes (left_of program e subject anchored limit t v) after wrote told
    → (wrote : List ℕ) × Appends taken now wrote × Goes (left_of program e subject anchored limit s v) after wrote told
left_here program e subject anchored limit s t v after taken now told is h = (
  h.0,
  h.1,
  subst (λ (search : Option Matching). Goes (left_of program e subject anchored limit search v) after h.0 told) (sym is) h.2,
)

-- of the same, and with the same answer
pub told_as : (taken now : Option (List ℕ)) (o p x y : Outcome Unit) (told answer : Option WaysOutcome) → o ≡ x → p ≡ y → told ≡ answer
    → (wrote : List ℕ) × Appends taken now wrote × Goes x y wrote answer → (wrote : List ℕ) × Appends taken now wrote × Goes o p wrote told
told_as taken now o p x y told answer before after same h = (
  h.0,
  h.1,
  subst (λ (t : Option WaysOutcome). Goes o p h.0 t) (sym same)
      (subst (λ (q : Outcome Unit). Goes q p h.0 answer) (sym before) (subst (λ (q : Outcome Unit). Goes x q h.0 answer) (sym after) h.2)),
)

-- the pattern was evaluated, and its search begun
pub first_told : (program : Program) (e : ExprId) (subject : List ℕ) (anchored : Bool) (limit : ℕ) (a b : Runtime) (d f : Devices) (id : PatId)
    (m : Matching) (records : ℕ) (after : Outcome Unit) (now : Option (List ℕ)) (told : Option WaysOutcome)
    → length subject ≤ 1_000_000 → Nothing d.reader → Runs tree_of IsPatternOf (built program e) a b d f (Ok id)
    → m ≡ begins b.nodes id subject anchored limit records
    → (wrote : List ℕ) × Appends f.writer.taken now wrote × Goes (lists_rest program m (world b [])) after wrote told
    → (wrote : List ℕ) × Appends d.writer.taken now wrote × Goes (lists program e subject anchored limit (world a [])) after wrote told
first_told program e subject anchored limit a b d f id m records after now told short none did is h =
    let left = subst (λ (search : Matching). Leaves (lists program e subject anchored limit (world a [])) (lists_rest program search (world b [])) did.wrote) (sym is)
    (built_left program e subject anchored limit a b d f id short none did) in (
      did.wrote ++ h.0,
      appends_then d.writer.taken f.writer.taken now did.wrote h.0 did.appends h.1,
      goes_then _ _ _ did.wrote h.0 told left h.2,
    )

pub more_may_come : (r : Result Bool Exit) → ended_by r ≡ None → r ≡ Ok true
more_may_come (Ok true) e = refl
more_may_come (Ok false) e = absurd (cc e)
more_may_come (Err exit) e = absurd (cc e)

pub writer_failed : (r : Result Bool Exit) → ended_by r ≡ Some ways.WriteFault → r ≡ Err (Halt WriteFault)
writer_failed (Ok true) e = absurd (cc e)
writer_failed (Ok false) e = absurd (cc e)
writer_failed (Err Failure) e = absurd (cc e)
writer_failed (Err (Halt (HasError code))) e = absurd (cc e)
writer_failed (Err (Halt (HasErrorIn code statement))) e = absurd (cc e)
writer_failed (Err (Halt NoMemory)) e = absurd (cc e)
writer_failed (Err (Halt ReadFault)) e = absurd (cc e)
writer_failed (Err (Halt WriteFault)) e = refl
writer_failed (Err (Halt HasEnded)) e = absurd (cc e)
