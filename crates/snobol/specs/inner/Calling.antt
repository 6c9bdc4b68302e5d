-- What a closure does of a call of the program's functions. These words are private to the interpreter.
use Rattle.std.specs.Prelude.{◌≡◌, ℕ, ◌-◌, List, length, map, Result}
use Rattle.std.specs.Borrow.{MutBor}
use Rattle.std.specs.List.{AllByRecursion}
use Rattle.sno_value.specs.declared.ids.SymId.{SymId}
use Rattle.sno_value.specs.declared.value.Value.{Value as Stored}
use Rattle.sno_io.specs.Devices.{Drain, Feed}
use Rattle.sno_text.specs.Program.{Program}
use Rattle.sno_runtime.specs.declared.stops.Exit.{Exit}
use Rattle.sno_runtime.specs.Runtime.{Runtime}
use Rattle.sno_runtime.specs.Values.{shown, IsValueOf}
use Rattle.snobol.specs.Meaning.{call_at}
use Rattle.sno_statement.specs.Running.{CanRun, Runs, devices}

-- A closure does calls that stand inside so many open ones: what it owes of a call, and what that did. `feed` and
-- `drain` say what a reader and a writer tell.
pub record Calling {R W : Type 0} (feed : R → Feed) (drain : W → Drain) (program : Program) (level : ℕ)
    (pre : MutBor Runtime → MutBor R → MutBor W → SymId → MutBor (List Stored) → Type 0)
    (post : MutBor Runtime → MutBor R → MutBor W → SymId → MutBor (List Stored) → Result Stored Exit → MutBor Runtime
    → MutBor R → MutBor W → MutBor (List Stored) → Type 0) : Type 0 where
  pub callable : (m : MutBor Runtime) (r : MutBor R) (w : MutBor W) (f : SymId) (xs : MutBor (List Stored))
      → length m.now.store.calls ≡ level
      → CanRun m.now (devices (feed r.now) (drain w.now))
      → AllByRecursion (IsValueOf m.now.nodes) xs.now → pre m r w f xs
  pub meant : (m : MutBor Runtime) (r : MutBor R) (w : MutBor W) (f : SymId) (xs : MutBor (List Stored))
      (x : Result Stored Exit) (m1 : MutBor Runtime) (r1 : MutBor R) (w1 : MutBor W) (xs1 : MutBor (List Stored))
      → post m r w f xs x m1 r1 w1 xs1
      → Runs shown IsValueOf (call_at program (200 - level) f.0 (map (shown m.now.nodes) xs.now)) m.now m1.now
      (devices (feed r.now) (drain w.now)) (devices (feed r1.now) (drain w1.now)) x
