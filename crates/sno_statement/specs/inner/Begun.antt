-- A match of which nothing was told. These words are private to the interpreter.
use Rattle.std.specs.Prelude.{◌≡◌, ℕ, Option, None, Some, Result, Ok, Err}
use Rattle.sno_match.specs.Matching.{Matching, begins}
use Rattle.sno_runtime.specs.Keywords.{is_anchored}
use Rattle.sno_runtime.specs.Action.{Action}
use Rattle.sno_runtime.specs.Runtime.{Runtime, itself}
use Rattle.sno_runtime.specs.declared.stops.Exit.{Exit}
use Rattle.sno_statement.specs.Running.{Devices, IsSpanOf, Runs}

-- it is of the machine's patterns, and its keywords are those of the match
abbrev pub IsBegun : Runtime → Matching → Type 0
IsBegun s m = m ≡ begins s.nodes m.pattern m.subject (is_anchored s.keywords.anchor) s.keywords.steps m.records

-- What the match does was found directly, where its first way begins and ends or that it has none; or it wasn't, and
-- nothing was done.
abbrev pub IsDirect : Action (ℕ × ℕ) → ℕ → Runtime → Runtime → Devices → Devices → Result (Option (ℕ × ℕ)) Exit → Type 0
IsDirect act n before after old new (Ok None) = (after ≡ before) × (new ≡ old)
IsDirect act n before after old new (Ok (Some span)) = Runs itself (IsSpanOf n) act before after old new (Ok span)
IsDirect act n before after old new (Err e) = Runs {X = ℕ × ℕ} itself (IsSpanOf n) act before after old new (Err e)
