-- The answer to a deferred part, from what its expression gave.
use Rattle.std.proofs.Common.{◌≡◌, false, refl, Option, None, Some, Ok, Err}
use Rattle.std.specs.Option.{is_some}
use Rattle.sno_value.specs.declared.ids.PatId.{PatId}
use Rattle.sno_value.specs.declared.kind.PrimitiveKind.{PrimitiveKind}
use Rattle.sno_value.specs.declared.value.Value.{Value as Stored}
use Rattle.sno_value.specs.declared.value.Value.TheVariants.{Pat}
use Rattle.sno_pattern.specs.Table.{tree}
use Rattle.sno_runtime.specs.declared.stops.Exit.{Exit}
use Rattle.sno_runtime.specs.declared.stops.Exit.TheVariants.{Failure, Halt}
use Rattle.sno_runtime.specs.declared.stops.Stop.{Stop}
use Rattle.sno_runtime.specs.Action.{Action, gives, settles}
use Rattle.sno_runtime.specs.Operators.{answer}
use Rattle.sno_runtime.specs.Runtime.{Runtime, tree_of, IsPatternOf}
use Rattle.sno_runtime.specs.inner.Runtime.{Does}
use Rattle.sno_runtime.specs.Values.{Value, shown, IsValueOf}
use Rattle.sno_runtime.proofs.Outcomes.{gives_does, then_got, then_err}
use Rattle.sno_statement.specs.inner.Given.{given_of, IsGivenOf}
use Rattle.sno_statement.specs.Running.{CanRun, Devices, Runs}
use Rattle.sno_statement.specs.Turns.{answer_of}
use Rattle.sno_statement.proofs.RunningLaws.{does_runs, runs_got, runs_failed, runs_halt}

-- the pattern of what an expression gave

pub answered : (primitive : Option PrimitiveKind) (act : Action Value) (a b c : Runtime) (d e : Devices) (v : Stored) (id : PatId)
    → Runs shown IsValueOf act a b d e (Ok v) → Does tree_of IsPatternOf (answer primitive (shown b.nodes v)) b c (Ok id)
    → Runs given_of IsGivenOf (settles act (answer_of primitive)) a c d e (Ok (Some id))
answered primitive act a b c d e v id did made =
    runs_got shown IsValueOf given_of IsGivenOf act (answer_of primitive) a b c d e e v (Ok (Some id)) did
    (does_runs given_of IsGivenOf _ b c e (Ok (Some id)) did.ready
    (then_got tree_of IsPatternOf given_of IsGivenOf (answer primitive (shown b.nodes v)) (λ p. gives (Some p)) b c c id (Ok (Some id)) made
    (gives_does given_of IsGivenOf c (Some id) (Some (tree_of c.nodes id)) refl made.answer)))

pub refused : (primitive : Option PrimitiveKind) (act : Action Value) (a b c : Runtime) (d e : Devices) (v : Stored) (x : Exit)
    → Runs shown IsValueOf act a b d e (Ok v) → Does {X = PatId} tree_of IsPatternOf (answer primitive (shown b.nodes v)) b c (Err x)
    → Runs {X = Option PatId} given_of IsGivenOf (settles act (answer_of primitive)) a c d e (Err x)
refused primitive act a b c d e v x did made =
    runs_got {Y = Option PatId} shown IsValueOf given_of IsGivenOf act (answer_of primitive) a b c d e e v (Err x) did
    (does_runs {X = Option PatId} given_of IsGivenOf _ b c e (Err x) did.ready
    (then_err {X = PatId} {Y = Option PatId} tree_of IsPatternOf given_of IsGivenOf (answer primitive (shown b.nodes v)) (λ p. gives (Some p)) b c x made))

pub none_given : (primitive : Option PrimitiveKind) (act : Action Value) (a b : Runtime) (d e : Devices)
    → Runs {X = Stored} shown IsValueOf act a b d e (Err Failure)
    → Runs {X = Option PatId} given_of IsGivenOf (settles act (answer_of primitive)) a b d e (Ok None)
none_given primitive act a b d e did =
    runs_failed {X = Stored} {Y = Option PatId} shown IsValueOf given_of IsGivenOf act (answer_of primitive) a b b d e e (Ok None) did
    (does_runs {X = Option PatId} given_of IsGivenOf (gives None) b b e (Ok None) did.ready
    (gives_does {X = Option PatId} given_of IsGivenOf b None None refl tt))

-- a variable holds the pattern
pub held_answered : (primitive : Option PrimitiveKind) (act : Action Value) (a : Runtime) (d : Devices) (id : PatId) → is_some primitive ≡ false
    → CanRun a d → Does shown IsValueOf act a a (Ok (Pat id)) → Runs given_of IsGivenOf (settles act (answer_of primitive)) a a d d (Ok (Some id))
held_answered None act a d id none can did =
    answered None act a a a d d (Pat id) id (does_runs shown IsValueOf act a a d (Ok (Pat id)) can did)
    (gives_does tree_of IsPatternOf a id (tree a.nodes id.0) refl did.answer)
held_answered (Some p) act a d id none can did = absurd (cc)

pub halted : (primitive : Option PrimitiveKind) (act : Action Value) (a b : Runtime) (d e : Devices) (why : Stop)
    → Runs {X = Stored} shown IsValueOf act a b d e (Err (Halt why))
    → Runs {X = Option PatId} given_of IsGivenOf (settles act (answer_of primitive)) a b d e (Err (Halt why))
halted primitive act a b d e why did = runs_halt {X = Stored} {Y = Option PatId} shown IsValueOf given_of IsGivenOf act (answer_of primitive) a b d e why did
