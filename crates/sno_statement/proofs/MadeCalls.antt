-- Calls of functions that the program has made: constructors, fields and those with a definition.
use Rattle.std.proofs.Common.{◌≡◌, ℕ, ◌++◌, true, false, List, refl, ap, sym, subst, None, Some, Result}
use Rattle.sno_value.specs.declared.value.Value.{Value as Stored}
use Rattle.sno_pattern.specs.Table.{Node}
use Rattle.sno_store.specs.declared.functions.Function.{Function}
use Rattle.sno_store.specs.declared.functions.Function.TheVariants.{Undefined, Defined, Constructs, IsField}
use Rattle.sno_store.specs.Functions.{function_at, as_constructor, is_field}
use Rattle.sno_runtime.specs.declared.stops.Exit.{Exit}
use Rattle.sno_runtime.specs.Action.{Action, Outcome}
use Rattle.sno_runtime.specs.Fields.{constructs, field_value}
use Rattle.sno_runtime.specs.Operators.{argument}
use Rattle.sno_runtime.specs.Runtime.{Runtime, world}
use Rattle.sno_runtime.specs.inner.Runtime.{Does}
use Rattle.sno_runtime.specs.Values.{Value, shown, IsValueOf}
use Rattle.sno_expression.specs.Evaluate.{Caller, call_as, made_call}
use Rattle.sno_statement.specs.Running.{Devices, CanRun, Runs, MeetsRunning}
use Rattle.sno_statement.proofs.RunningLaws.{does_runs}

-- an action that is another one in the worlds of a state
runs_as : {X A : Type 0} (see : List Node → X → A) (fits : List Node → X → Type 0) (act other : Action A) (a b : Runtime) (d e : Devices) (r : Result X Exit)
    → ((more : List ℕ) → act (world a more) ≡ other (world a more)) → Runs see fits other a b d e r → Runs see fits act a b d e r
runs_as {A = A} see fits act other a b d e r same p = record {
  given = p.given;
  wrote = p.wrote;
  consumed = p.consumed;
  appends = p.appends;
  ended = p.ended;
  tells = p.tells;
  grows = p.grows;
  goes = p.goes;
  calls = p.calls;
  meets = λ more none. subst (λ (o : Outcome A). MeetsRunning (see b.nodes) o (world b more) p.wrote r) (sym (same (p.given ++ more))) (p.meets more none);
  answer = p.answer;
  ready = p.ready;
  cause = p.cause;
}

module _ (call : Caller) (f : ℕ) (xs : List Value) where
  constructor_call : (k : Function) (number : ℕ) → as_constructor k ≡ Some number → call_as call f xs k ≡ constructs number xs
  constructor_call Undefined number is = absurd (cc is)
  constructor_call (Defined d) number is = absurd (cc is)
  constructor_call (Constructs n) number is = let same : n ≡ number = cc is in ap (λ n. constructs n xs) same
  constructor_call IsField number is = absurd (cc is)

  field_call : (k : Function) → is_field k ≡ true → call_as call f xs k ≡ field_value f (argument xs 0)
  field_call Undefined is = absurd (cc is)
  field_call (Defined d) is = absurd (cc is)
  field_call (Constructs n) is = absurd (cc is)
  field_call IsField is = refl

  other_call : (k : Function) → as_constructor k ≡ None → is_field k ≡ false → call_as call f xs k ≡ call f xs
  other_call Undefined none other = refl
  other_call (Defined d) none other = refl
  other_call (Constructs n) none other = absurd (cc none)
  other_call IsField none other = absurd (cc other)

  module _ (a b : Runtime) (d : Devices) (r : Result Stored Exit) where
    pub constructed_runs : (number : ℕ) → CanRun a d → as_constructor (function_at a.store.functions f) ≡ Some number
        → Does shown IsValueOf (constructs number xs) a b r → Runs shown IsValueOf (made_call call f xs) a b d d r
    constructed_runs number can is did =
        runs_as shown IsValueOf (made_call call f xs) (constructs number xs) a b d d r
        (λ more. ap (λ (act : Action Value). act (world a more)) (constructor_call (function_at a.store.functions f) number is))
        (does_runs shown IsValueOf (constructs number xs) a b d r can did)

    pub field_runs : CanRun a d → is_field (function_at a.store.functions f) ≡ true → Does shown IsValueOf (field_value f (argument xs 0)) a b r
        → Runs shown IsValueOf (made_call call f xs) a b d d r
    field_runs can is did =
        runs_as shown IsValueOf (made_call call f xs) (field_value f (argument xs 0)) a b d d r
        (λ more. ap (λ (act : Action Value). act (world a more)) (field_call (function_at a.store.functions f) is))
        (does_runs shown IsValueOf (field_value f (argument xs 0)) a b d r can did)

    pub defined_runs : (e : Devices) → as_constructor (function_at a.store.functions f) ≡ None → is_field (function_at a.store.functions f) ≡ false
        → Runs shown IsValueOf (call f xs) a b d e r → Runs shown IsValueOf (made_call call f xs) a b d e r
    defined_runs e none other p =
        runs_as shown IsValueOf (made_call call f xs) (call f xs) a b d e r
        (λ more. ap (λ (act : Action Value). act (world a more)) (other_call (function_at a.store.functions f) none other)) p
