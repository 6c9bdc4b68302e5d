-- A match whose deferred parts are evaluated as they are reached: its events, one after another, and what they do.
use Rattle.std.specs.Prelude.{ℕ, zero, suc, ◌+◌, ◌*◌, List, [], ◌∷◌, ◌++◌, slice_get, Option, None, Some}
use Rattle.sno_value.specs.declared.ids.ExprId.{ExprId}
use Rattle.sno_value.specs.declared.kind.PrimitiveKind.{PrimitiveKind}
use Rattle.sno_text.specs.Program.{Program}
use Rattle.sno_match.specs.Search.{Event, Value, Answer}
use Rattle.sno_runtime.specs.Values.{Value as Given}
use Rattle.sno_runtime.specs.Action.{Action, gives, settles, either, and_then}
use Rattle.sno_runtime.specs.Operators.{answer}
use Rattle.sno_expression.specs.Forms.{value}
use Rattle.sno_expression.specs.Evaluate.{Caller, expression}

abbrev pub numbered : ℕ → ExprId
numbered e = record { 0 = e }

-- what a deferred part is answered: the pattern of what its expression gives, or None where that fails
abbrev pub answer_of : Option PrimitiveKind → Option Given → Action Answer
answer_of primitive None = gives None
answer_of primitive (Some v) = and_then (answer primitive v) (λ p. gives (Some p))

abbrev pub answers : Program → Caller → Option PrimitiveKind → ℕ → Action Answer
answers program call primitive e = settles (expression program call (value (numbered e))) (answer_of primitive)

-- one event, and what follows it; behind a deferred part that goes on with its answer
abbrev pub after_one : {A : Type 0} → (Event → Action A → Action A) → (Option PrimitiveKind → ℕ → Action Answer)
    → (List Answer → Action A) → List Answer → Event → Action A
after_one takes asks next given (Value primitive e) = and_then (asks primitive e) (λ a. next (given ++ a ∷ []))
after_one takes asks next given event = takes event (next given)

-- The events behind the first `told` ones, of which fewer than `most` come. `trace` says what the events are for the
-- answers given so far, `asks` answers a deferred part, and
-- `takes` does what any other event does and then what follows.
unfoldable pub session : {A : Type 0} → (Event → Action A → Action A) → (Option PrimitiveKind → ℕ → Action Answer)
    → (List Answer → List (Event × ℕ)) → Action A → ℕ → List Answer → ℕ → Action A
session takes asks trace over zero given told = over
session takes asks trace over (suc most) given told =
    either over (λ next. after_one takes asks (λ more. session takes asks trace over most more (suc told)) given next.0)
    (slice_get (trace given) told)

-- more than the events of a search with so many steps, each of which a step, a way or the end precedes
abbrev pub most_events : ℕ → ℕ
most_events limit = 2 * limit + 3
