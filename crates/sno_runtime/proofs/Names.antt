-- Names that become values, and values that name.
use Rattle.std.proofs.Common.{◌≡◌, ℕ, List, refl, Option, None, Ok, Err}
use Rattle.sno_value.specs.declared.value.Name.{Name as Target}
use Rattle.sno_value.specs.declared.value.Value.{Value as Stored}
use Rattle.sno_value.specs.declared.value.Value.TheVariants as stored
use Rattle.sno_pattern.specs.Table.{Node}
use Rattle.sno_runtime.specs.declared.stops.Exit.{Exit}
use Rattle.sno_runtime.specs.Action.{Action, gives}
use Rattle.sno_runtime.specs.Values.{Name, shown, IsValueOf}
use Rattle.sno_runtime.specs.Variables.{wrong_type, text_of, variable_named, named_by}
use Rattle.sno_runtime.specs.Operators.{as_value}
use Rattle.sno_runtime.specs.Action.{either}
use Rattle.sno_runtime.specs.Runtime.{Runtime, itself}
use Rattle.sno_runtime.specs.inner.Runtime.{Does, any}
use Rattle.sno_runtime.proofs.Outcomes.{then_got, then_err, gives_does}

pub name_given : (act : Action Target) (a b : Runtime) (target : Target) → Does itself any act a b (Ok target)
    → Does shown IsValueOf (as_value act) a b (Ok (stored.Name target))
name_given act a b target h = then_got itself any shown IsValueOf act (λ target. gives (Name target)) a b b target (Ok (stored.Name target)) h
    (gives_does shown IsValueOf b (stored.Name target) (Name target) refl tt)

pub name_refused : (act : Action Target) (a b : Runtime) (e : Exit) → Does {X = Target} itself any act a b (Err e)
    → Does {X = Stored} shown IsValueOf (as_value act) a b (Err e)
name_refused act a b e h = then_err itself any shown IsValueOf act (λ target. gives (Name target)) a b e h

-- a value that is no name names by its text
pub named_by_text : (nodes : List Node) (x : Stored) → ((target : Target) → x ≡ stored.Name target → ⊥) → named_by (shown nodes x)
    ≡ either wrong_type variable_named (text_of (shown nodes x))
named_by_text nodes (stored.Str bytes) isnt = refl
named_by_text nodes (stored.Int number) isnt = refl
named_by_text nodes (stored.Pat id) isnt = refl
named_by_text nodes (stored.Expr id) isnt = refl
named_by_text nodes (stored.Name target) isnt = absurd (isnt target refl)
named_by_text nodes (stored.Array id) isnt = refl
named_by_text nodes (stored.Table id) isnt = refl
named_by_text nodes (stored.Data id) isnt = refl

pub unnamed : (o : Option (List ℕ)) → o ≡ None → either wrong_type variable_named o ≡ wrong_type
unnamed o h = rw h refl
