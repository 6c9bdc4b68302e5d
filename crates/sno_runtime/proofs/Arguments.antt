-- Functions on their arguments.
use Rattle.std.proofs.Common.{◌≡◌, ℕ, ◌-◌, arith, ℤ, pos, negsuc, List, [], ◌∷◌, refl, ap, sym, ◌∙◌, subst, map, take, drop, min, slice_set, length, Option}
use Rattle.std.proofs.Common.{None, Some, Result, Ok, Err}
use Rattle.std.specs.List.{AllByRecursion}
use Rattle.std.proofs.lemmas.List.{take_all}
use Rattle.sno_value.specs.declared.ids.PatId.{PatId}
use Rattle.sno_value.specs.declared.ids.ExprId.{ExprId}
use Rattle.sno_value.specs.declared.kind.PrimitiveKind.{PrimitiveKind}
use Rattle.sno_value.specs.declared.value.Value.{Value as Stored}
use Rattle.sno_value.specs.declared.value.Value.TheVariants as stored
use Rattle.sno_pattern.specs.declared.argument.Arg.TheVariants.{Count}
use Rattle.sno_pattern.specs.Pattern.{Pattern}
use Rattle.sno_pattern.specs.Table.{Node}
use Rattle.sno_runtime.specs.declared.stops.Exit.{Exit}
use Rattle.sno_runtime.specs.Action.{Action, and_then}
use Rattle.sno_runtime.specs.Values.{Value, shown, IsValueOf}
use Rattle.sno_runtime.specs.Operators.{argument, as_pattern, makes_value, count_primitive, set_primitive, primitive, primitive_value, rest}
use Rattle.sno_runtime.specs.Variables.{wrong_type}
use Rattle.sno_runtime.specs.Runtime.{Runtime, tree_of, IsPatternOf}
use Rattle.sno_runtime.specs.inner.Runtime.{Does}
use Rattle.sno_runtime.specs.inner.Primitives.{with_bytes, makes_primitive}
use Rattle.sno_runtime.proofs.Outcomes.{then_got, then_err}
use Rattle.sno_runtime.proofs.Conversions.{as_value}

pub count_none : (kind : PrimitiveKind) (x : Option ℤ) → x ≡ None → count_primitive kind x ≡ wrong_type
count_none kind x h = rw h refl

pub set_none : (kind : PrimitiveKind) (x : Option (List ℕ)) → x ≡ None → set_primitive kind x ≡ wrong_type
set_none kind x h = rw h refl

pub count_value : (kind : PrimitiveKind) (n : ℤ) → count_primitive kind (Some n) ≡ makes_primitive kind (Count n)
count_value kind (pos n) = refl
count_value kind (negsuc n) = refl

pub set_value : (kind : PrimitiveKind) (bytes : List ℕ) → set_primitive kind (Some bytes) ≡ with_bytes kind bytes
set_value kind [] = refl
set_value kind (byte ∷ bytes) = refl

-- an argument that is no expression makes the primitive at once
pub primitive_at_once : (kind : PrimitiveKind) (nodes : List Node) (x : Stored) → ((expression : ExprId) → x ≡ stored.Expr expression → ⊥)
    → primitive_value kind (shown nodes x) ≡ as_value (primitive kind (shown nodes x))
primitive_at_once kind nodes (stored.Str bytes) isnt = refl
primitive_at_once kind nodes (stored.Int number) isnt = refl
primitive_at_once kind nodes (stored.Pat id) isnt = refl
primitive_at_once kind nodes (stored.Expr id) isnt = absurd (isnt id refl)
primitive_at_once kind nodes (stored.Name target) isnt = refl
primitive_at_once kind nodes (stored.Array id) isnt = refl
primitive_at_once kind nodes (stored.Table id) isnt = refl
primitive_at_once kind nodes (stored.Data id) isnt = refl

-- a pattern over that of a value
pub body_refused : (over : Pattern → Pattern) (x : Value) (a b : Runtime) (e : Exit) → Does {X = PatId} tree_of IsPatternOf (as_pattern x) a b (Err e)
    → Does {X = Stored} shown IsValueOf (and_then (as_pattern x) (λ p. makes_value (over p))) a b (Err e)
body_refused over x a b e h = then_err tree_of IsPatternOf shown IsValueOf (as_pattern x) (λ p. makes_value (over p)) a b e h

pub body_made : (over : Pattern → Pattern) (x : Value) (a b c : Runtime) (id : PatId) (r : Result Stored Exit)
    → Does tree_of IsPatternOf (as_pattern x) a b (Ok id) → Does shown IsValueOf (makes_value (over (tree_of b.nodes id))) b c r →
    Does shown IsValueOf (and_then (as_pattern x) (λ p. makes_value (over p))) a c r
body_made over x a b c id r h k = then_got tree_of IsPatternOf shown IsValueOf (as_pattern x) (λ p. makes_value (over p)) a b c id r h k

-- the second argument stays where the first is taken out
pub second_stays : (nodes : List Node) (v : Stored) (xs ys : List Stored) → ys ≡ slice_set xs 0 v → argument (map (shown nodes) ys) 1
    ≡ argument (map (shown nodes) xs) 1
second_stays nodes v [] ys h = rw h refl
second_stays nodes v (x ∷ xs) ys h = rw h refl

pub third_stays : (nodes : List Node) (v w : Stored) (xs ys zs : List Stored) → ys ≡ slice_set xs 0 v → zs ≡ slice_set ys 1 w
    → argument (map (shown nodes) zs) 2 ≡ argument (map (shown nodes) xs) 2
third_stays nodes v w [] ys zs h k = rw (k, h) refl
third_stays nodes v w (x ∷ []) ys zs h k = rw (k, h) refl
third_stays nodes v w (x ∷ y ∷ xs) ys zs h k = rw (k, h) refl

pub second_known : (nodes : List Node) (v : Stored) (xs ys : List Stored) → ys ≡ slice_set xs 0 v → IsValueOf nodes v → AllByRecursion (IsValueOf nodes) xs
    → AllByRecursion (IsValueOf nodes) ys
second_known nodes v [] ys h k all = rw h tt
second_known nodes v (x ∷ xs) ys h k all = rw h (k, all.1)

-- the values behind the first one, which was taken out
behind : (v : Stored) (xs ys : List Stored) (at : ℕ) → ys ≡ slice_set xs 0 v → at ≡ min (length ys) 1 → take (length ys - at) (drop at ys) ≡ drop 1 xs
behind v [] ys at h k = rw (k, h) refl
behind v (x ∷ xs) ys at h k =
    let same : at ≡ min (length (v ∷ xs)) 1 = k ∙ ap (λ zs. min (length zs) 1) h in
    let one : at ≡ 1 = omega arith in
    rw (one, h) (take_all (length (v ∷ xs) - 1) xs (omega arith))

behind_seen : (nodes : List Node) (xs : List Stored) → map (shown nodes) (drop 1 xs) ≡ rest (map (shown nodes) xs)
behind_seen nodes [] = refl
behind_seen nodes (x ∷ xs) = refl

behind_known : (nodes : List Node) (xs : List Stored) → AllByRecursion (IsValueOf nodes) xs → AllByRecursion (IsValueOf nodes) (drop 1 xs)
behind_known nodes [] h = tt
behind_known nodes (x ∷ xs) h = h.1

pub subscripts_known : (nodes : List Node) (v : Stored) (xs ys : List Stored) (at : ℕ) → ys ≡ slice_set xs 0 v → at ≡ min (length ys) 1
    → AllByRecursion (IsValueOf nodes) xs → AllByRecursion (IsValueOf nodes) (take (length ys - at) (drop at ys))
subscripts_known nodes v xs ys at h k all = subst (AllByRecursion (IsValueOf nodes)) (sym (behind v xs ys at h k)) (behind_known nodes xs all)

-- what is done with the first value and those behind it, as the code takes them
pub on_item : (act : Value → List Value → Action Value) (nodes : List Node) (v x : Stored) (xs ys : List Stored) (at : ℕ)
    (a b : Runtime) (r : Result Stored Exit)
    → shown nodes x ≡ argument (map (shown nodes) xs) 0
    → ys ≡ slice_set xs 0 v → at ≡ min (length ys) 1 → Does shown IsValueOf (act (shown nodes x) (map (shown nodes) (take (length ys - at) (drop at ys)))) a b r
    → Does shown IsValueOf (act (argument (map (shown nodes) xs) 0) (rest (map (shown nodes) xs))) a b r
on_item act nodes v x xs ys at a b r e h k did =
    let seen : map (shown nodes) (take (length ys - at) (drop at ys)) ≡ rest (map (shown nodes) xs) =
    ap (map (shown nodes)) (behind v xs ys at h k) ∙ behind_seen nodes xs in
    subst (λ (m : Action Value). Does shown IsValueOf m a b r) (λ i. act (e i) (seen i)) did
