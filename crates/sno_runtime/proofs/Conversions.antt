-- What is asked of a value, and patterns that become values.
use Rattle.std.proofs.Common.{◌≡◌, ℕ, ℤ, pos, true, false, List, refl, ap, ◌∙◌, Option, None, Some, Result, Ok, Err}
use Rattle.sno_value.specs.declared.ids.PatId.{PatId}
use Rattle.sno_value.specs.declared.value.Value.{Value as Stored}
use Rattle.sno_value.specs.declared.value.Value.TheVariants as stored
use Rattle.sno_value.specs.declared.arithmetic.Arith.{Arith}
use Rattle.sno_value.specs.Arithmetic.{difference_of}
use Rattle.sno_text.specs.declared.node.Operator.{Operator}
use Rattle.sno_text.specs.declared.node.Operator.TheVariants.{Alternate, Concatenate, Add, Subtract, Divide, Multiply, Power, Conditional, Immediate}
use Rattle.sno_pattern.specs.Pattern.{Pattern, Cat}
use Rattle.sno_pattern.specs.Table.{Node}
use Rattle.sno_runtime.specs.declared.stops.Exit.{Exit}
use Rattle.sno_runtime.specs.declared.stops.Exit.TheVariants.{Failure, Halt}
use Rattle.sno_runtime.specs.declared.stops.Stop.TheVariants.{Error as HasError, ErrorIn as HasErrorIn, NoMemory, ReadFault, WriteFault, Ended as HasEnded}
use Rattle.sno_runtime.specs.Action.{Action, gives, and_then, either}
use Rattle.sno_runtime.specs.Values.{Value, Pat, Name, shown, IsValueOf, is_null}
use Rattle.sno_runtime.specs.Operators.{operation, makes_value, is_patternable, as_pattern, joined_patterns, joined, concatenation, pattern_with_target}
use Rattle.sno_runtime.specs.Numbers.{number_of, on_numbers, result_of}
use Rattle.sno_value.specs.declared.value.Name.{Name as Target}
use Rattle.sno_runtime.specs.Variables.{wrong_type, text_of}
use Rattle.sno_runtime.specs.Runtime.{Runtime, tree_of, IsPatternOf}
use Rattle.sno_runtime.specs.inner.Runtime.{Does}
use Rattle.sno_runtime.specs.inner.Converted.{has_text, IsThere}
use Rattle.sno_runtime.specs.inner.Operations.{both, is_arithmetic, calculated}
use Rattle.sno_runtime.proofs.Outcomes.{gives_does, stops_does, no_memory_does, grows_none, shown_stays, then_got, then_err}
use Rattle.sno_runtime.proofs.Builders.{tree_stays}

-- what isn't there is error 1
pub missing_in : {X A Y B : Type 0} (see : X → A) (look : List Node → Y → B) (suits : List Node → Y → Type 0) (o : Option A)
    (act : Action B) (s : Runtime) (e : Exit)
    → (o ≡ None → act ≡ wrong_type) → IsThere see o (Err e) → Does look suits act s s (Err e)
missing_in see look suits o act s Failure none h = absurd h
missing_in see look suits o act s (Halt (HasError code)) none h = rw (none h.0, h.1) (stops_does look suits s 1)
missing_in see look suits o act s (Halt NoMemory) none h = no_memory_does look suits act s s (grows_none s.nodes) refl
missing_in see look suits o act s (Halt ReadFault) none h = absurd h
missing_in see look suits o act s (Halt WriteFault) none h = absurd h
missing_in see look suits o act s (Halt (HasErrorIn code statement)) none h = absurd h
missing_in see look suits o act s (Halt HasEnded) none h = absurd h

pub missing : {X A : Type 0} (see : X → A) (o : Option A) (act : Action Value) (s : Runtime) (e : Exit) → (o ≡ None → act ≡ wrong_type) → IsThere see o (Err e)
    → Does {X = Stored} shown IsValueOf act s s (Err e)
missing see o act s e none h = missing_in see shown IsValueOf o act s e none h

-- numbers

pub both_none : (f : ℤ → ℤ → Result ℤ Arith) (x y : Option ℤ) → both x y ≡ None → on_numbers f x y ≡ wrong_type
both_none f (Some x) (Some y) h = absurd (cc)
both_none f (Some x) None h = refl
both_none f None y h = refl

pub both_there : (f : ℤ → ℤ → Result ℤ Arith) (x y : Option ℤ) (p : ℤ × ℤ) → both x y ≡ Some p → on_numbers f x y ≡ result_of (f p.0 p.1)
both_there f (Some x) (Some y) p h = let e : (x, y) ≡ p = cc in ap (λ q. result_of (f q.0 q.1)) e
both_there f (Some x) None p h = absurd (cc)
both_there f None y p h = absurd (cc)

pub zero_none : (x : Option ℤ) → x ≡ None → on_numbers difference_of (Some (pos 0)) x ≡ wrong_type
zero_none x h = rw h refl

pub either_none : (x : Option ℤ) (some : ℤ → Action Value) → x ≡ None → either wrong_type some x ≡ wrong_type
either_none x some h = rw h refl

pub first_missing : (x y : Option ℤ) (e : Exit) → IsThere {X = ℤ} (λ n. n) x (Err e) → IsThere {X = ℤ × ℤ} (λ p. p) (both x y) (Err e)
first_missing x y Failure h = h
first_missing x y (Halt (HasError code)) h = rw h.0 (refl, h.1)
first_missing x y (Halt NoMemory) h = h
first_missing x y (Halt ReadFault) h = h
first_missing x y (Halt WriteFault) h = h
first_missing x y (Halt (HasErrorIn code statement)) h = h
first_missing x y (Halt HasEnded) h = h

pub second_missing : (x y : Option ℤ) (n : ℤ) (e : Exit) → x ≡ Some n → IsThere {X = ℤ} (λ n. n) y (Err e) → IsThere {X = ℤ × ℤ} (λ p. p) (both x y) (Err e)
second_missing x y n Failure is h = h
second_missing x y n (Halt (HasError code)) is h = rw (is, h.0) (refl, h.1)
second_missing x y n (Halt NoMemory) is h = h
second_missing x y n (Halt ReadFault) is h = h
second_missing x y n (Halt WriteFault) is h = h
second_missing x y n (Halt (HasErrorIn code statement)) is h = h
second_missing x y n (Halt HasEnded) is h = h

pub arithmetic_operation : (operator : Operator) (x y : Value) → is_arithmetic operator ≡ true → operation operator x y ≡ on_numbers (calculated operator)
    (number_of x) (number_of y)
arithmetic_operation Add x y h = refl
arithmetic_operation Subtract x y h = refl
arithmetic_operation Divide x y h = refl
arithmetic_operation Multiply x y h = refl
arithmetic_operation Power x y h = refl
arithmetic_operation Alternate x y h = absurd (cc)
arithmetic_operation Concatenate x y h = absurd (cc)
arithmetic_operation Conditional x y h = absurd (cc)
arithmetic_operation Immediate x y h = absurd (cc)

-- texts

pub text_there : (nodes : List Node) (v : Stored) → has_text v ≡ true → text_of (shown nodes v) ≡ None → ⊥
text_there nodes (stored.Str bytes) h none = cc
text_there nodes (stored.Int number) h none = cc
text_there nodes (stored.Pat id) h none = cc
text_there nodes (stored.Expr id) h none = cc
text_there nodes (stored.Name target) h none = cc
text_there nodes (stored.Array id) h none = cc
text_there nodes (stored.Table id) h none = cc
text_there nodes (stored.Data id) h none = cc

pub text_none : (nodes : List Node) (v : Stored) → has_text v ≡ false → text_of (shown nodes v) ≡ None
text_none nodes (stored.Str bytes) h = absurd (cc)
text_none nodes (stored.Int number) h = absurd (cc)
text_none nodes (stored.Pat id) h = refl
text_none nodes (stored.Expr id) h = refl
text_none nodes (stored.Name target) h = refl
text_none nodes (stored.Array id) h = refl
text_none nodes (stored.Table id) h = refl
text_none nodes (stored.Data id) h = refl

pub concatenation_else : (x y : Value) → is_null x ≡ false → is_null y ≡ false → concatenation x y ≡ joined (text_of x) (text_of y) x y
concatenation_else x y h k = rw (h, k) refl

second_textless : (o : Option (List ℕ)) (x y : Value) → joined o None x y ≡ joined_patterns Cat x y
second_textless None x y = refl
second_textless (Some bytes) x y = refl

pub joined_first : (nodes : List Node) (x y : Stored) → is_null (shown nodes x) ≡ false → is_null (shown nodes y) ≡ false → has_text x ≡ false
    → concatenation (shown nodes x) (shown nodes y) ≡ joined_patterns Cat (shown nodes x) (shown nodes y)
joined_first nodes x y h k t =
    concatenation_else (shown nodes x) (shown nodes y) h k ∙ ap (λ o. joined o (text_of (shown nodes y)) (shown nodes x) (shown nodes y)) (text_none nodes x t)

pub joined_second : (nodes : List Node) (x y : Stored) → is_null (shown nodes x) ≡ false → is_null (shown nodes y) ≡ false → has_text y ≡ false
    → concatenation (shown nodes x) (shown nodes y) ≡ joined_patterns Cat (shown nodes x) (shown nodes y)
joined_second nodes x y h k t =
    concatenation_else (shown nodes x) (shown nodes y) h k
    ∙ (ap (λ o. joined (text_of (shown nodes x)) o (shown nodes x) (shown nodes y)) (text_none nodes y t) ∙ second_textless (text_of (shown nodes x))
    (shown nodes x) (shown nodes y))

-- patterns

-- a pattern as a value
abbrev pub as_value : Action Pattern → Action Value
as_value act = and_then act (λ p. gives (Pat p))

pub value_made : (act : Action Pattern) (a b : Runtime) (id : PatId) → Does tree_of IsPatternOf act a b (Ok id)
    → Does shown IsValueOf (as_value act) a b (Ok (stored.Pat id))
value_made act a b id h = then_got tree_of IsPatternOf shown IsValueOf act (λ p. gives (Pat p)) a b b id (Ok (stored.Pat id)) h
    (gives_does shown IsValueOf b (stored.Pat id) (Pat (tree_of b.nodes id)) refl h.answer)

pub value_refused : (act : Action Pattern) (a b : Runtime) (e : Exit) → Does {X = PatId} tree_of IsPatternOf act a b (Err e)
    → Does {X = Stored} shown IsValueOf (as_value act) a b (Err e)
value_refused act a b e h = then_err tree_of IsPatternOf shown IsValueOf act (λ p. gives (Pat p)) a b e h

-- what is joined when both are patternable
abbrev pub in_turn : (Pattern → Pattern → Pattern) → Value → Value → Action Value
in_turn join x y = and_then (as_pattern x) (λ p. and_then (as_pattern y) (λ q. makes_value (join p q)))

pub patterns_in_turn : (join : Pattern → Pattern → Pattern) (x y : Value) → is_patternable x ≡ true → is_patternable y ≡ true
    → joined_patterns join x y ≡ in_turn join x y
patterns_in_turn join x y h k = rw (h, k) refl

pub first_refused : (join : Pattern → Pattern → Pattern) (x y : Value) (a b : Runtime) (e : Exit) → is_patternable x ≡ true → is_patternable y ≡ true
    → Does {X = PatId} tree_of IsPatternOf (as_pattern x) a b (Err e) → Does {X = Stored} shown IsValueOf (joined_patterns join x y) a b (Err e)
first_refused join x y a b e h k p =
    rw (patterns_in_turn join x y h k)
    (then_err tree_of IsPatternOf shown IsValueOf (as_pattern x) (λ p. and_then (as_pattern y) (λ q. makes_value (join p q))) a b e p)

pub second_refused : (join : Pattern → Pattern → Pattern) (x : Value) (y : Stored) (a b c : Runtime) (id : PatId) (e : Exit) → is_patternable x ≡ true
    → is_patternable (shown a.nodes y) ≡ true → IsValueOf a.nodes y
    → Does tree_of IsPatternOf (as_pattern x) a b (Ok id) → Does {X = PatId} tree_of IsPatternOf (as_pattern (shown b.nodes y)) b c (Err e)
    → Does {X = Stored} shown IsValueOf (joined_patterns join x (shown a.nodes y)) a c (Err e)
second_refused join x y a b c id e h k v p q =
    let old : as_pattern (shown b.nodes y) ≡ as_pattern (shown a.nodes y) = ap as_pattern (shown_stays a.nodes b.nodes y p.grows v) in
    rw (patterns_in_turn join x (shown a.nodes y) h k)
    (then_got tree_of IsPatternOf shown IsValueOf (as_pattern x) (λ t. and_then (as_pattern (shown a.nodes y)) (λ u. makes_value (join t u))) a b c id (Err e) p
    (then_err tree_of IsPatternOf shown IsValueOf (as_pattern (shown a.nodes y)) (λ u. makes_value (join (tree_of b.nodes id) u)) b c e (rw old at q)))

pub both_joined : (join : Pattern → Pattern → Pattern) (x : Value) (y : Stored) (a b c d : Runtime) (first second : PatId) (r : Result Stored Exit)
    → is_patternable x ≡ true → is_patternable (shown a.nodes y) ≡ true → IsValueOf a.nodes y
    → Does tree_of IsPatternOf (as_pattern x) a b (Ok first) → Does tree_of IsPatternOf (as_pattern (shown b.nodes y)) b c (Ok second)
    → Does shown IsValueOf (makes_value (join (tree_of c.nodes first) (tree_of c.nodes second))) c d r
    → Does shown IsValueOf (joined_patterns join x (shown a.nodes y)) a d r
both_joined join x y a b c d first second r h k v p q m =
    let old : as_pattern (shown b.nodes y) ≡ as_pattern (shown a.nodes y) = ap as_pattern (shown_stays a.nodes b.nodes y p.grows v) in
    let stays : tree_of c.nodes first ≡ tree_of b.nodes first = tree_stays b.nodes c.nodes first.0 q.grows p.answer in
    rw (patterns_in_turn join x (shown a.nodes y) h k)
    (then_got tree_of IsPatternOf shown IsValueOf (as_pattern x) (λ t. and_then (as_pattern (shown a.nodes y)) (λ u. makes_value (join t u))) a b d first r p
    (then_got tree_of IsPatternOf shown IsValueOf (as_pattern (shown a.nodes y)) (λ u. makes_value (join (tree_of b.nodes first) u)) b c d second r
    (rw old at q) (rw stays at m)))

pub target_refused : (join : Pattern → Target → Pattern) (x : Value) (target : Target) (a b : Runtime) (e : Exit) → is_patternable x ≡ true
    → Does {X = PatId} tree_of IsPatternOf (as_pattern x) a b (Err e) → Does {X = Stored} shown IsValueOf (pattern_with_target join x (Name target)) a b (Err e)
target_refused join x target a b e h p = rw h (then_err tree_of IsPatternOf shown IsValueOf (as_pattern x) (λ p. makes_value (join p target)) a b e p)

pub target_joined : (join : Pattern → Target → Pattern) (x : Value) (target : Target) (a b c : Runtime) (body : PatId) (r : Result Stored Exit)
    → is_patternable x ≡ true
    → Does tree_of IsPatternOf (as_pattern x) a b (Ok body) → Does shown IsValueOf (makes_value (join (tree_of b.nodes body) target)) b c r
    → Does shown IsValueOf (pattern_with_target join x (Name target)) a c r
target_joined join x target a b c body r h p m =
    rw h (then_got tree_of IsPatternOf shown IsValueOf (as_pattern x) (λ p. makes_value (join p target)) a b c body r p m)

-- a text that is there is no error 1
pub text_refused : (act : Action Value) (v : Stored) (s : Runtime) (e : Exit) → has_text v ≡ true
    → IsThere {X = List ℕ} (λ t. t) (text_of (shown s.nodes v)) (Err e) → Does {X = Stored} shown IsValueOf act s s (Err e)
text_refused act v s e h there =
    missing {X = List ℕ} (λ t. t) (text_of (shown s.nodes v)) act s e (λ none. absurd (text_there s.nodes v h none)) there
