-- Worked rows, computed from the definitions.
use Rattle.std.proofs.Common.{◌≡◌, ℕ, true, false, [], ◌∷◌, refl, Some, None}
use Rattle.sno_value.specs.declared.value.Name.{Name}
use Rattle.sno_value.specs.declared.value.Name.TheVariants.{Var}
use Rattle.sno_value.specs.declared.kind.PrimitiveKind.TheVariants.{Len}
use Rattle.sno_pattern.specs.Pattern.{Pattern, Leaf, Text, Arb, Bal, Fail, Fence, Arbno, Alt, Cat, Succeed, Cond, Imm, Defer, Counted}
use Rattle.sno_match.specs.Search.{Way, Assign, Value, Ended, assigns, Exhausted, Aborted, Limit, trace}

abbrev variable : ℕ → Name
variable n = Var (record { 0 = n })

abbrev a : Pattern
a = Leaf (Text (65 ∷ []))

abbrev aa : Pattern
aa = Leaf (Text (65 ∷ 65 ∷ []))

abbrev b : Pattern
b = Leaf (Text (66 ∷ []))

-- ARBNO('A' | 'AA') on AAA, anchored: 7 ways, 48 steps
repetition : trace (Arbno (Alt a aa)) (65 ∷ 65 ∷ 65 ∷ []) true 1000 [] ≡
    (Way 0 0 [], 1) ∷ (Way 0 1 [], 6) ∷ (Way 0 2 [], 11) ∷ (Way 0 3 [], 16) ∷ (Way 0 3 [], 27) ∷ (Way 0 2 [], 36) ∷ (Way 0 3 [], 41)
    ∷ (Ended Exhausted, 48) ∷ []
repetition = refl

repetition_one_step_short : trace (Arbno (Alt a aa)) (65 ∷ 65 ∷ 65 ∷ []) true 47 [] ≡
    (Way 0 0 [], 1) ∷ (Way 0 1 [], 6) ∷ (Way 0 2 [], 11) ∷ (Way 0 3 [], 16) ∷ (Way 0 3 [], 27) ∷ (Way 0 2 [], 36) ∷ (Way 0 3 [], 41) ∷ (Ended Limit, 47) ∷ []
repetition_one_step_short = refl

-- ARB on AB
arb_shortest_first : trace (Leaf Arb) (65 ∷ 66 ∷ []) false 1000 [] ≡
    (Way 0 0 [], 1) ∷ (Way 0 1 [], 2) ∷ (Way 0 2 [], 3) ∷ (Way 1 1 [], 5) ∷ (Way 1 2 [], 6) ∷ (Way 2 2 [], 8) ∷ (Ended Exhausted, 8) ∷ []
arb_shortest_first = refl

-- 'A' FENCE 'B' on ACAB, and 'A' 'B' as two goals
fence_aborts : trace (Cat a (Cat Fence b)) (65 ∷ 67 ∷ 65 ∷ 66 ∷ []) false 1000 [] ≡ (Ended Aborted, 5) ∷ []
fence_aborts = refl

-- SUCCEED on the empty text
succeed_again : trace Succeed [] false 3 [] ≡ (Way 0 0 [], 1) ∷ (Way 0 0 [], 2) ∷ (Way 0 0 [], 3) ∷ (Ended Limit, 3) ∷ []
succeed_again = refl

text_no_step : trace a (65 ∷ []) false 0 [] ≡ (Ended Limit, 0) ∷ []
text_no_step = refl

text_one_step : trace a (65 ∷ []) false 1 [] ≡ (Way 0 1 [], 1) ∷ (Ended Limit, 1) ∷ []
text_one_step = refl

text_two_steps : trace a (65 ∷ []) false 2 [] ≡ (Way 0 1 [], 1) ∷ (Ended Limit, 2) ∷ []
text_two_steps = refl

text_three_steps : trace a (65 ∷ []) false 3 [] ≡ (Way 0 1 [], 1) ∷ (Ended Exhausted, 3) ∷ []
text_three_steps = refl

arbno_six_steps : trace (Arbno a) (65 ∷ []) true 6 [] ≡ (Way 0 0 [], 1) ∷ (Way 0 1 [], 5) ∷ (Ended Limit, 6) ∷ []
arbno_six_steps = refl

arbno_seven_steps : trace (Arbno a) (65 ∷ []) true 7 [] ≡ (Way 0 0 [], 1) ∷ (Way 0 1 [], 5) ∷ (Ended Exhausted, 7) ∷ []
arbno_seven_steps = refl

-- BAL on (A)B
bal_longer_and_longer : trace (Leaf Bal) (40 ∷ 65 ∷ 41 ∷ 66 ∷ []) true 1000 [] ≡ (Way 0 3 [], 1) ∷ (Way 0 4 [], 2) ∷ (Ended Exhausted, 2) ∷ []
bal_longer_and_longer = refl

-- LEN(1) $ X FAIL on AB
immediate_at_each_start : trace (Cat (Imm (Leaf (Counted Len 1)) (variable 0)) (Leaf Fail)) (65 ∷ 66 ∷ []) false 1000 [] ≡
    (Assign (variable 0) 0 1, 4) ∷ (Assign (variable 0) 1 2, 10) ∷ (Ended Exhausted, 15) ∷ []
immediate_at_each_start = refl

-- (LEN(1) . A LEN(1)) . B on XY
pending_inner_first : trace (Cond (Cat (Cond (Leaf (Counted Len 1)) (variable 0)) (Leaf (Counted Len 1))) (variable 1)) (88 ∷ 89 ∷ []) true 1000 [] ≡
    (Way 0 2 (assigns (variable 0) 0 1 ∷ assigns (variable 1) 0 2 ∷ []), 7) ∷ (Ended Exhausted, 7) ∷ []
pending_inner_first = refl

-- *E with no answer, failure, and a pattern for an answer
deferred_waits : trace (Defer None 4) (65 ∷ []) true 10 [] ≡ (Value None 4, 1) ∷ []
deferred_waits = refl

deferred_fails : trace (Defer None 4) (65 ∷ []) true 10 (None ∷ []) ≡ (Value None 4, 1) ∷ (Ended Exhausted, 1) ∷ []
deferred_fails = refl

deferred_goes_on : trace (Defer None 4) (65 ∷ []) true 10 (Some a ∷ []) ≡ (Value None 4, 1) ∷ (Way 0 1 [], 2) ∷ (Ended Exhausted, 2) ∷ []
deferred_goes_on = refl

-- *E SUCCEED at a limit of a thousand, with the empty text for an answer
deferred_succeed : trace (Cat (Defer None 4) Succeed) [] true 4 (Some (Leaf (Text [])) ∷ []) ≡ (Value None 4, 2) ∷ (Way 0 0 [], 4) ∷ (Ended Limit, 4) ∷ []
deferred_succeed = refl
