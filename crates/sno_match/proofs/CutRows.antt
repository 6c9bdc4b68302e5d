-- Worked rows of cuts and BREAKX, computed from the definitions.
use Rattle.std.proofs.Common.{◌≡◌, ℕ, true, false, [], ◌∷◌, refl}
use Rattle.sno_value.specs.declared.value.Name.{Name}
use Rattle.sno_value.specs.declared.value.Name.TheVariants.{Var}
use Rattle.sno_value.specs.declared.kind.PrimitiveKind.TheVariants.{Len, BreakX}
use Rattle.sno_pattern.specs.Pattern.{Pattern, Leaf, Text, Rem, Fence, Arbno, Cut, Alt, Cat, Imm, Counted, Among}
use Rattle.sno_match.specs.Search.{Way, Assign, Ended, Exhausted, Aborted, Limit, trace}

abbrev variable : ℕ → Name
variable n = Var (record { 0 = n })

abbrev a : Pattern
a = Leaf (Text (65 ∷ []))

abbrev ab : Pattern
ab = Leaf (Text (65 ∷ 66 ∷ []))

abbrev c : Pattern
c = Leaf (Text (67 ∷ []))

abbrev bc : Pattern
bc = Leaf (Text (66 ∷ 67 ∷ []))

abbrev x : Pattern
x = Leaf (Text (88 ∷ []))

-- FENCE('AB' | 'A') 'C' and FENCE('A' | 'AB') 'C' on ABC
first_way_kept : trace (Cat (Cut (Alt ab a)) c) (65 ∷ 66 ∷ 67 ∷ []) true 1000 [] ≡ (Way 0 3 [], 6) ∷ (Ended Exhausted, 6) ∷ []
first_way_kept = refl

second_way_not_tried : trace (Cat (Cut (Alt a ab)) c) (65 ∷ 66 ∷ 67 ∷ []) true 6 [] ≡ (Ended Exhausted, 6) ∷ []
second_way_not_tried = refl

one_step_short : trace (Cat (Cut (Alt a ab)) c) (65 ∷ 66 ∷ 67 ∷ []) true 5 [] ≡ (Ended Limit, 5) ∷ []
one_step_short = refl

-- FENCE('A') 'X' | 'AB' on AB: what stands beside the cut is tried
beside_cut : trace (Alt (Cat (Cut a) x) ab) (65 ∷ 66 ∷ []) true 1000 [] ≡ (Way 0 2 [], 8) ∷ (Ended Exhausted, 8) ∷ []
beside_cut = refl

-- FENCE(LEN(1) $ V | LEN(2) $ V) 'C' on ABC
assignment_stays : trace (Cat (Cut (Alt (Imm (Leaf (Counted Len 1)) (variable 0)) (Imm (Leaf (Counted Len 2)) (variable 0)))) c) (65 ∷ 66 ∷ 67 ∷ [])
    true 1000 [] ≡ (Assign (variable 0) 0 1, 6) ∷ (Ended Exhausted, 8) ∷ []
assignment_stays = refl

-- FENCE(FENCE('A' | 'AB') ('C' | 'BC')) REM on ABC
cut_in_cut : trace (Cat (Cut (Cat (Cut (Alt a ab)) (Alt c bc))) (Leaf Rem)) (65 ∷ 66 ∷ 67 ∷ []) true 1000 [] ≡ (Way 0 3 [], 13) ∷ (Ended Exhausted, 13) ∷ []
cut_in_cut = refl

-- FENCE('A' | 'AB') 'C' on ABAC: a later start may match
later_start : trace (Cat (Cut (Alt a ab)) c) (65 ∷ 66 ∷ 65 ∷ 67 ∷ []) false 1000 [] ≡ (Way 2 4 [], 20) ∷ (Ended Exhausted, 34) ∷ []
later_start = refl

-- BREAKX('B') 'B' on ABAB, and BREAKX('B') on BB
each_stop : trace (Cat (Leaf (Among BreakX (66 ∷ []))) (Leaf (Text (66 ∷ [])))) (65 ∷ 66 ∷ 65 ∷ 66 ∷ []) true 1000 [] ≡ (Way 0 2 [], 3) ∷ (Way 0 4 [], 5)
    ∷ (Ended Exhausted, 5) ∷ []
each_stop = refl

stop_here : trace (Leaf (Among BreakX (66 ∷ []))) (66 ∷ 66 ∷ []) true 1000 [] ≡ (Way 0 0 [], 1) ∷ (Way 0 1 [], 2) ∷ (Ended Exhausted, 2) ∷ []
stop_here = refl

-- FENCE(ARBNO('A')) 'A' on AA: the least repetition is kept
least_repetition : trace (Cat (Cut (Arbno a)) a) (65 ∷ 65 ∷ []) true 1000 [] ≡ (Way 0 1 [], 5) ∷ (Ended Exhausted, 5) ∷ []
least_repetition = refl

-- ARBNO(FENCE('A' | 'AA')) on AAA
repetition_of_cuts : trace (Arbno (Cut (Alt a (Leaf (Text (65 ∷ 65 ∷ [])))))) (65 ∷ 65 ∷ 65 ∷ []) true 1000 [] ≡
    (Way 0 0 [], 1) ∷ (Way 0 1 [], 8) ∷ (Way 0 2 [], 15) ∷ (Way 0 3 [], 22) ∷ (Ended Exhausted, 28) ∷ []
repetition_of_cuts = refl

-- FENCE('A' FENCE) on AB, and FENCE(FENCE 'C') 'D' on AB: a bare FENCE is cut off once the cut has ended, and not before
fence_cut_off : trace (Cut (Cat a Fence)) (65 ∷ 66 ∷ []) true 1000 [] ≡ (Way 0 1 [], 5) ∷ (Ended Exhausted, 5) ∷ []
fence_cut_off = refl

fence_not_cut_off : trace (Cat (Cut (Cat Fence c)) (Leaf (Text (68 ∷ [])))) (65 ∷ 66 ∷ []) false 1000 [] ≡ (Ended Aborted, 5) ∷ []
fence_not_cut_off = refl
