-- Where the parts of a statement end.
use Rattle.std.proofs.Common.{◌≡◌, ℕ, ◌<◌, inl, inr, true, false, List, length, arith, refl, sym, subst}
use Rattle.std.proofs.lemmas.Bool.{false_from_ne_true}
use Rattle.std.proofs.lemmas.List.{get_or_past}
use Rattle.sno_text.specs.declared.bytes.Class.TheVariants.{Blank}
use Rattle.std.proofs.lemmas.Bool.Decides.{nat_tests}
use Rattle.sno_text.specs.declared.node.Operator.{Operator}
use Rattle.sno_text.specs.declared.node.Operator.TheVariants.{Alternate, Concatenate, Add, Subtract, Divide, Multiply, Power, Conditional, Immediate}
use Rattle.sno_text.specs.Bytes.{byte, is_blank, is_letter, is_digit, is_first, is_unary, is_opening, can_start, IsWholeRun}
use Rattle.sno_text.specs.Grammar.{level_of, IsGap, IsBlanks}
use Rattle.sno_text.specs.inner.Links.{Starts, Stops, single}
use Rattle.sno_text.specs.inner.Pieces.{MeetsEnd, MeetsColon, MeetsEquals}
use Rattle.sno_text.proofs.Runs.{run_end_unique}
use Rattle.sno_text.proofs.Starts.{start_not_blank}
use Rattle.sno_text.proofs.Primaries.{IsEndByte, end_byte_zero, gap_stops}

end_byte_58 : IsEndByte 58
unfolding is_blank can_start is_opening single is_unary is_first is_letter is_digit
end_byte_58 = record { no_blank = refl; no_start = refl; no_opening = refl; no_sign = refl; no_star = λ f. cc }

end_byte_61 : IsEndByte 61
unfolding is_blank can_start is_opening single is_unary is_first is_letter is_digit
end_byte_61 = record { no_blank = refl; no_start = refl; no_opening = refl; no_sign = refl; no_star = λ f. cc }

pub end_byte_end : (s : List ℕ) (k : ℕ) → k ≡ length s → IsEndByte (byte s k)
end_byte_end s k e = end_byte_zero (byte s k) (get_or_past s k 0 (omega arith))

pub end_byte_colon : (s : List ℕ) (k : ℕ) → byte s k ≡ 58 → IsEndByte (byte s k)
end_byte_colon s k e = subst IsEndByte (sym e) end_byte_58

pub end_byte_equals : (s : List ℕ) (k : ℕ) → byte s k ≡ 61 → IsEndByte (byte s k)
end_byte_equals s k e = subst IsEndByte (sym e) end_byte_61

pub colon_ends : {s : List ℕ} {j : ℕ} (m : MeetsColon s j) → IsEndByte (byte s m.at)
colon_ends {s} m = elim m.here [ inl e ↦ end_byte_end s m.at e | inr e ↦ end_byte_colon s m.at e ]

pub equals_ends : {s : List ℕ} {j : ℕ} (m : MeetsEquals s j) → IsEndByte (byte s m.at)
equals_ends {s} m = elim m.here [ inl e ↦ end_byte_end s m.at e | inr (inl e) ↦ end_byte_colon s m.at e | inr (inr e) ↦ end_byte_equals s m.at e ]

-- a gap to the end
pub meets_end : (s : List ℕ) (j : ℕ) → IsGap s j (length s) → MeetsEnd s j
meets_end s j g = record { gap = record { run = g; stop = (end_byte_end s (length s) refl).no_blank } }

pub end_meets_colon : {s : List ℕ} {j : ℕ} → MeetsEnd s j → MeetsColon s j
end_meets_colon {s} m = record { at = length s; gap = m.gap; here = inl refl }

pub colon_meets_equals : {s : List ℕ} {j : ℕ} → MeetsColon s j → MeetsEquals s j
colon_meets_equals {s} m = record { at = m.at; gap = m.gap; here = elim m.here [ inl e ↦ inl e | inr e ↦ inr (inl e) ] }

-- blanks and a byte that is none
pub blanks_whole : (s : List ℕ) (i j : ℕ) → IsBlanks s i j → is_blank (byte s j) ≡ false → IsWholeRun Blank s i j
blanks_whole s i j b h = record { run = b.run; stop = h }

pub gap_whole : (s : List ℕ) (i j : ℕ) → IsGap s i j → is_blank (byte s j) ≡ false → IsWholeRun Blank s i j
gap_whole s i j b h = record { run = b; stop = h }

pub blanks_colon : (s : List ℕ) (i j : ℕ) → IsBlanks s i j → byte s j ≡ 58 → MeetsColon s i
blanks_colon s i j b e = record { at = j; gap = blanks_whole s i j b (end_byte_colon s j e).no_blank; here = inr e }

pub blanks_equals : (s : List ℕ) (i j : ℕ) → IsBlanks s i j → byte s j ≡ 61 → MeetsEquals s i
blanks_equals s i j b e = record { at = j; gap = blanks_whole s i j b (end_byte_equals s j e).no_blank; here = inr (inr e) }

-- blanks up to where an element starts
pub blanks_start : (s : List ℕ) (i j : ℕ) → IsBlanks s i j → Starts s j → IsWholeRun Blank s i j
blanks_start s i j b h = blanks_whole s i j b (false_from_ne_true _ (start_not_blank s j h))

pub equals_stops : (s : List ℕ) (level j : ℕ) → MeetsEquals s j → Stops s level j
equals_stops s level j m = gap_stops s level j m.at m.gap.run (equals_ends m)

level_below : (o : Operator) → level_of o < 7
level_below Alternate = omega arith
level_below Concatenate = omega arith
level_below Add = omega arith
level_below Subtract = omega arith
level_below Divide = omega arith
level_below Multiply = omega arith
level_below Power = omega arith
level_below Conditional = omega arith
level_below Immediate = omega arith

blank_no_bracket : (b : ℕ) → is_blank b ≡ true → is_opening b ≡ false
unfolding is_blank is_opening
blank_no_bracket b h = grind (arith, nat_tests)

-- a byte that is no opening bracket stops an element
pub element_stops : (s : List ℕ) (j : ℕ) → is_opening (byte s j) ≡ false → Stops s 7 j
element_stops s j h = record { looser = λ o l a. level_below o; no_bracket = h }

-- blanks behind an element stop it
pub blanks_stop : (s : List ℕ) (j k : ℕ) → IsBlanks s j k → Stops s 7 j
blanks_stop s j k b = element_stops s j (blank_no_bracket _ (b.run.each j (omega arith) b.some))

-- no gap that ends where an element starts also meets the end of a statement
pub start_meets_none : (s : List ℕ) (i k : ℕ) → IsWholeRun Blank s i k → can_start (byte s k) ≡ true → MeetsEquals s i → ⊥
start_meets_none s i k g h m =
    let e : m.at ≡ k = run_end_unique Blank s i m.at k m.gap g in
    let f = (equals_ends m).no_start in
    let f' : can_start (byte s k) ≡ false = rw e at f in
    cc
