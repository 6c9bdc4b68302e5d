-- The grammar relates at most one tree to a text.
use Rattle.std.proofs.Common.{◌≡◌, ◌≢◌, ℕ, ◌+◌, ◌<◌, false, List, length, arith, refl, sym, subst}
use Rattle.std.proofs.lemmas.Bool.{false_from_ne_true}
use Rattle.std.proofs.lemmas.List.{get_or_past}
use Rattle.sno_text.specs.declared.bytes.Class.TheVariants.{Blank}
use Rattle.sno_text.specs.declared.node.Operator.TheVariants.{Power}
use Rattle.sno_text.specs.Bytes.{byte, is_blank, is_unary, IsWholeRun}
use Rattle.sno_text.specs.Trees.{Tree, Binary}
use Rattle.sno_text.specs.Grammar.{IsGap, Nonterminal, Level, Rest, Element, Primary, Arguments, More, Argument, Reads, chain, operand, done, left, right}
use Rattle.sno_text.specs.Grammar.{signed}
use Rattle.sno_text.specs.Grammar.{plain, variable, integer, literal, keyword, group, apply, arguments, last, next, empty, given, IsExpression}
use Rattle.sno_text.specs.inner.Links.{Starts, Stops, Shuts, Closes, Finds, Grows, Lists}
use Rattle.sno_text.proofs.Starts.{reads_start, start_not_blank, primary_is_first, first_not_unary}
use Rattle.sno_text.proofs.Joints.{joins_link}
use Rattle.sno_text.proofs.Levels.{rest_stops, grows_first, grows_left, finds_right, finds_done}
use Rattle.sno_text.proofs.Elements.{finds_plain, finds_signed, finds_operand}
use Rattle.sno_text.proofs.Lists.{more_closes, comma_no_shut, finds_empty, finds_given, lists_first, lists_next, finds_lists}
use Rattle.sno_text.proofs.Primaries.{IsEndByte, end_byte_zero, end_byte_closes, end_byte_bracket, closes_not_blank, gap_stops, start_no_end, inner_only}
use Rattle.sno_text.proofs.Primaries.{pair_shut, finds_variable, finds_integer, finds_literal, finds_keyword, finds_group, finds_apply}

-- a part that ends where its kind may end is the only one
abbrev Only : Nonterminal → List ℕ → ℕ → ℕ → Tree → Type 0
Only (Level l) s i j t = Stops s l j → Finds s (Level l) (Stops s l) i j t
Only (Rest l u) s i j t = (from : ℕ) → Grows s l from i u → Stops s l j → Finds s (Level l) (Stops s l) from j t
Only Element s i j t = Stops s 7 j → Finds s Element (Stops s 7) i j t
Only Primary s i j t = Stops s 7 j → Finds s Primary (Stops s 7) i j t
Only Arguments s i j t = Shuts s j → Finds s Arguments (Shuts s) i j t
Only (More u) s i j t = (from : ℕ) → Lists s from i u → Shuts s j → Finds s Arguments (Shuts s) from j t
Only Argument s i j t = Closes s j → Finds s Argument (Closes s) i j t

found : (s : List ℕ) (p : Nonterminal) (stops : ℕ → Type 0) (i j k : ℕ) (t u : Tree) → k ≡ j → u ≡ t → Finds s p stops i j t → Finds s p stops i k u
found s p stops i j k t u e f a = subst (λ x. Finds s p stops i x u) (sym e) (subst (λ x. Finds s p stops i j x) (sym f) a)

gap_end : (s : List ℕ) (i j : ℕ) → IsGap s i j → is_blank (byte s j) ≡ false → IsWholeRun Blank s i j
gap_end s i j g h = record { run = g; stop = h }

start_end : (s : List ℕ) (i : ℕ) → Starts s i → is_blank (byte s i) ≡ false
start_end s i r = false_from_ne_true _ (start_not_blank s i r)

no_sign : (s : List ℕ) (i j : ℕ) (t : Tree) → Reads s Primary i j t → is_unary (byte s i) ≡ false
no_sign s i j t a = false_from_ne_true _ (λ u. first_not_unary _ (primary_is_first a) u)

looser_apart : (a b : ℕ) → a < b → a ≢ b
looser_apart a b h e = omega arith

shut_no_comma : (s : List ℕ) (i : ℕ) → Shuts s i → byte s i ≢ 44
shut_no_comma s i h e = comma_no_shut s i e h

only : {s : List ℕ} {p : Nonterminal} {i j : ℕ} {t : Tree} → Reads s p i j t → Only p s i j t
only {s} {j = j} (chain {l = l} {i = i} {m = m} {u = u} {t = t} h a b) = λ stops. only b i (grows_first s l i m u h (only a (rest_stops b stops))) stops
only {s} (operand {l = l} {i = i} {j = j} {t = t} e a) = λ stops. finds_operand s l i j t e (only a (subst (λ x. Stops s x j) e stops))
only {s} (done {l = l} {i = i} {j = j} {u = u} {t = t} e f) = λ from grows stops.
    found s (Level l) (Stops s l) from i j u t e f
    (finds_done s l from i u (λ o k link. looser_apart _ _ ((subst (λ x. Stops s l x) e stops).looser o k link)) grows)
only {s} (left {l = l} {i = i} {k = k} {m = m} {j = j} {u = u} {v = v} {t = t} {o = o} n e c a b) = λ from grows stops.
    only b from (grows_left s l from i k m u v o n e (joins_link s o i k c (reads_start a)) grows (only a (rest_stops b stops))) stops
only {s} (right {l = l} {i = i} {k = k} {j = j} {u = u} {v = v} {t = t} e c a f) = λ from grows stops.
    found s (Level l) (Stops s l) from j j (Binary Power u v) t refl f
    (finds_right s l from i k j u v e (joins_link s Power i k c (reads_start a)) grows (only a stops))
only {s} (signed {i = i} {j = j} {u = u} {t = t} h a e) = λ stops. found s Element (Stops s 7) i j j _ t refl e (finds_signed s i j u h (only a stops))
only {s} (plain {i = i} {j = j} {t = t} a) = λ stops. finds_plain s i j t (no_sign s i j t a) (only a stops)
only {s} (variable {i = i} {j = j} {t = t} n e) = λ stops. found s Primary (Stops s 7) i j j _ t refl e (finds_variable s i j n stops.no_bracket)
only {s} (integer {i = i} {j = j} {t = t} n e) = λ stops. found s Primary (Stops s 7) i j j _ t refl e (finds_integer s i j n)
only {s} (literal {i = i} {j = j} {t = t} n e) = λ stops. found s Primary (Stops s 7) i j j _ t refl e (finds_literal s i j n)
only {s} (keyword {i = i} {j = j} {t = t} h n e) = λ stops. found s Primary (Stops s 7) i j j _ t refl e (finds_keyword s i j h n)
only {s} (group {i = i} {k = k} {m = m} {l = l} {j = j} {t = t} h g a c d e) = λ stops.
    found s Primary (Stops s 7) i (l + 1) j t t e refl (finds_group s i k m l t h (gap_end s (i + 1) k g (start_end s k (reads_start a)))
    (only a (gap_stops s 0 m l c (end_byte_bracket _ d)))
    (gap_end s m l c (end_byte_bracket _ d).no_blank) d)
only {s} (apply {i = i} {k = k} {m = m} {j = j} {u = u} {t = t} n p a d e) = λ stops.
    found s Primary (Stops s 7) i (m + 1) j _ t d e (finds_apply s i k m u n p (only a (pair_shut _ _ p)))
only {s} (arguments {i = i} {m = m} {j = j} {u = u} {t = t} a b) = λ stops. only b i (lists_first s i m u (only a (more_closes b stops))) stops
only {s} (last {i = i} {j = j} {u = u} {t = t} e f) = λ from lists stops.
    found s Arguments (Shuts s) from i j u t e f (finds_lists s from i u (shut_no_comma s i (subst (λ x. Shuts s x) e stops)) lists)
only {s} (next {i = i} {m = m} {j = j} {u = u} {v = v} {t = t} h a b) = λ from lists stops.
    only b from (lists_next s from i m u v h lists (only a (more_closes b stops))) stops
only {s} (empty {i = i} {j = j} {t = t} g e) =
    λ stops. found s Argument (Closes s) i j j _ t refl e (finds_empty s i j (gap_end s i j g (closes_not_blank s j stops)) stops)
only {s} (given {i = i} {k = k} {m = m} {j = j} {t = t} g a c) = λ stops.
    finds_given s i k m j t (gap_end s i k g (start_end s k (reads_start a))) (λ h. start_no_end s k (reads_start a) (end_byte_closes s k h))
    (only a (gap_stops s 0 m j c (end_byte_closes s j stops))) (gap_end s m j c (closes_not_blank s j stops))

end_of_text : (s : List ℕ) → IsEndByte (byte s (length s))
end_of_text s = end_byte_zero _ (get_or_past s (length s) 0 (omega arith))

pub one_tree : (s : List ℕ) (t u : Tree) → IsExpression s t → IsExpression s u → u ≡ t
one_tree s t u a b =
    let ends = end_of_text s in
    let found = only a.reads (gap_stops s 0 a.to (length s) a.after ends) in
    (inner_only s 0 a.from a.to (length s) t (gap_end s 0 a.from a.before (start_end s a.from (reads_start a.reads))) found
    (gap_end s a.to (length s) a.after ends.no_blank)
    b.from b.to (length s) u b.before b.reads b.after ends).1
