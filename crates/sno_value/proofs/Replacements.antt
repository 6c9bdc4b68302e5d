-- What stands for a byte, as the pairs are read one after another: the later pair counts.
use Rattle.std.proofs.Common.{◌≡◌, ℕ, zero, suc, ◌+◌, ◌<◌, List, [], ◌∷◌, ◌++◌, length, take, get_or, Bool, true, false, ◌||◌, ◌==◌, cond, refl, sym, ◌∙◌, ap, ap₂, arith}
use Rattle.std.proofs.Common.{length-take-le, set, map, drop}
use Rattle.std.specs.List.{list_any}
use Rattle.std.proofs.lemmas.Bool.Decides.{nat_tests}
use Rattle.std.proofs.lemmas.Grind.{common_steps}
use Rattle.std.proofs.lemmas.List.{take_more}
use Rattle.sno_value.specs.Strings.{replacement}

any-more : (p : ℕ → Bool) (xs : List ℕ) (x : ℕ) → list_any p (xs ++ x ∷ []) ≡ (list_any p xs || p x)
any-more p xs x = grind (arith, common_steps)

last_counts : (earlier here : Bool) (new old kept : ℕ)
    → cond (earlier || here) (cond here new old) kept ≡ cond here new (cond earlier old kept)
last_counts true true new old kept = refl
last_counts true false new old kept = refl
last_counts false true new old kept = refl
last_counts false false new old kept = refl

replacement-more : (froms tos : List ℕ) (from to b : ℕ) → length froms ≡ length tos
    → replacement (froms ++ from ∷ []) (tos ++ to ∷ []) b ≡ cond (from == b) to (replacement froms tos b)
unfolding replacement
replacement-more [] [] from to b h = refl
replacement-more [] (t ∷ tos) from to b h = absurd (omega arith)
replacement-more (f ∷ froms) [] from to b h = absurd (omega arith)
replacement-more (f ∷ froms) (t ∷ tos) from to b h =
    ap₂ (λ any r. cond any r (cond (f == b) t b)) (any-more (λ c. c == b) froms from) (replacement-more froms tos from to b (omega arith))
    ∙ last_counts (list_any (λ c. c == b) froms) (from == b) to (replacement froms tos b) (cond (f == b) t b)

replacement_next : (froms tos : List ℕ) (k from to b : ℕ) → length froms ≡ length tos → k < length froms
    → from ≡ get_or froms k 0 → to ≡ get_or tos k 0
    → replacement (take (k + 1) froms) (take (k + 1) tos) b ≡ cond (from == b) to (replacement (take k froms) (take k tos) b)
replacement_next froms tos k from to b same h e f =
    ap₂ (λ xs ys. replacement xs ys b) (take_more froms k 0 h) (take_more tos k 0 (omega arith))
    ∙ ap₂ (λ x y. replacement (take k froms ++ x ∷ []) (take k tos ++ y ∷ []) b) (sym e) (sym f)
    ∙ replacement-more (take k froms) (take k tos) from to b
    (length-take-le k froms (omega arith) ∙ sym (length-take-le k tos (omega arith)))

-- a table of what stands for each byte, with one more pair written
pub table_step : (table froms tos : List ℕ) (k from to : ℕ) → length table ≡ 256 → length froms ≡ length tos → k < length froms
    → from ≡ get_or froms k 0 → to ≡ get_or tos k 0
    → ((byte : ℕ) → byte < 256 → get_or table byte 0 ≡ replacement (take k froms) (take k tos) byte)
    → (byte : ℕ) → byte < 256 → get_or (set table from to) byte 0 ≡ replacement (take (k + 1) froms) (take (k + 1) tos) byte
table_step table froms tos k from to long same h e f so_far byte small =
    let next = replacement_next froms tos k from to byte same h e f in
    let old = so_far byte small in
    grind (arith, common_steps, nat_tests)

-- a text whose first bytes are replaced where they stand
mapped-next : (f : ℕ → ℕ) (text : List ℕ) (i : ℕ) → i < length text
    → set (map f (take i text) ++ drop i text) i (f (get_or (map f (take i text) ++ drop i text) i 0)) ≡ map f (take (suc i) text) ++ drop (suc i) text
mapped-next f [] i h = absurd (omega arith)
mapped-next f (b ∷ text) zero h = refl
mapped-next f (b ∷ text) (suc i) h = ap (λ xs. f b ∷ xs) (mapped-next f text i (omega arith))

-- one more byte of it
pub mapped_step : (f : ℕ → ℕ) (text items : List ℕ) (i y : ℕ) → i < length text
    → items ≡ map f (take i text) ++ drop i text → y ≡ f (get_or items i 0)
    → set items i y ≡ map f (take (i + 1) text) ++ drop (i + 1) text
mapped_step f text items i y h is to =
    let next : suc i ≡ i + 1 = omega arith in
    ap (set items i) to
    ∙ ap (λ xs. set xs i (f (get_or xs i 0))) is
    ∙ mapped-next f text i h
    ∙ ap (λ n. map f (take n text) ++ drop n text) next
