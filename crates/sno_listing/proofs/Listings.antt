-- The lines of a listing, one after another.
use Rattle.std.proofs.Common.{◌≡◌, ℕ, zero, suc, ◌+◌, List, [], ◌∷◌, ◌++◌, arith, refl, ◌∙◌, ap, sym, append_assoc, append-nil}
use Rattle.sno_text.specs.declared.statement.Statement.{Statement}
use Rattle.sno_listing.specs.Listing.{number_in, blanks, listed_line, lines_listed}

blanks_snoc : (n : ℕ) → blanks n ++ 32 ∷ [] ≡ blanks (suc n)
blanks_snoc zero = refl
blanks_snoc (suc n) = ap (λ x. 32 ∷ x) (blanks_snoc n)

suc_one : (n : ℕ) → suc n ≡ n + 1
suc_one n = omega arith

pub blanks_more : (new old start : List ℕ) (n : ℕ) → old ≡ start ++ blanks n → new ≡ old ++ 32 ∷ [] → new ≡ start ++ blanks (n + 1)
blanks_more new old start n e f = f ∙ ap (λ x. x ++ 32 ∷ []) e ∙ append_assoc start (blanks n) (32 ∷ [])
    ∙ ap (λ x. start ++ x) (blanks_snoc n ∙ ap blanks (suc_one n))

-- One line more was listed.
pub line_more : (sts : List Statement) (old new total line : List ℕ) (at number : ℕ) (rest : List (List ℕ)) → number ≡ number_in 1 sts (at + 1)
    → new ≡ old ++ listed_line number line →
    old ++ lines_listed sts (at + 1) (line ∷ rest) ≡ total → new ++ lines_listed sts (at + 1 + 1) rest ≡ total
line_more sts old new total line at number rest e f g =
    ap (λ x. x ++ lines_listed sts (at + 1 + 1) rest) (f ∙ ap (λ n. old ++ listed_line n line) e)
    ∙ append_assoc old (listed_line (number_in 1 sts (at + 1)) line) (lines_listed sts (at + 1 + 1) rest) ∙ g

-- All lines were listed.
pub lines_end : (sts : List Statement) (old total : List ℕ) (at : ℕ) (rest : List (List ℕ)) → rest ≡ [] → old ++ lines_listed sts at rest ≡ total → old ≡ total
lines_end sts old total at rest e f = sym (ap (λ x. old ++ lines_listed sts at x) e ∙ append-nil old) ∙ f

pub ruleset listing_facts = (blanks_more)
