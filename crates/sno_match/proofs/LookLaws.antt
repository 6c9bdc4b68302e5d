-- What was found out of the subject stays true of the table that is lent.
use Rattle.std.proofs.Common.{◌≡◌, ℕ, List, ◌++◌, sym, ◌∙◌, ap, subst}
use Rattle.sno_pattern.specs.Looks.{Found, AreTrue}
use Rattle.sno_pattern.specs.Table.{Node}
use Rattle.sno_pattern.proofs.LookLaws.{true_grown}
use Rattle.sno_match.specs.Matching.{Matching, Begins}

-- the table and the subject are known by other names
pub same_looks : (nodes patterns : List Node) (s t : List ℕ) (found : Found) → nodes ≡ patterns → t ≡ s → AreTrue patterns t found → AreTrue nodes s found
same_looks nodes patterns s t found table subject are =
    subst (λ (n : List Node). AreTrue n s found) (sym table) (subst (λ (u : List ℕ). AreTrue patterns u found) subject are)

-- the table has grown
pub lent_looks : (m : Matching) (nodes lent patterns : List Node) (s : List ℕ) (found : Found) → nodes ≡ m.nodes → lent ≡ patterns → Begins m.nodes patterns
    → AreTrue nodes s found → AreTrue lent s found
lent_looks m nodes lent patterns s found same is begins are =
    subst (λ (n : List Node). AreTrue n s found) (sym (is ∙ begins.1 ∙ ap (λ (n : List Node). n ++ begins.0) (sym same)))
    (true_grown nodes begins.0 s found are)
