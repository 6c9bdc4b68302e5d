-- An element is found exactly: unary signs, and a primary.
use Rattle.std.proofs.Common.{◌≡◌, ℕ, zero, suc, ◌+◌, ◌-◌, true, false, List, arith, refl, ◌∙◌, ap, subst}
use Rattle.sno_text.specs.declared.bytes.Class.TheVariants.{UnarySign}
use Rattle.sno_text.specs.Bytes.{byte, is_unary, is_first, IsRun, IsWholeRun}
use Rattle.sno_text.specs.Trees.{unary_operator, Tree, Unary}
use Rattle.sno_text.specs.Grammar.{Level, Element, Primary, Reads, chain, operand, signed, plain}
use Rattle.sno_text.specs.inner.Links.{Stops, Finds, Refuses}
use Rattle.sno_text.proofs.Starts.{first_not_unary, primary_is_first}

-- a primary begins with no sign
primary_first : {s : List ℕ} {i j : ℕ} {t : Tree} → Reads s Primary i j t → is_first (byte s i) ≡ true
primary_first {s} {i} r = primary_is_first r

plain_only : {s : List ℕ} {i m : ℕ} {u : Tree} (k : ℕ) (t : Tree) → is_unary (byte s i) ≡ false → Finds s Primary (Stops s 7) i m u → Reads s Element i k t
    → Stops s 7 k → (k ≡ m) × (t ≡ u)
plain_only k t h f (signed a b e) stops = absurd (cc)
plain_only k t h f (plain a) stops = f.only k t a stops

pub finds_plain : (s : List ℕ) (i m : ℕ) (u : Tree) → is_unary (byte s i) ≡ false → Finds s Primary (Stops s 7) i m u → Finds s Element (Stops s 7) i m u
finds_plain s i m u h f = record { reads = plain f.reads; only = λ k t r stops. plain_only k t h f r stops }

plain_none : {s : List ℕ} {i : ℕ} (k : ℕ) (t : Tree) → is_unary (byte s i) ≡ false → Refuses s Primary (Stops s 7) i → Reads s Element i k t → Stops s 7 k → ⊥
plain_none k t h f (signed a b e) stops = cc
plain_none k t h f (plain a) stops = f.none k t a stops

refuses_plain : (s : List ℕ) (i : ℕ) → is_unary (byte s i) ≡ false → Refuses s Primary (Stops s 7) i → Refuses s Element (Stops s 7) i
refuses_plain s i h f = record { none = λ k t r stops. plain_none k t h f r stops }

signed_only : {s : List ℕ} {i m : ℕ} {u : Tree} (k : ℕ) (t : Tree) → is_unary (byte s i) ≡ true → Finds s Element (Stops s 7) (i + 1) m u
    → Reads s Element i k t → Stops s 7 k → (k ≡ m) × (t ≡ Unary (unary_operator (byte s i)) u)
signed_only {s} {i} k t h f (signed {u = v} a b e) stops = let g = f.only k v b stops in (g.0, e ∙ ap (λ x. Unary (unary_operator (byte s i)) x) g.1)
signed_only {s} {i} k t h f (plain a) stops = absurd (first_not_unary _ (primary_first a) h)

pub finds_signed : (s : List ℕ) (i m : ℕ) (u : Tree) → is_unary (byte s i) ≡ true → Finds s Element (Stops s 7) (i + 1) m u
    → Finds s Element (Stops s 7) i m (Unary (unary_operator (byte s i)) u)
finds_signed s i m u h f = record { reads = signed h f.reads refl; only = λ k t r stops. signed_only k t h f r stops }

signed_none : {s : List ℕ} {i : ℕ} (k : ℕ) (t : Tree) → is_unary (byte s i) ≡ true → Refuses s Element (Stops s 7) (i + 1)
    → Reads s Element i k t → Stops s 7 k → ⊥
signed_none {s} {i} k t h f (signed {u = v} a b e) stops = f.none k v b stops
signed_none {s} {i} k t h f (plain a) stops = first_not_unary _ (primary_first a) h

refuses_signed : (s : List ℕ) (i : ℕ) → is_unary (byte s i) ≡ true → Refuses s Element (Stops s 7) (i + 1) → Refuses s Element (Stops s 7) i
refuses_signed s i h f = record { none = λ k t r stops. signed_none k t h f r stops }

refuses_signs : (s : List ℕ) (n i k : ℕ) → k ≡ i + n → IsRun UnarySign s i k → Refuses s Element (Stops s 7) k → Refuses s Element (Stops s 7) i
refuses_signs s zero i k e r f = let g : k ≡ i = omega arith in subst (λ x. Refuses s Element (Stops s 7) x) g f
refuses_signs s (suc n) i k e r f =
    refuses_signed s i (r.each i (omega arith) (omega arith))
    (refuses_signs s n (i + 1) k (omega arith) (record { order = omega arith; each = λ x low high. r.each x (omega arith) high }) f)

-- signs, and no primary behind them
pub refuses_element : (s : List ℕ) (i k : ℕ) → IsWholeRun UnarySign s i k → Refuses s Primary (Stops s 7) k → Refuses s Element (Stops s 7) i
refuses_element s i k r f = let o = r.run.order in refuses_signs s (k - i) i k (omega arith) r.run (refuses_plain s k r.stop f)

operand_only : {s : List ℕ} {l i m : ℕ} {u : Tree} (k : ℕ) (t : Tree) → l ≡ 7 → Finds s Element (Stops s 7) i m u → Reads s (Level l) i k t
    → Stops s l k → (k ≡ m) × (t ≡ u)
operand_only k t e f (chain h a b) stops = absurd (omega arith)
operand_only {s} k t e f (operand h a) stops = f.only k t a (subst (λ x. Stops s x k) e stops)

pub finds_operand : (s : List ℕ) (l i m : ℕ) (u : Tree) → l ≡ 7 → Finds s Element (Stops s 7) i m u → Finds s (Level l) (Stops s l) i m u
finds_operand s l i m u e f = record { reads = operand e f.reads; only = λ k t r stops. operand_only k t e f r stops }

operand_none : {s : List ℕ} {l i : ℕ} (k : ℕ) (t : Tree) → l ≡ 7 → Refuses s Element (Stops s 7) i → Reads s (Level l) i k t → Stops s l k → ⊥
operand_none k t e f (chain h a b) stops = omega arith
operand_none {s} k t e f (operand h a) stops = f.none k t a (subst (λ x. Stops s x k) e stops)

pub refuses_operand : (s : List ℕ) (l i : ℕ) → l ≡ 7 → Refuses s Element (Stops s 7) i → Refuses s (Level l) (Stops s l) i
refuses_operand s l i e f = record { none = λ k t r stops. operand_none k t e f r stops }
