-- How many symbols there are once names have joined.
use Rattle.std.proofs.Common.{◌≡◌, ℕ, suc, ◌+◌, ◌<◌, ◌≤◌, Bool, true, false, ltb, ◌||◌, List, [], ◌∷◌, ◌++◌, length, take, get_or, refl, sym, ap, ◌∙◌, arith}
use Rattle.std.proofs.Common.{if◌then◌else◌}
use Rattle.std.specs.List.{list_any}
use Rattle.std.specs.Str.{bytes_eq}
use Rattle.std.proofs.Math.Bool.{or_assoc, or-false}
use Rattle.std.proofs.lemmas.Bool.{lt-ltb, le-ltb, ltb-false}
use Rattle.std.proofs.lemmas.Bool.Decides.{nat_tests}
use Rattle.std.proofs.lemmas.List.{length_push, take_more}
use Rattle.std.proofs.lemmas.List.Folds.{list_any-append}
use Rattle.std.proofs.lemmas.Slice.Eq.{bytes_eq-Decides}
use Rattle.sno_store.specs.Store.{place, is_symbol}
use Rattle.sno_store.specs.Definitions.{Prototype, names, with_names}
use Rattle.sno_store.proofs.NameLaws.{with_name, with_names-append}

next_below : (p n : ℕ) → ltb (suc p) (suc n) ≡ ltb p n
next_below p n = grind (arith, nat_tests)

-- a symbol is one of the list
pub is_listed : (name : List ℕ) (symbols : List (List ℕ)) → is_symbol name symbols ≡ list_any (bytes_eq name) symbols
is_listed name [] = refl
is_listed name (symbol ∷ symbols) = by (bytes_eq name symbol) (is_listed name symbols)
  where
    by : (b : Bool) → is_symbol name symbols ≡ list_any (bytes_eq name) symbols → ltb (if b then 0 else suc (place name symbols)) (suc (length symbols))
        ≡ (b || list_any (bytes_eq name) symbols)
    by true h = lt-ltb 0 (suc (length symbols)) (omega arith)
    by false h = next_below (place name symbols) (length symbols) ∙ h

or_self : (b c : Bool) → (c ≡ true → b ≡ true) → b ≡ (b || c)
or_self true c h = refl
or_self false true h = h refl
or_self false false h = refl

-- one name has joined
one_joined : (name other : List ℕ) (symbols : List (List ℕ)) → is_symbol name (with_name other symbols) ≡ (is_symbol name symbols || bytes_eq name other)
one_joined name other symbols = by (is_symbol other symbols) refl
  where
    by : (b : Bool) → is_symbol other symbols ≡ b → is_symbol name (if b then symbols else symbols ++ other ∷ [])
        ≡ (is_symbol name symbols || bytes_eq name other)
    by true e = or_self (is_symbol name symbols) (bytes_eq name other) (λ same. ap (λ n. is_symbol n symbols) ((bytes_eq-Decides name other).0 same) ∙ e)
    by false e =
        is_listed name (symbols ++ other ∷ []) ∙ list_any-append (bytes_eq name) symbols (other ∷ [])
        ∙ ap (λ b. list_any (bytes_eq name) symbols || b) (or-false (bytes_eq name other)) ∙ ap (λ b. b || bytes_eq name other) (sym (is_listed name symbols))

-- and names have
pub names_joined : (name : List ℕ) (ns symbols : List (List ℕ)) → is_symbol name (with_names ns symbols)
    ≡ (is_symbol name symbols || list_any (bytes_eq name) ns)
names_joined name [] symbols = sym (or-false (is_symbol name symbols))
names_joined name (n ∷ ns) symbols =
    names_joined name ns (with_name n symbols) ∙ ap (λ b. b || list_any (bytes_eq name) ns) (one_joined name n symbols)
    ∙ or_assoc (is_symbol name symbols) (bytes_eq name n) (list_any (bytes_eq name) ns)

-- one more, whatever the names behind it
pub first_joined : (name first : List ℕ) (ns symbols : List (List ℕ)) (known same listed : Bool) → known ≡ is_symbol name symbols → same ≡ bytes_eq name first
    → listed ≡ list_any (bytes_eq name) ns
    → (known || (same || listed)) ≡ is_symbol name (with_names (first ∷ ns) symbols)
first_joined name first ns symbols known same listed e f g = (λ i. e i || (f i || g i)) ∙ sym (names_joined name (first ∷ ns) symbols)

-- one more is counted where it is new
pub counted : (name : List ℕ) (symbols : List (List ℕ)) (known : Bool) → known ≡ is_symbol name symbols → length (with_name name symbols)
    ≡ length symbols + (if known then 0 else 1)
counted name symbols true e = ap (λ b. length (if b then symbols else symbols ++ name ∷ [])) (sym e) ∙ omega arith
counted name symbols false e = ap (λ b. length (if b then symbols else symbols ++ name ∷ [])) (sym e) ∙ length_push symbols name

pub one_or_none : (known : Bool) → (if known then 0 else 1) ≤ 1
one_or_none true = omega arith
one_or_none false = omega arith

-- a step of the count, with the name at i
pub counted_at : (texts : List (List ℕ)) (i : ℕ) (name : List ℕ) → (i < length texts) × (name ≡ get_or texts i name)
    → (symbols : List (List ℕ)) (n : ℕ) (known : Bool)
    → known ≡ (is_symbol name symbols || list_any (bytes_eq name) (take i texts)) → length (with_names (take i texts) symbols) ≡ length symbols + n
    → length (with_names (take (i + 1) texts) symbols) ≡ length symbols + (n + (if known then 0 else 1))
counted_at texts i name t symbols n known e so_far =
    let more : with_names (take (i + 1) texts) symbols ≡ with_name name (with_names (take i texts) symbols) =
    ap (λ ns. with_names ns symbols) (take_more texts i name t.0) ∙ with_names-append (take i texts) (get_or texts i name ∷ []) symbols
    ∙ ap (λ x. with_name x (with_names (take i texts) symbols)) (sym t.1) in
    let here : known ≡ is_symbol name (with_names (take i texts) symbols) = e ∙ sym (names_joined name (take i texts) symbols) in
    ap length more ∙ counted name (with_names (take i texts) symbols) known here ∙ omega (arith, so_far)

-- no more than there are names
pub few_joined : (ns symbols : List (List ℕ)) → length (with_names ns symbols) ≤ length symbols + length ns
few_joined [] symbols = omega arith
few_joined (n ∷ ns) symbols = omega (arith, few_joined ns (with_name n symbols), one (is_symbol n symbols))
  where
    one : (b : Bool) → length (if b then symbols else symbols ++ n ∷ []) ≤ length symbols + 1
    one true = omega arith
    one false = omega (arith, length_push symbols n)

-- the names of a prototype, counted one list after another
pub prototype_counted : (p : Prototype) (symbols : List (List ℕ)) (function formals locals : ℕ) → length (with_name p.function symbols)
    ≡ length symbols + function
    → length (with_names p.formals (with_names (p.function ∷ []) symbols)) ≡ length (with_names (p.function ∷ []) symbols) + formals
    → length (with_names p.locals (with_names (p.function ∷ p.formals) symbols)) ≡ length (with_names (p.function ∷ p.formals) symbols) + locals
    → length symbols + function + formals + locals ≡ length (with_names (names p) symbols)
prototype_counted p symbols function formals locals e f g =
    omega (arith, e, f, g) ∙ sym (ap length (with_names-append p.formals p.locals (with_name p.function symbols)))

-- far from the most symbols there is room for the names of each prototype
pub room_left : (ns symbols : List (List ℕ)) (n : ℕ) → n ≡ length symbols → length ns ≤ 100 → ltb 1_000_000 (n + 100) ≡ false → ltb 1_000_000 (n + 100)
    ≡ ltb 1_000_000 (length (with_names ns symbols))
room_left ns symbols n is few below =
    below ∙ sym (le-ltb 1_000_000 (length (with_names ns symbols)) (omega (arith, is, few, ltb-false 1_000_000 (n + 100) below, few_joined ns symbols)))
