-- Each symbol stands once, so its number is its place.
use Rattle.std.proofs.Common.{◌≡◌, ℕ, zero, suc, ◌+◌, ◌<◌, ◌≤◌, nat_lt, Bool, true, false, List, [], ◌∷◌, ◌++◌, if◌then◌else◌, length, slice_index_or, refl, ap}
use Rattle.std.proofs.Common.{sym, ◌∙◌, subst, arith}
use Rattle.std.specs.Str.{bytes_eq}
use Rattle.std.proofs.lemmas.Bool.{ltb-true, ltb-false}
use Rattle.std.proofs.lemmas.Slice.Eq.{bytes_eq-Decides}
use Rattle.std.proofs.Math.ListN.{get_or-append}
use Rattle.std.proofs.Math.Seq.{get_or-append_seam}
use Rattle.std.proofs.lemmas.List.{length-append, get_or_past}
use Rattle.sno_store.specs.Store.{place, is_symbol, new_store}

abbrev pub IsNumbered : List (List ℕ) → Type 0
IsNumbered symbols = (i : ℕ) → i < length symbols → place (slice_index_or symbols i []) symbols ≡ i

-- a name that is found keeps its place where another joins
place_stays : (name new : List ℕ) (symbols : List (List ℕ)) → place name symbols < length symbols → place name (symbols ++ new ∷ []) ≡ place name symbols
place_stays name new [] h = absurd (omega arith)
place_stays name new (symbol ∷ symbols) h = by (bytes_eq name symbol) (place_stays name new symbols) h
  where
    by : (b : Bool) → (place name symbols < length symbols → place name (symbols ++ new ∷ []) ≡ place name symbols)
        → (if b then 0 else suc (place name symbols)) < suc (length symbols) → (if b then 0 else suc (place name (symbols ++ new ∷ [])))
        ≡ (if b then 0 else suc (place name symbols))
    by true next h = refl
    by false next h = ap suc (next (omega arith))

-- one that is none goes last
place_new : (name : List ℕ) (symbols : List (List ℕ)) → bytes_eq name name ≡ true → length symbols ≤ place name symbols
    → place name (symbols ++ name ∷ []) ≡ length symbols
place_new name [] self h = ap (λ b. if b then 0 else 1) self
place_new name (symbol ∷ symbols) self h = by (bytes_eq name symbol) (place_new name symbols self) h
  where
    by : (b : Bool) → (length symbols ≤ place name symbols → place name (symbols ++ name ∷ []) ≡ length symbols)
        → suc (length symbols) ≤ (if b then 0 else suc (place name symbols)) → (if b then 0 else suc (place name (symbols ++ name ∷ []))) ≡ suc (length symbols)
    by true next h = absurd (omega arith)
    by false next h = ap suc (next (omega arith))

same_bytes : (name : List ℕ) → bytes_eq name name ≡ true
same_bytes name = (bytes_eq-Decides name name).1 refl

place_of_last : (name : List ℕ) (symbols : List (List ℕ)) → is_symbol name symbols ≡ false → place name (symbols ++ name ∷ []) ≡ length symbols
place_of_last name symbols none = place_new name symbols (same_bytes name) (ltb-false (place name symbols) (length symbols) none)

-- symbols stay numbered where a new one joins
pub numbered_with : (name : List ℕ) (symbols : List (List ℕ)) → is_symbol name symbols ≡ false → IsNumbered symbols → IsNumbered (symbols ++ name ∷ [])
numbered_with name symbols none numbered i h = by (nat_lt i (length symbols)) refl
  where
    at : slice_index_or (symbols ++ name ∷ []) (length symbols) [] ≡ name
    at = get_or-append_seam symbols name [] []

    by : (b : Bool) → nat_lt i (length symbols) ≡ b → place (slice_index_or (symbols ++ name ∷ []) i []) (symbols ++ name ∷ []) ≡ i
    by true is =
        let within : i < length symbols = ltb-true i (length symbols) is in
        let same : slice_index_or (symbols ++ name ∷ []) i [] ≡ slice_index_or symbols i [] = get_or-append symbols (name ∷ []) [] i within in
        let before : place (slice_index_or symbols i []) symbols < length symbols = subst (λ k. k < length symbols) (sym (numbered i within)) within in
        ap (λ s. place s (symbols ++ name ∷ [])) same ∙ (place_stays (slice_index_or symbols i []) name symbols before ∙ numbered i within)
    by false is =
        let past : length symbols ≤ i = ltb-false i (length symbols) is in
        let whole : length (symbols ++ name ∷ []) ≡ length symbols + 1 = length-append symbols (name ∷ []) in
        let last : i ≡ length symbols = omega arith in
        ap (λ k. place (slice_index_or (symbols ++ name ∷ []) k []) (symbols ++ name ∷ [])) last
        ∙ (ap (λ s. place s (symbols ++ name ∷ [])) at ∙ (place_of_last name symbols none ∙ sym last))

-- the symbols of a new store
pub new_numbered : IsNumbered new_store.symbols
new_numbered zero h = refl
new_numbered (suc zero) h = refl
new_numbered (suc (suc zero)) h = refl
new_numbered (suc (suc (suc zero))) h = refl
new_numbered (suc (suc (suc (suc zero)))) h = refl
new_numbered (suc (suc (suc (suc (suc zero))))) h = refl
new_numbered (suc (suc (suc (suc (suc (suc zero)))))) h = refl
new_numbered (suc (suc (suc (suc (suc (suc (suc zero))))))) h = refl
new_numbered (suc (suc (suc (suc (suc (suc (suc (suc zero)))))))) h = refl
new_numbered (suc (suc (suc (suc (suc (suc (suc (suc (suc i))))))))) h = absurd (omega arith)

-- a number whose text is a name is the name's
pub numbered_place : (name : List ℕ) (symbols : List (List ℕ)) (i : ℕ) → IsNumbered symbols → 0 < length name → slice_index_or symbols i [] ≡ name
    → (i < length symbols) × (place name symbols ≡ i)
numbered_place name symbols i numbered some is = by (nat_lt i (length symbols)) refl
  where
    by : (b : Bool) → nat_lt i (length symbols) ≡ b → (i < length symbols) × (place name symbols ≡ i)
    by true h = let within : i < length symbols = ltb-true i (length symbols) h in (within, ap (λ s. place s symbols) (sym is) ∙ numbered i within)
    by false h =
        let past : slice_index_or symbols i [] ≡ [] = get_or_past symbols i [] (ltb-false i (length symbols) h) in
        let none : length name ≡ 0 = ap length (sym is ∙ past) in
        absurd (omega arith)
