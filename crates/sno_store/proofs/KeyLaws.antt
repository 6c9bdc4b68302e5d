-- Keys stay those of their symbols where the last ones go, and where one joins.
use Rattle.std.proofs.Common.{◌≡◌, ℕ, ◌<◌, ◌≤◌, ◌++◌, ◌∷◌, List, [], length, take, slice_index_or, sym, ap, subst, ◌∙◌, arith, ⊎_elim}
use Rattle.std.proofs.Common.{Bool, true, false, if◌then◌else◌}
use Rattle.std.proofs.lemmas.Bool.{cases_lt}
use Rattle.std.proofs.Math.Nat.{min-le_left}
use Rattle.std.proofs.Math.Seq.{get_or-append_seam}
use Rattle.std.proofs.lemmas.List.{get_or_append_left, get_or-take, get_or_past, length-append, length-take}
use Rattle.sno_value.specs.Keys.{name_of}
use Rattle.sno_store.specs.Symbols.{HasKey}
use Rattle.sno_store.specs.inner.Symbols.{AreKeysOf}

-- by 1 no name is known
pub none_known : (i : ℕ) (symbols : List (List ℕ)) → HasKey i 1 symbols
none_known i symbols = (omega arith, λ some. absurd (omega (arith, some)))

pub cut : (count : ℕ) (symbols : List (List ℕ)) (keys : List ℕ) → AreKeysOf symbols keys → AreKeysOf (take count symbols) (take count keys)
cut count symbols keys known i = ⊎_elim here nowhere (cases_lt i count) where
  Goal : Type 0
  Goal = HasKey i (slice_index_or (take count keys) i 1) (take count symbols)

  here : i < count → Goal
  here h =
      rw (get_or-take count keys i 1 h) (rw (get_or-take count symbols i [] h) (known i))

  nowhere : count ≤ i → Goal
  nowhere h =
      subst (λ key. HasKey i key (take count symbols))
      (sym (get_or_past (take count keys) i 1 (omega (arith, h, length-take count keys, min-le_left count (length keys)))))
      (none_known i (take count symbols))

pub joined : (symbols : List (List ℕ)) (keys : List ℕ) (key : ℕ)
    → AreKeysOf symbols keys → HasKey (length keys) key symbols → AreKeysOf symbols (keys ++ key ∷ [])
joined symbols keys key known last i = ⊎_elim before behind (cases_lt i (length keys)) where
  Goal : Type 0
  Goal = HasKey i (slice_index_or (keys ++ key ∷ []) i 1) symbols

  before : i < length keys → Goal
  before h = subst (λ k. HasKey i k symbols) (sym (get_or_append_left keys (key ∷ []) 1 i h)) (known i)

  at : i ≡ length keys → Goal
  at here =
      rw here
      (subst (λ k. HasKey (length keys) k symbols) (sym (get_or-append_seam keys key [] 1)) last)

  past : length keys < i → Goal
  past h =
      subst (λ k. HasKey i k symbols)
      (sym (get_or_past (keys ++ key ∷ []) i 1 (omega (arith, h, length-append keys (key ∷ [])))))
      (none_known i symbols)

  behind : length keys ≤ i → Goal
  behind h = ⊎_elim past (λ least. at (omega (arith, h, least))) (cases_lt (length keys) i)

-- where a symbol joins, the keys of the others stay
pub known_more : (symbols : List (List ℕ)) (name : List ℕ) (keys : List ℕ) → AreKeysOf symbols keys → AreKeysOf (symbols ++ name ∷ []) keys
known_more symbols name keys known i = ((known i).0, λ some. (more some ((known i).1 some).0, ((known i).1 some).1)) where
  more : 1 ≤ length (name_of (slice_index_or keys i 1)) → slice_index_or symbols i [] ≡ name_of (slice_index_or keys i 1)
      → slice_index_or (symbols ++ name ∷ []) i [] ≡ name_of (slice_index_or keys i 1)
  more some is = ⊎_elim here past (cases_lt i (length symbols)) where
    here : i < length symbols → slice_index_or (symbols ++ name ∷ []) i [] ≡ name_of (slice_index_or keys i 1)
    here h = get_or_append_left symbols (name ∷ []) [] i h ∙ is

    past : length symbols ≤ i → slice_index_or (symbols ++ name ∷ []) i [] ≡ name_of (slice_index_or keys i 1)
    past h =
        let none : [] ≡ name_of (slice_index_or keys i 1) = sym (get_or_past symbols i [] h) ∙ is in
        absurd (omega (arith, some, ap length none))

-- where memory is refused, none joins
pub joined_if : (ok : Bool) (symbols : List (List ℕ)) (keys : List ℕ) (key : ℕ)
    → AreKeysOf symbols keys → HasKey (length keys) key symbols → AreKeysOf symbols (if ok then keys ++ key ∷ [] else keys)
joined_if true symbols keys key known last = joined symbols keys key known last
joined_if false _ _ _ known _ = known
