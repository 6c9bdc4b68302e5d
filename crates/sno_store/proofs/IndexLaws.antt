-- Keys that an index knows: what is found is the place of the first equal key, and none are equal.
use Rattle.std.proofs.Common.{◌≡◌, ℕ, zero, suc, ◌+◌, ◌<◌, ◌≤◌, ◌⊎◌, ⊎_elim, inl, inr, Bool, true, false, not, cond, nat_lt}
use Rattle.std.proofs.Common.{List, [], ◌∷◌, ◌++◌, length, map, take, slice_index_or, Some, None, Option, refl, sym, subst, ap, ◌∙◌, arith}
use Rattle.std.specs.List.{position, position_or_len}
use Rattle.std.proofs.Math.Seq.{get_or-append_seam}
use Rattle.std.proofs.lemmas.Bool.{cases_lt, lt-ltb, le-ltb}
use Rattle.std.proofs.Math.Nat.{min-le_left, min-le_right}
use Rattle.std.proofs.lemmas.List.{get_or_append_left, get_or_default, get_or-map, get_or-take, length-append, length-map, length-take, map-append, take-map}
use Rattle.std.proofs.lemmas.List.Sums.{position_or_len_is}
use Rattle.sno_store.specs.inner.Doubles.{Stay}
use Rattle.sno_store.specs.inner.Paths.{at, end_of, IsFoundIn, IsOn, Keeps}
use Rattle.sno_store.specs.inner.Indexed.{AreDistinct, AreFound, IsAt, IsNoDouble}

-- a test is true or false
pub cases_bool : (b : Bool) → (b ≡ true) ⊎ (b ≡ false)
cases_bool true = inl refl
cases_bool false = inr refl

module _ {K : Type 0} (test : K → Bool) (key : K) (tells : (k : K) → test k ≡ true → k ≡ key) (own : test key ≡ true) where
  fails : (k : K) → (k ≡ key → ⊥) → test k ≡ false
  fails k other = ⊎_elim (λ yes. absurd (other (tells k yes))) (λ no. no) (cases_bool (test k))

  -- the place of a key
  pub position_of : (keys : List K) (place : ℕ) → AreDistinct keys → IsAt keys place key → position test keys ≡ Some place
  position_of keys place distinct at =
      let first : position_or_len test keys ≡ place =
      position_or_len_is test keys place key (omega (arith, at.within))
      (λ k below. fails (slice_index_or keys k key) (λ e. distinct.each k place key below at.within (e ∙ sym (at.here key))))
      (λ within. ap test (at.here key) ∙ own) in
      let in_it : nat_lt place (length keys) ≡ true = lt-ltb place (length keys) at.within in
      ap (λ p. cond (nat_lt p (length keys)) (Some p) None) first
      ∙ ap (λ b. cond b (Some place) None) in_it

  -- where no place has the key
  pub position_none : (keys : List K) → ((i : ℕ) → IsAt keys i key → ⊥) → position test keys ≡ None
  position_none keys none =
      let last : position_or_len test keys ≡ length keys =
      position_or_len_is test keys (length keys) key (omega arith)
      (λ k below. fails (slice_index_or keys k key) (λ e. none k (record { within = below; here = λ d. get_or_default keys k d key below ∙ e })))
      (λ within. absurd (omega (arith, within))) in
      let out : nat_lt (length keys) (length keys) ≡ false = le-ltb (length keys) (length keys) (omega arith) in
      ap (λ p. cond (nat_lt p (length keys)) (Some p) None) last
      ∙ ap (λ b. cond b (Some (length keys)) None) out

  first_le : (keys : List K) (i : ℕ) (d : K) → i < length keys → test (slice_index_or keys i d) ≡ true → position_or_len test keys ≤ i
  first_le [] i d h own = absurd (omega (arith, h))
  first_le (k ∷ ks) zero d h own = omega (arith, ap (λ b. cond (not b) (1 + position_or_len test ks) 0) own)
  first_le (k ∷ ks) (suc i) d h own = more (test k) (position_or_len test ks) (first_le ks i d (omega (arith, h)) own)
    where
      more : (b : Bool) (q : ℕ) → q ≤ i → cond (not b) (1 + q) 0 ≤ suc i
      more true q le = omega arith
      more false q le = omega (arith, le)

  -- what is not found has no place
  pub nowhere_at : (keys : List K) → position test keys ≡ None → (i : ℕ) → IsAt keys i key → ⊥
  nowhere_at keys none i at =
      let le = first_le keys i key at.within (ap test (at.here key) ∙ own) in
      let in_it : nat_lt (position_or_len test keys) (length keys) ≡ true =
      lt-ltb (position_or_len test keys) (length keys) (omega (arith, le, at.within)) in
      let some : Some (position_or_len test keys) ≡ None =
      sym (ap (λ b. cond b (Some (position_or_len test keys)) None) in_it) ∙ none in
      cc

-- a key that is neither found by its hash nor among the doubles has no place
pub missed : {K : Type 0} (given : K → Option ℕ) (hash_of : K → ℕ) (slots : List ℕ) (keys : List K) (key : K) (found : Option ℕ)
    → length keys ≤ 1_000_000 → AreFound given hash_of slots keys
    → IsFoundIn found (at slots (end_of slots (hash_of key)).slot) → ((i : ℕ) → found ≡ Some i → IsAt keys i key → ⊥)
    → IsNoDouble given keys key → (i : ℕ) → IsAt keys i key → ⊥
missed given hash_of slots keys key found few all told other single i place =
    ⊎_elim (λ on. other i (told.each i on (omega (arith, place.within, few))) place) (λ is. single.each i is place) (all.each i key place)

-- a key that isn't where it was found has no place that was found
pub elsewhere : {K : Type 0} (keys : List K) (key : K) (found : Option ℕ) (place : ℕ) → found ≡ Some place → (IsAt keys place key → ⊥)
    → (i : ℕ) → found ≡ Some i → IsAt keys i key → ⊥
elsewhere keys key found place here other i is at =
    let same : i ≡ place = cc in other (subst (λ k. IsAt keys k key) same at)

pub distinct_none : {K : Type 0} → AreDistinct {K = K} []
distinct_none = record { each = λ i j d below within same. absurd (omega (arith, within)) }

pub distinct_cut : {K : Type 0} (count : ℕ) (keys : List K) → AreDistinct keys → AreDistinct (take count keys)
distinct_cut count keys distinct = record {
  each = λ i j d below within same.
      let short = length-take count keys in
      let kept = min-le_left count (length keys) in
      let known = min-le_right count (length keys) in
      distinct.each i j d below (omega (arith, within, short, known))
      (sym (get_or-take count keys i d (omega (arith, below, within, short, kept))) ∙ same
      ∙ get_or-take count keys j d (omega (arith, within, short, kept)));
}

pub distinct_with : (K : Type 0) (keys : List K) (key : K) → AreDistinct keys → ((i : ℕ) → IsAt keys i key → ⊥)
    → AreDistinct (keys ++ key ∷ [])
distinct_with K keys key distinct new = record { each = λ i j d below within same. at i j d below within same } where
  at : (i j : ℕ) (d : K) → i < j → j < length (keys ++ key ∷ []) → slice_index_or (keys ++ key ∷ []) i d ≡ slice_index_or (keys ++ key ∷ []) j d
      → ⊥
  at i j d below within same = ⊎_elim before last (cases_lt j (length keys)) where
    all : length (keys ++ key ∷ []) ≡ length keys + 1
    all = length-append keys (key ∷ [])

    before : j < length keys → ⊥
    before h =
        distinct.each i j d below h
        (sym (get_or_append_left keys (key ∷ []) d i (omega (arith, below, h))) ∙ same ∙ get_or_append_left keys (key ∷ []) d j h)

    last : length keys ≤ j → ⊥
    last h =
        let end : j ≡ length keys = omega (arith, h, within, all) in
        let inside : i < length keys = omega (arith, below, end) in
        let equal : slice_index_or keys i d ≡ key =
        sym (get_or_append_left keys (key ∷ []) d i inside) ∙ same
        ∙ ap (λ k. slice_index_or (keys ++ key ∷ []) k d) end ∙ get_or-append_seam keys key [] d in
        new i (record { within = inside; here = λ e. get_or_default keys i e d inside ∙ equal })

-- where the slots keep all and no place of a key that is there changes, each key is found as before
pub still_found : {K : Type 0} (given now : K → Option ℕ) (hash_of : K → ℕ) (slots new : List ℕ) (keys : List K) (key : K) (hashes : List ℕ)
    → hashes ≡ map hash_of keys → Keeps hashes slots new → Stay key given now → ((i : ℕ) → IsAt keys i key → ⊥)
    → AreFound given hash_of slots keys → AreFound now hash_of new keys
still_found {K = K} given now hash_of slots new keys key hashes are keeps stay absent all = record { each = each } where
  each : (i : ℕ) (k : K) → IsAt keys i k → IsOn new (hash_of k) i ⊎ (now k ≡ Some i)
  each i k place = ⊎_elim (λ on. inl (by_path on)) (λ is. inr (stay.each k other ∙ is)) (all.each i k place) where
    within : i < length hashes
    within = subst (λ hs. i < length hs) (sym are) (subst (λ n. i < n) (sym (length-map keys hash_of)) place.within)

    same : slice_index_or hashes i 0 ≡ hash_of k
    same = ap (λ hs. slice_index_or hs i 0) are ∙ get_or-map hash_of keys i k 0 place.within ∙ ap hash_of (place.here k)

    by_path : IsOn slots (hash_of k) i → IsOn new (hash_of k) i
    by_path on = subst (λ h. IsOn new h i) same (keeps.each i within (subst (λ h. IsOn slots h i) (sym same) on))

    other : k ≡ key → ⊥
    other e = absent i (subst (λ k. IsAt keys i k) e place)

-- nothing changes where no place does
pub stays : {K : Type 0} (key : K) (given : K → Option ℕ) → Stay key given given
stays key given = record { each = λ k other. refl }

-- a key joins that has a path, or was given its place
pub found_with : {K : Type 0} (given : K → Option ℕ) (hash_of : K → ℕ) (slots : List ℕ) (keys : List K) (key : K)
    → AreFound given hash_of slots keys → IsOn slots (hash_of key) (length keys) ⊎ (given key ≡ Some (length keys))
    → AreFound given hash_of slots (keys ++ key ∷ [])
found_with {K = K} given hash_of slots keys key all last = record { each = each } where
  each : (i : ℕ) (k : K) → IsAt (keys ++ key ∷ []) i k → IsOn slots (hash_of k) i ⊎ (given k ≡ Some i)
  each i k place = ⊎_elim before behind (cases_lt i (length keys)) where
    before : i < length keys → IsOn slots (hash_of k) i ⊎ (given k ≡ Some i)
    before h = all.each i k (record { within = h; here = λ d. sym (get_or_append_left keys (key ∷ []) d i h) ∙ place.here d })

    behind : length keys ≤ i → IsOn slots (hash_of k) i ⊎ (given k ≡ Some i)
    behind h =
        let end : length keys ≡ i = omega (arith, h, place.within, length-append keys (key ∷ [])) in
        let own : key ≡ k = sym (get_or-append_seam keys key [] k) ∙ ap (λ n. slice_index_or (keys ++ key ∷ []) n k) end ∙ place.here k in
        subst (λ n. IsOn slots (hash_of k) n ⊎ (given k ≡ Some n)) end
        (subst (λ x. IsOn slots (hash_of x) (length keys) ⊎ (given x ≡ Some (length keys))) own last)

-- the first keys are found
pub found_cut : {K : Type 0} (given : K → Option ℕ) (hash_of : K → ℕ) (slots : List ℕ) (count : ℕ) (keys : List K)
    → AreFound given hash_of slots keys → AreFound given hash_of slots (take count keys)
found_cut given hash_of slots count keys all = record {
  each = λ i k place.
      let short = length-take count keys in
      let kept = min-le_left count (length keys) in
      let known = min-le_right count (length keys) in
      let low : i < count = omega (arith, place.within, short, kept) in
      all.each i k (record {
        within = omega (arith, place.within, short, known);
        here = λ d. sym (get_or-take count keys i d low) ∙ place.here d;
      });
}

-- no key is found where none is
pub found_none : {K : Type 0} (given : K → Option ℕ) (hash_of : K → ℕ) (slots : List ℕ) → AreFound {K = K} given hash_of slots []
found_none given hash_of slots = record { each = λ i k place. absurd (omega (arith, place.within)) }

-- hashes stay those of the keys where one joins, and where the last ones go
pub hashes_with : {K : Type 0} (hash_of : K → ℕ) (keys : List K) (key : K) (hashes new : List ℕ) → hashes ≡ map hash_of keys
    → new ≡ hashes ++ hash_of key ∷ [] → new ≡ map hash_of (keys ++ key ∷ [])
hashes_with hash_of keys key hashes new are is =
    is ∙ ap (λ hs. hs ++ hash_of key ∷ []) are ∙ sym (map-append hash_of keys (key ∷ []))

pub hashes_cut : {K : Type 0} (hash_of : K → ℕ) (count : ℕ) (keys : List K) (hashes new : List ℕ) → hashes ≡ map hash_of keys
    → new ≡ take count hashes → new ≡ map hash_of (take count keys)
hashes_cut hash_of count keys hashes new are is = is ∙ ap (take count) are ∙ take-map hash_of count keys
