-- What the index knows of keys. Private contracts alone cite it.
use Rattle.std.specs.Prelude.{◌≡◌, ℕ, ◌<◌, ◌⊎◌, Bool, true, false, List, length, map, Option, Some, slice_index_or}
use Rattle.sno_store.specs.inner.Paths.{IsOn}

-- the keys of entries
abbrev pub keys_of : {K V : Type 0} → List (K × V) → List K
keys_of entries = map (λ entry. entry.0) entries

-- no two keys are equal
pub record AreDistinct {K : Type 0} (keys : List K) : Type 0 where
  pub each : (i j : ℕ) (d : K) → i < j → j < length keys → slice_index_or keys i d ≡ slice_index_or keys j d → ⊥

-- a key has a place
pub record IsAt {K : Type 0} (keys : List K) (place : ℕ) (key : K) : Type 0 where
  pub within : place < length keys
  pub here : (d : K) → slice_index_or keys place d ≡ key

-- each key has a path to its place, or is a double that was given it
pub record AreFound {K : Type 0} (given : K → Option ℕ) (hash_of : K → ℕ) (slots : List ℕ) (keys : List K) : Type 0 where
  pub each : (i : ℕ) (key : K) → IsAt keys i key → IsOn slots (hash_of key) i ⊎ (given key ≡ Some i)

-- no double is a key with the place that it was given
pub record IsNoDouble {K : Type 0} (given : K → Option ℕ) (keys : List K) (key : K) : Type 0 where
  pub each : (i : ℕ) → given key ≡ Some i → IsAt keys i key → ⊥

-- what was told of the place of a key
pub record IsAnswer {K : Type 0} (keys : List K) (place : ℕ) (key : K) (answer : Bool) : Type 0 where
  pub yes : answer ≡ true → IsAt keys place key
  pub no : answer ≡ false → IsAt keys place key → ⊥
