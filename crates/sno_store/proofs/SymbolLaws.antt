-- The place of a name among symbols.
use Rattle.std.proofs.Common.{◌≡◌, ℕ, suc, ◌+◌, Bool, true, false, not, cond, nat_lt, List, [], ◌∷◌, ◌++◌, length, map, Some, None, refl, ap, sym, ◌∙◌, arith}
use Rattle.std.proofs.Common.{if◌then◌else◌, ◌≤◌, ◌<◌, ◌⊎◌}
use Rattle.std.proofs.lemmas.List.{length-append}
use Rattle.std.specs.List.{position, position_or_len}
use Rattle.std.specs.Str.{bytes_eq}
use Rattle.std.specs.Cmp.Lexicographic.{bytes_decides}
use Rattle.sno_store.specs.Store.{place, is_symbol}
use Rattle.sno_store.specs.Symbols.{found}
use Rattle.sno_store.specs.inner.Hashes.{text_hash}
use Rattle.sno_store.specs.declared.doubles.TextDoubles.{TextDoubles}
use Rattle.sno_store.specs.inner.Doubles.{text_place, Stay}
use Rattle.sno_store.specs.inner.Indexed.{AreDistinct, AreFound, IsAt}
use Rattle.sno_store.specs.inner.Paths.{IsOn, Keeps}
use Rattle.sno_store.specs.inner.Symbols.{AreKeysOf}
use Rattle.sno_store.proofs.IndexLaws.{distinct_with, found_with, hashes_with, nowhere_at, position_none, position_of, still_found}
use Rattle.sno_store.proofs.KeyLaws.{known_more}

place_step : (b : Bool) (p q : ℕ) → p ≡ q → (if b then 0 else suc p) ≡ cond (not b) (1 + q) 0
place_step true p q e = refl
place_step false p q e = omega arith

place_at : (t : List ℕ) (texts : List (List ℕ)) → place t texts ≡ position_or_len (bytes_eq t) texts
place_at t [] = refl
place_at t (text ∷ texts) = place_step (bytes_eq t text) (place t texts) (position_or_len (bytes_eq t) texts) (place_at t texts)

-- the number of a name is its index in the set
pub found_at : (t : List ℕ) (texts : List (List ℕ)) → found t texts ≡ position (bytes_eq t) texts
found_at t texts = ap (λ p. if nat_lt p (length texts) then Some p else None) (place_at t texts)

-- the test of a name's bytes
pub tells : (t text : List ℕ) → bytes_eq t text ≡ true → text ≡ t
tells t text h = sym ((bytes_decides t text).0 h)

pub itself : (t : List ℕ) → bytes_eq t t ≡ true
itself t = (bytes_decides t t).1 refl

-- a name that is no symbol has no place
pub absent : (t : List ℕ) (texts : List (List ℕ)) → is_symbol t texts ≡ false → (i : ℕ) → IsAt texts i t → ⊥
absent t texts h =
    nowhere_at (bytes_eq t) t (tells t) (itself t) texts
    (sym (found_at t texts) ∙ ap (λ b. if b then Some (place t texts) else None) h)

-- the place of a name is its number
pub name_here : (t : List ℕ) (texts : List (List ℕ)) (i : ℕ) → AreDistinct texts → IsAt texts i t → Some i ≡ position (bytes_eq t) texts
name_here t texts i distinct at = sym (position_of (bytes_eq t) t (tells t) (itself t) texts i distinct at)

pub no_name : (t : List ℕ) (texts : List (List ℕ)) → ((i : ℕ) → IsAt texts i t → ⊥) → None ≡ position (bytes_eq t) texts
no_name t texts none = sym (position_none (bytes_eq t) t (tells t) (itself t) texts none)

-- what stands of symbols, of the keys that are kept, of their hashes, of the slots of the paths to them and of the doubles
abbrev pub Stands : List (List ℕ) → List ℕ → List ℕ → List ℕ → TextDoubles → Type 0
Stands texts keys hashes slots doubles =
    (length texts ≤ 1_000_000) × AreKeysOf texts keys × (length keys ≤ length texts) × (hashes ≡ map text_hash texts)
    × AreDistinct texts × AreFound (text_place doubles) text_hash slots texts

-- where a path was made for a name that is no symbol, and where it was given a place
pub stands_still : (texts : List (List ℕ)) (name : List ℕ) (keys hashes slots new : List ℕ) (doubles given : TextDoubles)
    → is_symbol name texts ≡ false → Keeps hashes slots new → Stay name (text_place doubles) (text_place given)
    → Stands texts keys hashes slots doubles → Stands texts keys hashes new given
stands_still texts name keys hashes slots new doubles given none keeps stay stands = (
  stands.0,
  stands.1,
  stands.2,
  stands.3,
  stands.4,
  still_found (text_place doubles) (text_place given) text_hash slots new texts name hashes stands.3 keeps stay
      (absent name texts none) stands.5,
)

pub stands_with : (texts : List (List ℕ)) (name : List ℕ) (keys hashes slots : List ℕ) (doubles : TextDoubles)
    → is_symbol name texts ≡ false → length texts < 1_000_000 → Stands texts keys hashes slots doubles
    → IsOn slots (text_hash name) (length texts) ⊎ (text_place doubles name ≡ Some (length texts))
    → Stands (texts ++ name ∷ []) keys (hashes ++ text_hash name ∷ []) slots doubles
stands_with texts name keys hashes slots doubles new room stands last =
    let long = length-append texts (name ∷ []) in (
      omega (arith, room, long),
      known_more texts name keys stands.1,
      omega (arith, stands.2, long),
      hashes_with text_hash texts name hashes _ stands.3 refl,
      distinct_with _ texts name stands.4 (absent name texts new),
      found_with (text_place doubles) text_hash slots texts name stands.5 last,
    )
