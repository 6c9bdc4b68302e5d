-- A set of few bytes as a list of eight.
use Rattle.std.proofs.Common.{◌≡◌, ◌≢◌, ℕ, suc, ◌+◌, ◌<◌, ◌≤◌, ◌==◌, true, false, ◌||◌, Option, Some, None, IfSome, List, [], ◌∷◌, length, take, drop, get_or}
use Rattle.std.proofs.Common.{slice_set, Fits, w8, refl, sym, ◌∙◌, ap, arith, ⊎_elim}
use Rattle.std.proofs.lemmas.Bool.{eq-eqb, ne_eqb}
use Rattle.std.proofs.lemmas.Bool.Decides.{eqb_tells}
use Rattle.std.proofs.lemmas.List.{get_or-drop, get_or-set_other, length-drop, take-append-drop, take_all, take_more_set}
use Rattle.std.proofs.lemmas.List.Folds.{list_any-append, list_any_at}
use Rattle.sno_pattern.specs.Ends.{is_in}
use Rattle.sno_pattern.specs.Sets.{set_of}
use Rattle.sno_pattern.specs.Masks.{members}
use Rattle.sno_pattern.proofs.SetLaws.{is_in-more, is_in-set_of, past_set, or-right, or-none}
use Rattle.sno_pattern.proofs.PlaceLaws.{below_or_not}

-- a byte that is there already
pub seen_again : (eight bytes : List ℕ) (count i : ℕ) → i < length bytes → ((b : ℕ) → is_in (take count eight) b ≡ is_in (take i bytes) b)
    → is_in (take count eight) (get_or bytes i 0) ≡ true →
    (b : ℕ) → is_in (take count eight) b ≡ is_in (take (i + 1) bytes) b
seen_again eight bytes count i inside seen there b = ⊎_elim here other (eqb_tells (get_or bytes i 0) b)
  where
    Goal : Type 0
    Goal = is_in (take count eight) b ≡ is_in (take (i + 1) bytes) b

    here : ((get_or bytes i 0 == b) ≡ true) × (get_or bytes i 0 ≡ b) → Goal
    here e = rw (is_in-more bytes i b inside, e.0, or-right (is_in (take i bytes) b)) (ap (is_in (take count eight)) (sym e.1) ∙ there)

    other : ((get_or bytes i 0 == b) ≡ false) × (get_or bytes i 0 ≢ b) → Goal
    other e = rw (is_in-more bytes i b inside, e.0, or-none (is_in (take i bytes) b)) (seen b)

-- a byte that is not there yet
pub seen_first : (eight bytes : List ℕ) (count i : ℕ) → i < length bytes → count < length eight
    → ((b : ℕ) → is_in (take count eight) b ≡ is_in (take i bytes) b) →
    (b : ℕ) → is_in (take (count + 1) (slice_set eight count (get_or bytes i 0))) b ≡ is_in (take (i + 1) bytes) b
seen_first eight bytes count i inside room seen b =
    ap (λ (xs : List ℕ). is_in xs b) (take_more_set eight count (get_or bytes i 0) room)
    ∙ list_any-append (λ member. member == b) (take count eight) (get_or bytes i 0 ∷ [])
    ∙ ap (λ t. is_in (take count eight) b || t) (or-none (get_or bytes i 0 == b))
    ∙ ap (λ t. t || (get_or bytes i 0 == b)) (seen b) ∙ sym (is_in-more bytes i b inside)

pub rest_first : (eight bytes : List ℕ) (count y : ℕ) → ((k : ℕ) → count ≤ k → k < 8 → get_or eight k 0 ≡ get_or bytes 0 0) →
    (k : ℕ) → count + 1 ≤ k → k < 8 → get_or (slice_set eight count y) k 0 ≡ get_or bytes 0 0
rest_first eight bytes count y rest k low high = get_or-set_other eight count k y 0 (omega arith) ∙ rest k (omega arith) high

-- a member that is repeated says nothing new
repeated : (set ys : List ℕ) (member b : ℕ) → is_in set member ≡ true → ((k : ℕ) → k < length ys → get_or ys k 0 ≡ member)
    → (is_in set b || is_in ys b) ≡ is_in set b
repeated set [] member b there same = or-none (is_in set b)
repeated set (y ∷ ys) member b there same = go (repeated set ys member b there (λ k inside. same (suc k) (omega (arith, inside))))
  where
    Goal : Type 0
    Goal = (is_in set b || ((y == b) || is_in ys b)) ≡ is_in set b

    here : ((y == b) ≡ true) × (y ≡ b) → Goal
    here e =
        let is : is_in set b ≡ true = ap (is_in set) (sym e.1 ∙ same 0 (omega arith)) ∙ there in
        rw is refl

    go : (is_in set b || is_in ys b) ≡ is_in set b → Goal
    go behind = ⊎_elim here (λ other. rw other.0 behind) (eqb_tells y b)

-- the eight bytes, once all are seen
pub eight_seen : (eight bytes : List ℕ) (count i : ℕ) → length eight ≡ 8 → 0 < length bytes → length bytes ≤ i
    → ((b : ℕ) → is_in (take count eight) b ≡ is_in (take i bytes) b) →
    ((k : ℕ) → count ≤ k → k < 8 → get_or eight k 0 ≡ get_or bytes 0 0) → (b : ℕ) → is_in eight b ≡ is_in bytes b
eight_seen eight bytes count i long some all seen rest b =
    let whole = take_all i bytes all in
    let first : is_in bytes (get_or bytes 0 0) ≡ true =
    list_any_at (λ member. member == get_or bytes 0 0) bytes 0 0 some (eq-eqb (get_or bytes 0 0) (get_or bytes 0 0) refl) in
    let front : is_in (take count eight) b ≡ is_in bytes b = seen b ∙ ap (λ (xs : List ℕ). is_in xs b) whole in
    ap (λ (xs : List ℕ). is_in xs b) (sym (take-append-drop count eight)) ∙ list_any-append (λ member. member == b) (take count eight) (drop count eight)
    ∙ ap (λ t. t || is_in (drop count eight) b) front
    ∙ repeated bytes (drop count eight) (get_or bytes 0 0) b first
    (λ k inside. get_or-drop count eight k 0 ∙ rest (count + k) (omega arith) (omega (arith, inside, length-drop count eight, long)))

-- no byte is 256 or more
no_such_byte : (bytes : List ℕ) (b : ℕ) → 256 ≤ b → ((k : ℕ) → Fits w8 (get_or bytes k 0)) → is_in bytes b ≡ false
no_such_byte [] b large fits = refl
no_such_byte (x ∷ bytes) b large fits =
    let small : x < 256 = (fits 0).fits in
    let apart : (x == b) ≡ false = ne_eqb x b (λ e. omega arith) in
    rw apart (no_such_byte bytes b large (λ k. fits (suc k)))

-- a set as a list of eight and as a mask
pub eight-set_of : (eight bytes : List ℕ) → ((k : ℕ) → Fits w8 (get_or bytes k 0)) → ((b : ℕ) → is_in eight b ≡ is_in bytes b) → (b : ℕ)
    → is_in eight b ≡ is_in (set_of bytes) b
eight-set_of eight bytes fits same b =
    ⊎_elim (λ below. same b ∙ sym (is_in-set_of bytes b below)) (λ large. same b ∙ no_such_byte bytes b large fits
    ∙ sym (past_set bytes b large)) (below_or_not b 256)

pub some_bytes : (bytes : List ℕ) → (length bytes == 0) ≡ false → 0 < length bytes
some_bytes [] e = absurd (let zero = eq-eqb 0 0 refl in cc)
some_bytes (x ∷ bytes) e = omega arith

pub eight-members : (o : Option (List ℕ)) (words bytes : List ℕ) → ((k : ℕ) → Fits w8 (get_or bytes k 0)) → members words ≡ set_of bytes
    → IfSome o (λ eight. (b : ℕ) → is_in eight b ≡ is_in bytes b) →
    IfSome o (λ eight. (b : ℕ) → is_in eight b ≡ is_in (members words) b)
eight-members None words bytes fits same e = tt
eight-members (Some eight) words bytes fits same e = λ b. eight-set_of eight bytes fits e b ∙ ap (λ (xs : List ℕ). is_in xs b) (sym same)
