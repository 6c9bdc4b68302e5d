-- Masks that bytes join.
use Rattle.std.proofs.Common.{◌≡◌, ℕ, zero, suc, ◌/◌, ◌%◌, ◌<◌, ◌≤◌, ◌≢◌, ◌==◌, true, false, ◌||◌, List, [], ◌∷◌, length, max, slice_index, bit_or, refl}
use Rattle.std.proofs.Common.{sym, ◌∙◌, ap, arith, ⊎_elim}
use Rattle.std.specs.Int.{bit_at}
use Rattle.std.proofs.lemmas.Bool.{ne_eqb}
use Rattle.std.proofs.lemmas.Bool.Decides.{eqb_tells}
use Rattle.std.proofs.lemmas.Nat.Bits.{bit_at_or, bit_at-lt}
use Rattle.sno_pattern.specs.Ends.{is_in}
use Rattle.sno_pattern.specs.Masks.{has_bit, members}
use Rattle.sno_pattern.proofs.PlaceLaws.{below_or_not}
use Rattle.sno_pattern.proofs.SetLaws.{behind-count, empty-has_bit, has_bit-same, has_bit-other, is_in-members, or-none, or-right, with_bit}

pub past_members : (words : List ℕ) (b : ℕ) → 256 ≤ b → is_in (members words) b ≡ false
unfolding members
past_members words b h = behind-count (has_bit words) 0 256 b (omega arith)

-- a new mask has no byte
pub none-joined : (b : ℕ) → is_in (members (0 ∷ 0 ∷ 0 ∷ 0 ∷ [])) b ≡ false
none-joined b =
    ⊎_elim (λ below. is_in-members (0 ∷ 0 ∷ 0 ∷ 0 ∷ []) b below ∙ empty-has_bit b below) (λ past. past_members (0 ∷ 0 ∷ 0 ∷ 0 ∷ []) b past)
    (below_or_not b 256)

-- one byte joins
pub byte-joined : (words : List ℕ) (byte b : ℕ) → length words ≡ 4 → byte < 256 → is_in (members (with_bit words byte)) b
    ≡ (is_in (members words) b || (byte == b))
byte-joined words byte b four small = ⊎_elim (λ below. ⊎_elim (here below) (there below) (eqb_tells byte b)) past (below_or_not b 256)
  where
    Goal : Type 0
    Goal = is_in (members (with_bit words byte)) b ≡ (is_in (members words) b || (byte == b))

    here : b < 256 → ((byte == b) ≡ true) × (byte ≡ b) → Goal
    here below e =
        is_in-members (with_bit words byte) b below ∙ ap (λ n. has_bit (with_bit words n) b) e.1 ∙ has_bit-same words b four below ∙
        sym (ap (λ t. is_in (members words) b || t) e.0 ∙ or-right (is_in (members words) b))

    there : b < 256 → ((byte == b) ≡ false) × (byte ≢ b) → Goal
    there below e =
        is_in-members (with_bit words byte) b below ∙ has_bit-other words byte b four below e.1 ∙ sym (is_in-members words b below) ∙
        sym (ap (λ t. is_in (members words) b || t) e.0 ∙ or-none (is_in (members words) b))

    past : 256 ≤ b → Goal
    past h =
        past_members (with_bit words byte) b h ∙
        sym (ap (λ t. t || (byte == b)) (past_members words b h) ∙ ne_eqb byte b (λ e. omega (arith, e, h, small)))

-- the mask with the bytes of another, as the code computes it
abbrev pub with_all : List ℕ → List ℕ → List ℕ
with_all words others =
    bit_or (slice_index words 0) (slice_index others 0) ∷ bit_or (slice_index words 1) (slice_index others 1) ∷
    bit_or (slice_index words 2) (slice_index others 2) ∷ bit_or (slice_index words 3) (slice_index others 3) ∷ []

word-joined : (words others : List ℕ) (i : ℕ) → i < 4 → slice_index (with_all words others) i ≡ bit_or (slice_index words i) (slice_index others i)
word-joined words others zero h = refl
word-joined words others (suc zero) h = refl
word-joined words others (suc (suc zero)) h = refl
word-joined words others (suc (suc (suc zero))) h = refl
word-joined words others (suc (suc (suc (suc i)))) h = absurd (omega arith)

either-bit : (x y : ℕ) → x < 2 → y < 2 → (max x y == 1) ≡ ((x == 1) || (y == 1))
either-bit zero zero h k = refl
either-bit zero (suc zero) h k = refl
either-bit zero (suc (suc y)) h k = absurd (omega arith)
either-bit (suc zero) zero h k = refl
either-bit (suc zero) (suc zero) h k = refl
either-bit (suc zero) (suc (suc y)) h k = absurd (omega arith)
either-bit (suc (suc x)) y h k = absurd (omega arith)

bit-joined : (words others : List ℕ) (b : ℕ) → b < 256 → has_bit (with_all words others) b ≡ (has_bit words b || has_bit others b)
bit-joined words others b below =
    let word = slice_index words (b / 64) in
    let other = slice_index others (b / 64) in
    ap (λ n. bit_at n (b % 64) == 1) (word-joined words others (b / 64) (omega arith)) ∙
    ap (λ n. n == 1) (bit_at_or word other (b % 64)) ∙
    either-bit (bit_at word (b % 64)) (bit_at other (b % 64)) (bit_at-lt word (b % 64)) (bit_at-lt other (b % 64))

-- the bytes of another mask join
pub all-joined : (words others : List ℕ) (b : ℕ) → is_in (members (with_all words others)) b ≡ (is_in (members words) b || is_in (members others) b)
all-joined words others b = ⊎_elim below past (below_or_not b 256)
  where
    Goal : Type 0
    Goal = is_in (members (with_all words others)) b ≡ (is_in (members words) b || is_in (members others) b)

    below : b < 256 → Goal
    below h =
        is_in-members (with_all words others) b h ∙ bit-joined words others b h ∙
        sym (ap (λ t. t || is_in (members others) b) (is_in-members words b h) ∙ ap (λ t. has_bit words b || t) (is_in-members others b h))

    past : 256 ≤ b → Goal
    past h =
        past_members (with_all words others) b h ∙
        sym (ap (λ t. t || is_in (members others) b) (past_members words b h) ∙ past_members others b h)
