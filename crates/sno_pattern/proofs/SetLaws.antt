-- Sets of bytes.
use Rattle.std.proofs.Common.{◌≡◌, ◌≢◌, ℕ, zero, suc, ◌+◌, ◌*◌, ◌/◌, ◌%◌, ◌^◌, ◌<◌, ◌≤◌, ◌==◌, Bool, true, false, ◌||◌, cond, List, [], ◌∷◌, length, take}
use Rattle.std.proofs.Common.{get_or, filter, slice_index, slice_set, bit_or, refl, sym, ◌∙◌, ap, arith, ◌⊎◌, inl, inr, ⊎_elim, w64}
use Rattle.std.proofs.lemmas.Bool.{eq-eqb, ne_eqb, eqb-true}
use Rattle.std.proofs.lemmas.Bool.Decides.{eqb_tells}
use Rattle.std.proofs.lemmas.List.{get_or-set_same, get_or-set_other, take_more}
use Rattle.std.proofs.lemmas.List.Folds.{list_any-append}
use Rattle.std.proofs.lemmas.Nat.Bits.{bit_at-zero, bit_at_set_same, bit_at_set_other}
use Rattle.sno_pattern.specs.Ends.{is_in, count_from}
use Rattle.sno_pattern.specs.Sets.{set_of}
use Rattle.sno_pattern.specs.Masks.{has_bit, members}

-- two tests that agree on n numbers keep the same of them
filter-agree : (p q : ℕ → Bool) (c n : ℕ) → ((b : ℕ) → b < c + n → p b ≡ q b) → filter p (count_from c n) ≡ filter q (count_from c n)
filter-agree p q c zero h = refl
filter-agree p q c (suc n) h =
    let rest = filter-agree p q (c + 1) n (λ b below. h b (omega arith)) in
    let here : p c ≡ q c = h c (omega arith) in
    cc

-- a number before those that are counted is not among them
before-count : (p : ℕ → Bool) (c n b : ℕ) → b < c → is_in (filter p (count_from c n)) b ≡ false
before-count p c zero b h = refl
before-count p c (suc n) b h = go (p c) (before-count p (c + 1) n b (omega arith))
  where
    apart : (c == b) ≡ false
    apart = ne_eqb c b (λ e. omega arith)

    go : (t : Bool) → is_in (filter p (count_from (c + 1) n)) b ≡ false
        → is_in (cond t (c ∷ filter p (count_from (c + 1) n)) (filter p (count_from (c + 1) n))) b ≡ false
    go true e = rw (apart, e) refl
    go false e = e

pub here_or_behind : (c b : ℕ) → c ≤ b → (c ≡ b) ⊎ (c < b)
here_or_behind zero zero h = inl refl
here_or_behind zero (suc b) h = inr (omega arith)
here_or_behind (suc c) zero h = absurd (omega arith)
here_or_behind (suc c) (suc b) h = ⊎_elim (λ at. inl (ap suc at)) (λ behind. inr (omega arith)) (here_or_behind c b (omega arith))

pub is_in-filter : (p : ℕ → Bool) (c n b : ℕ) → c ≤ b → b < c + n → is_in (filter p (count_from c n)) b ≡ p b
is_in-filter p c zero b h k = absurd (omega arith)
is_in-filter p c (suc n) b h k =
    ⊎_elim (λ at. rw (← at) (here (p c))) (λ behind. later behind (p c) (is_in-filter p (c + 1) n b (omega arith) (omega arith))) (here_or_behind c b h)
  where
    rest : List ℕ
    rest = filter p (count_from (c + 1) n)

    here : (t : Bool) → is_in (cond t (c ∷ rest) rest) c ≡ t
    here true = let same : (c == c) ≡ true = eq-eqb c c refl in rw same refl
    here false = before-count p (c + 1) n c (omega arith)

    later : c < b → (t : Bool) → is_in rest b ≡ p b → is_in (cond t (c ∷ rest) rest) b ≡ p b
    later behind true e = let apart : (c == b) ≡ false = ne_eqb c b (λ e. omega arith) in rw apart e
    later behind false e = e

-- a number behind those that are counted is not among them
pub behind-count : (p : ℕ → Bool) (c n b : ℕ) → c + n ≤ b → is_in (filter p (count_from c n)) b ≡ false
behind-count p c zero b h = refl
behind-count p c (suc n) b h = go (p c) (behind-count p (c + 1) n b (omega arith))
  where
    apart : (c == b) ≡ false
    apart = ne_eqb c b (λ e. omega arith)

    go : (t : Bool) → is_in (filter p (count_from (c + 1) n)) b ≡ false
        → is_in (cond t (c ∷ filter p (count_from (c + 1) n)) (filter p (count_from (c + 1) n))) b ≡ false
    go true e = rw (apart, e) refl
    go false e = e

pub past_set : (bytes : List ℕ) (b : ℕ) → 256 ≤ b → is_in (set_of bytes) b ≡ false
unfolding set_of
past_set bytes b h = behind-count (is_in bytes) 0 256 b (omega arith)

pub is_in-members : (words : List ℕ) (b : ℕ) → b < 256 → is_in (members words) b ≡ has_bit words b
unfolding members
is_in-members words b h = is_in-filter (has_bit words) 0 256 b (omega arith) (omega arith)

pub is_in-set_of : (bytes : List ℕ) (b : ℕ) → b < 256 → is_in (set_of bytes) b ≡ is_in bytes b
unfolding set_of
is_in-set_of bytes b h = is_in-filter (is_in bytes) 0 256 b (omega arith) (omega arith)

pub members-set_of : (words bytes : List ℕ) → ((b : ℕ) → b < 256 → has_bit words b ≡ is_in bytes b) → members words ≡ set_of bytes
unfolding members set_of
members-set_of words bytes h = filter-agree (has_bit words) (is_in bytes) 0 256 (λ b below. h b (omega arith))

abbrev no_words : List ℕ
no_words = 0 ∷ 0 ∷ 0 ∷ 0 ∷ []

zero-word : (i : ℕ) → get_or no_words i 0 ≡ 0
zero-word zero = refl
zero-word (suc zero) = refl
zero-word (suc (suc zero)) = refl
zero-word (suc (suc (suc zero))) = refl
zero-word (suc (suc (suc (suc i)))) = refl

-- no bit of a new mask is set
pub empty-has_bit : (b : ℕ) → b < 256 → has_bit (0 ∷ 0 ∷ 0 ∷ 0 ∷ []) b ≡ false
empty-has_bit b h = rw (zero-word (b / 64), bit_at-zero (b % 64)) refl

-- the mask with one more byte, as the code computes it
abbrev pub with_bit : List ℕ → ℕ → List ℕ
with_bit words byte = slice_set words (byte / 64) (bit_or (slice_index words (byte / 64)) (1 * 2 ^ (byte % 64) % 18446744073709551616))

pub has_bit-same : (words : List ℕ) (b : ℕ) → length words ≡ 4 → b < 256 → has_bit (with_bit words b) b ≡ true
has_bit-same words b four below =
    rw (get_or-set_same words (b / 64) (bit_or (slice_index words (b / 64)) (1 * 2 ^ (b % 64) % 18446744073709551616)) 0 (omega arith))
    (rw (bit_at_set_same w64 (slice_index words (b / 64)) (b % 64) (omega arith)) refl)

same_word : (words : List ℕ) (byte b w : ℕ) → w < length words → byte / 64 ≡ w → b / 64 ≡ w → byte ≢ b → has_bit (with_bit words byte) b ≡ has_bit words b
same_word words byte b w inside e f apart =
    rw (e, f)
    (rw (get_or-set_same words w (bit_or (slice_index words w) (1 * 2 ^ (byte % 64) % 18446744073709551616)) 0 inside)
    (rw (bit_at_set_other w64 (slice_index words w) (byte % 64) (omega arith) (b % 64) (omega arith)) refl))

other_word : (words : List ℕ) (byte b : ℕ) → b / 64 ≢ byte / 64 → has_bit (with_bit words byte) b ≡ has_bit words b
other_word words byte b apart =
    rw (get_or-set_other words (byte / 64) (b / 64) (bit_or (slice_index words (byte / 64)) (1 * 2 ^ (byte % 64) % 18446744073709551616)) 0 apart) refl

pub has_bit-other : (words : List ℕ) (byte b : ℕ) → length words ≡ 4 → b < 256 → byte ≢ b → has_bit (with_bit words byte) b ≡ has_bit words b
has_bit-other words byte b four below apart =
    ⊎_elim (λ same. same_word words byte b (b / 64) (omega arith) (sym (eqb-true (b / 64) (byte / 64) same.0)) refl apart)
    (λ other. other_word words byte b other.1) (eqb_tells (b / 64) (byte / 64))

pub or-right : (t : Bool) → (t || true) ≡ true
or-right true = refl
or-right false = refl

pub or-none : (t : Bool) → (t || false) ≡ t
or-none true = refl
or-none false = refl

pub is_in-more : (bytes : List ℕ) (i b : ℕ) → i < length bytes → is_in (take (i + 1) bytes) b ≡ (is_in (take i bytes) b || (get_or bytes i 0 == b))
is_in-more bytes i b inside =
    ap (λ (xs : List ℕ). is_in xs b) (take_more bytes i 0 inside) ∙ list_any-append (λ member. member == b) (take i bytes) (get_or bytes i 0 ∷ []) ∙
    ap (λ t. is_in (take i bytes) b || t) (or-none (get_or bytes i 0 == b))

-- a byte of the list sets its bit
pub set-has_bit : (words bytes : List ℕ) (i : ℕ) → length words ≡ 4 → i < length bytes → ((b : ℕ) → b < 256 → has_bit words b ≡ is_in (take i bytes) b) →
    (b : ℕ) → b < 256 → has_bit (with_bit words (get_or bytes i 0)) b ≡ is_in (take (i + 1) bytes) b
set-has_bit words bytes i four inside h b below = ⊎_elim here there (eqb_tells (get_or bytes i 0) b)
  where
    Goal : Type 0
    Goal = has_bit (with_bit words (get_or bytes i 0)) b ≡ is_in (take (i + 1) bytes) b

    here : ((get_or bytes i 0 == b) ≡ true) × (get_or bytes i 0 ≡ b) → Goal
    here e = rw (is_in-more bytes i b inside, e.0, e.1, or-right (is_in (take i bytes) b)) (has_bit-same words b four below)

    there : ((get_or bytes i 0 == b) ≡ false) × (get_or bytes i 0 ≢ b) → Goal
    there e = rw (is_in-more bytes i b inside, e.0, or-none (is_in (take i bytes) b)) (has_bit-other words (get_or bytes i 0) b four below e.1 ∙ h b below)
