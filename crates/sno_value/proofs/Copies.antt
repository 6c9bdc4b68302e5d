-- Copies of a text, as many more as there are, or fewer.
use Rattle.std.proofs.Common.{◌≡◌, ℕ, zero, suc, ◌+◌, ◌-◌, ◌*◌, ℤ, pos, negsuc, ◌≤◌, ◌≤ℤ◌, unsigned_abs, List, [], ◌∷◌, ◌++◌, length, refl, sym, ◌∙◌, ap, ap₂, set, ◌<◌, false}
use Rattle.std.proofs.Common.{append_assoc}
use Rattle.std.proofs.Common.{arith, nat_lt, Ok, Err, Some, if◌then◌else◌, slice_range, take, replicate, get_or}
use Rattle.std.proofs.Math.Nat.{suc-add, sub-zero, suc-mul, zero-add}
use Rattle.std.proofs.lemmas.Grind.{common_steps}
use Rattle.std.proofs.Math.Seq.{take-append_seam, take-length}
use Rattle.std.proofs.lemmas.List.{append-nil, length-append, take-replicate, take_more, take_more_set, get_or-take, get_or_append_left, get_or-append_right}
use Rattle.sno_value.specs.Strings.{copies, duplicate}
use Rattle.sno_value.specs.declared.strings.TextError.TheVariants.{TooLong}

copies-nil : (n : ℕ) → copies n [] ≡ []
unfolding copies
copies-nil zero = refl
copies-nil (suc n) = copies-nil n

pub copies_null : (n : ℕ) (text : List ℕ) → n * length text ≡ 0 → [] ≡ copies n text
unfolding copies
copies_null zero text h = refl
copies_null (suc n) [] h = sym (copies-nil n)
copies_null (suc n) (b ∷ text) h = absurd (grind (arith, common_steps))

pub copies_one : (text : List ℕ) → text ≡ copies 1 text
unfolding copies
copies_one text = sym (append-nil text)

replicate-copies : (n byte : ℕ) → replicate n byte ≡ copies n (byte ∷ [])
unfolding copies
replicate-copies zero byte = refl
replicate-copies (suc n) byte = ap (λ xs. byte ∷ xs) (replicate-copies n byte)

pub length-copies : (n : ℕ) (text : List ℕ) → length (copies n text) ≡ n * length text
unfolding copies
length-copies zero text = omega arith
length-copies (suc n) text = omega (arith, length-append text (copies n text), length-copies n text, suc-mul n (length text))

pub copies-plus : (m n : ℕ) (text : List ℕ) → copies (m + n) text ≡ copies m text ++ copies n text
unfolding copies
copies-plus zero n text = ap (λ k. copies k text) (zero-add n)
copies-plus (suc m) n text =
    ap (λ k. copies k text) (suc-add m n)
    ∙ ap (λ r. text ++ r) (copies-plus m n text)
    ∙ sym (append_assoc text (copies m text) (copies n text))

-- the first n of m copies
pub first_copies : (m n : ℕ) (text : List ℕ) → n ≤ m → take (n * length text) (copies m text) ≡ copies n text
first_copies m n text h =
    let parts : m ≡ n + (m - n) = omega arith in
    ap (λ k. take (n * length text) (copies k text)) parts
    ∙ ap (take (n * length text)) (copies-plus n (m - n) text)
    ∙ ap (λ k. take k (copies n text ++ copies (m - n) text)) (sym (length-copies n text))
    ∙ take-append_seam (copies n text) (copies (m - n) text)

-- so many more copies behind those that were made, taken from their front
pub copies_more : (m n : ℕ) (text made : List ℕ) → n ≤ m → made ≡ copies m text
    → made ++ slice_range made 0 (n * length text) ≡ copies (m + n) text
copies_more m n text made h e =
    ap (λ xs. xs ++ slice_range xs 0 (n * length text)) e
    ∙ ap (λ k. copies m text ++ take k (copies m text)) (sub-zero (n * length text))
    ∙ ap (λ xs. copies m text ++ xs) (first_copies m n text h)
    ∙ sym (copies-plus m n text)

-- copies of a text of one byte, as the first ones of a row of it
pub copies_byte : (n most : ℕ) (text : List ℕ) → n ≤ most → length text ≡ 1 → take n (replicate most (get_or text 0 0)) ≡ copies n text
copies_byte n most [] h one = absurd (omega arith)
copies_byte n most (b ∷ c ∷ text) h one = absurd (omega arith)
copies_byte n most (b ∷ []) h one = take-replicate n most b h ∙ replicate-copies n b

-- copies begin with the text
pub copies_begin : (n : ℕ) (text : List ℕ) → 1 ≤ n → take (length text) (copies n text) ≡ text
unfolding copies
copies_begin zero text h = absurd (omega arith)
copies_begin (suc n) text h = take-append_seam text (copies n text)

-- each byte of copies is that which stands a text's length before it
copies-shift : (n k : ℕ) (text : List ℕ) → k < n * length text → length text ≤ k
    → get_or (copies n text) (k - length text) 0 ≡ get_or (copies n text) k 0
unfolding copies
copies-shift zero k text h far = absurd (omega (arith, h))
copies-shift (suc n) k text h far =
    let fewer : k - length text < length (copies n text) = omega (arith, h, far, suc-mul n (length text), length-copies n text) in
    let next : suc n ≡ n + 1 = omega arith in
    ap (λ m. get_or (copies m text) (k - length text) 0) next
    ∙ ap (λ xs. get_or xs (k - length text) 0) (copies-plus n 1 text)
    ∙ get_or_append_left (copies n text) (copies 1 text) 0 (k - length text) fewer
    ∙ sym (get_or-append_right text (copies n text) (length text) k 0 refl far)

-- one more byte of them, which is taken from those that are there
pub copies_byte_more : (n k y : ℕ) (text bytes : List ℕ) → k < n * length text → length text ≤ k → k < length bytes
    → take k bytes ≡ take k (copies n text) → y ≡ get_or bytes (k - length text) 0
    → take (k + 1) (set bytes k y) ≡ take (k + 1) (copies n text)
copies_byte_more n k y [] bytes h far room is to = absurd (omega arith)
copies_byte_more n k y (b ∷ rest) bytes h far room is to =
    let text : List ℕ = b ∷ rest in
    let before : k - length text < k = omega arith in
    let within : k < length (copies n text) = omega (arith, h, length-copies n text) in
    let same = sym (get_or-take k bytes (k - length text) 0 before)
    ∙ ap (λ xs. get_or xs (k - length text) 0) is
    ∙ get_or-take k (copies n text) (k - length text) 0 before
    ∙ copies-shift n k text h far in
    take_more_set bytes k y room
    ∙ ap₂ (λ xs b. xs ++ b ∷ []) is (to ∙ same)
    ∙ sym (take_more (copies n text) k 0 within)

-- all of them
pub copies_whole : (n k : ℕ) (text : List ℕ) → k ≡ n * length text → take k (copies n text) ≡ copies n text
copies_whole n k text whole =
    ap (λ i. take i (copies n text)) (whole ∙ sym (length-copies n text)) ∙ take-length (copies n text)

pub ruleset copying = (copies_one, copies_null)

pub duplicate_at : (text : List ℕ) (z : ℤ) → pos 0 ≤ℤ z
    → duplicate text z ≡ (if nat_lt 1_000_000 (unsigned_abs z * length text) then Err TooLong else Ok (Some (copies (unsigned_abs z) text)))
unfolding duplicate
duplicate_at text (pos n) h = refl
duplicate_at text (negsuc n) h = absurd h.le

-- few copies
pub duplicate_few : (text : List ℕ) (z : ℤ) → pos 0 ≤ℤ z → unsigned_abs z * length text ≤ 22
    → Ok (Some (copies (unsigned_abs z) text)) ≡ duplicate text z
duplicate_few text z h few =
    let small : nat_lt 1_000_000 (unsigned_abs z * length text) ≡ false = grind (arith, common_steps) in
    sym (duplicate_at text z h ∙ ap (λ many. if many then Err TooLong else Ok (Some (copies (unsigned_abs z) text))) small)
