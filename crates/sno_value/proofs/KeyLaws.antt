-- What a key stands for that has one letter more.
use Rattle.std.specs.Prelude.{◌≡◌, ℕ, suc, ◌+◌, ◌*◌, ◌/◌, ◌%◌, ◌≤◌, ◌<◌, nat_lt, ◌∷◌}
use Rattle.std.proofs.Common.{ap, ◌∙◌}
use Rattle.std.proofs.lemmas.Bool.{le-ltb}
use Rattle.std.proofs.lemmas.Nat.{div-mul-add, mod-mul-add}
use Rattle.sno_value.specs.Keys.{letter, letters}

pub longer : (key digit count : ℕ) → 2 ≤ digit → digit < 66
    → letters (nat_lt ((key * 66 + digit) % 66) 2) (suc count) (key * 66 + digit) ≡ letter digit ∷ letters (nat_lt (key % 66) 2) count key
longer key digit count least most =
    let last = mod-mul-add key 66 digit most in
    let others = div-mul-add key 66 digit most in
    ap (λ n. letters (nat_lt n 2) (suc count) (key * 66 + digit)) last
    ∙ ap (λ b. letters b (suc count) (key * 66 + digit)) (le-ltb digit 2 least)
    ∙ ap (λ n. letter n ∷ letters (nat_lt ((key * 66 + digit) / 66 % 66) 2) count ((key * 66 + digit) / 66)) last
    ∙ ap (λ n. letter digit ∷ letters (nat_lt (n % 66) 2) count n) others
