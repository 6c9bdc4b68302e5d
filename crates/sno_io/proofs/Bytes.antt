-- Laws of bytes that are written and read in parts.
use Rattle.std.proofs.Common.{◌≡◌, ℕ, ◌+◌, ◌-◌, List, [], ◌++◌, length, take, drop, ap, sym, ◌∙◌, append_assoc, arith, Option, None, Some}
use Rattle.std.proofs.Math.Seq.{take-add}
use Rattle.std.proofs.lemmas.List.{take-append-drop, length-drop, take_all}
use Rattle.std.specs.Io.KnownBytes.{Appends, Consumes, Keeps}
use Rattle.sno_io.specs.Devices.{Begins}

pub appends_then : (a b c : Option (List ℕ)) (xs ys : List ℕ) → Appends a b xs → Appends b c ys → Appends a c (xs ++ ys)
appends_then None b c xs ys h k = tt
appends_then (Some a) None c xs ys h k = absurd h
appends_then (Some a) (Some b) None xs ys h k = absurd k
appends_then (Some a) (Some b) (Some c) xs ys h k = k ∙ (ap (λ zs. zs ++ ys) h ∙ append_assoc a xs ys)

pub appends_keeps : (a b c : Option (List ℕ)) (xs : List ℕ) → Appends a b xs → Keeps b c → Appends a c xs
appends_keeps None b c xs h k = tt
appends_keeps (Some a) None c xs h k = absurd h
appends_keeps (Some a) (Some b) None xs h k = absurd k
appends_keeps (Some a) (Some b) (Some c) xs h k = k ∙ h

pub begins_take : (n : ℕ) (xs : List ℕ) → Begins (take n xs) xs
begins_take n xs = (drop n xs, take-append-drop n xs)

-- the first n of what stands from a place on are the next n
pub part_more : (at n : ℕ) (bytes : List ℕ) → take (at + n) bytes ≡ take at bytes ++ take n (take (length bytes - at) (drop at bytes))
part_more at n bytes =
    take-add at n bytes ∙ ap (λ zs. take at bytes ++ take n zs) (sym (take_all (length bytes - at) (drop at bytes) (omega (arith, length-drop at bytes))))

pub length-part : (at : ℕ) (bytes : List ℕ) → length (take (length bytes - at) (drop at bytes)) ≡ length bytes - at
length-part at bytes = ap length (take_all (length bytes - at) (drop at bytes) (omega (arith, length-drop at bytes))) ∙ length-drop at bytes

pub consumes_then : (a b c : Option (List ℕ)) (xs ys : List ℕ) → Consumes a b xs → Consumes b c ys → Consumes a c (xs ++ ys)
consumes_then None b c xs ys h k = tt
consumes_then (Some a) None c xs ys h k = absurd h
consumes_then (Some a) (Some b) None xs ys h k = absurd k
consumes_then (Some a) (Some b) (Some c) xs ys h k = h ∙ (ap (λ zs. xs ++ zs) k ∙ sym (append_assoc xs ys c))

pub keeps_consumes : (a b : Option (List ℕ)) → Keeps a b → Consumes a b []
keeps_consumes None b h = tt
keeps_consumes (Some a) None h = absurd h
keeps_consumes (Some a) (Some b) h = sym h
