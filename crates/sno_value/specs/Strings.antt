-- What the functions on strings give.
use Rattle.std.specs.Prelude.{ℕ, zero, suc, ◌*◌, ℤ, pos, negsuc, Bool, true, false, nat_lt, ◌==◌, List, codes, [], ◌∷◌}
use Rattle.std.specs.Prelude.{◌++◌, map, length, Option, Some, None, Result, Ok, Err, ◌&&◌, Vec, option_map}
use Rattle.std.specs.Prelude.{if◌then◌else◌}
use Rattle.std.specs.Global.{Global}
use Rattle.std.specs.List.{list_any, list_all}
use Rattle.sno_value.specs.declared.strings.TextError.{TextError}
use Rattle.sno_value.specs.declared.strings.TextError.TheVariants.{TooLong, NoMemory}

-- the text up to its last byte that is no space (32)
unfoldable pub trimmed : List ℕ → List ℕ
trimmed [] = []
trimmed (byte ∷ rest) = if list_all (λ b. b == 32) (byte ∷ rest) then [] else byte ∷ trimmed rest

-- n copies of a text, one after another
unfoldable pub copies : ℕ → List ℕ → List ℕ
copies zero text = []
copies (suc n) text = text ++ copies n text

-- no copies for a negative count, and none that have more than 1,000,000 bytes
unfoldable pub duplicate : List ℕ → ℤ → Result (Option (List ℕ)) TextError
duplicate text (pos n) = if nat_lt 1_000_000 (n * length text) then Err TooLong else Ok (Some (copies n text))
duplicate text (negsuc n) = Ok None

-- the byte of the second list at the last place where b stands in the first, and b itself where it stands nowhere
unfoldable pub replacement : List ℕ → List ℕ → ℕ → ℕ
replacement [] tos b = b
replacement (from ∷ froms) [] b = b
replacement (from ∷ froms) (to ∷ tos) b =
    if list_any (λ c. c == b) froms then replacement froms tos b else (if from == b then to else b)

-- there is something to replace, and a byte for each
abbrev pub can_replace : List ℕ → List ℕ → Bool
can_replace froms tos = nat_lt 0 (length froms) && length froms == length tos

-- the text with each byte replaced
unfoldable pub replaced : List ℕ → List ℕ → List ℕ → Option (List ℕ)
replaced text froms tos = if can_replace froms tos then Some (map (replacement froms tos) text) else None

-- x is after y in byte order: at the first difference it has the greater byte, or y is the beginning of it
unfoldable pub is_after : List ℕ → List ℕ → Bool
is_after [] ys = false
is_after (x ∷ xs) [] = true
is_after (x ∷ xs) (y ∷ ys) = if x == y then is_after xs ys else nat_lt y x

-- an answer, as the list of its bytes
abbrev pub items_of : Option (Vec ℕ Global) → Option (List ℕ)
items_of answer = option_map (λ v. v.items) answer

-- the error's text
abbrev pub message_of : TextError → List ℕ
message_of TooLong = codes "string too long"
message_of NoMemory = codes "no memory"
