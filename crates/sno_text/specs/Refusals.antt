-- Which refusal a text gets.
use Rattle.std.specs.Prelude.{◌≡◌, ℕ, ◌+◌, ◌-◌, ◌<◌, ◌⊎◌, ◌==◌, ◌||◌, ◌&&◌, not, nat_lt, Bool, true, false, List, []}
use Rattle.std.specs.Prelude.{◌∷◌, length, if◌then◌else◌}
use Rattle.sno_text.specs.Bytes.{is_opening, is_closing}
use Rattle.sno_text.specs.declared.error.ReadError.{ReadError}
use Rattle.sno_text.specs.declared.error.ReadError.TheVariants.{Syntax, DuplicateLabel, NoEnd, TooLarge, NoMemory}
use Rattle.sno_text.specs.Trees.{Tree, fits}
use Rattle.sno_text.specs.Grammar.{IsExpression}

-- the quote of the literal that is open after a byte, 0 where none is; it ends with its line
abbrev pub quote_step : ℕ → ℕ → ℕ
quote_step quote b =
    if b == 10 then 0 else
    if quote == 0 then (if (b == 39) || (b == 34) then b else 0) else
    if b == quote then 0 else quote

-- A literal is open at the end of a line, the last line's end included.
abbrev pub has_open_literal : ℕ → List ℕ → Bool
has_open_literal quote [] = not (quote == 0)
has_open_literal quote (b ∷ bs) = ((b == 10) && not (quote == 0)) || has_open_literal (quote_step quote b) bs

abbrev pub HasOpenLiteral : List ℕ → Type 0
HasOpenLiteral s = has_open_literal 0 s ≡ true

-- the running count of brackets: each outside literals raises or lowers it, not below 0
abbrev pub depth_step : ℕ → ℕ → ℕ → ℕ
depth_step quote depth b = if not (quote == 0) then depth else if is_opening b then depth + 1 else if is_closing b
    then depth - 1 else depth

-- it passes 40
abbrev pub is_deep : ℕ → ℕ → List ℕ → Bool
is_deep quote depth [] = false
is_deep quote depth (b ∷ bs) =
    nat_lt 40 (depth_step quote depth b) || is_deep (quote_step quote b) (depth_step quote depth b) bs

abbrev pub IsTooLarge : List ℕ → Type 0
IsTooLarge s = (8000 < length s) ⊎ (is_deep 0 0 s ≡ true)

abbrev pub IsNoExpression : List ℕ → Type 0
IsNoExpression s = (t : Tree) → IsExpression s t → ⊥

-- The refusals by code, in their order: each but the first comes where those before it don't.
abbrev pub IsSyntax : ℕ → List ℕ → Type 0
IsSyntax code s =
    ((code ≡ 1) × HasOpenLiteral s)
    ⊎ (((code ≡ 3) × (HasOpenLiteral s → ⊥) × (IsTooLarge s → ⊥) × IsNoExpression s)
    ⊎ ((code ≡ 2) × (HasOpenLiteral s → ⊥) × (IsTooLarge s → ⊥) × (t : Tree) × IsExpression s t × (fits t ≡ false)))

abbrev pub IsRefused : List ℕ → ReadError → Type 0
IsRefused s (Syntax line code) = (line ≡ 1) × IsSyntax code s
IsRefused s (TooLarge line) = (line ≡ 1) × (HasOpenLiteral s → ⊥) × IsTooLarge s
IsRefused s (DuplicateLabel line) = ⊥
IsRefused s NoEnd = ⊥
IsRefused s NoMemory = (HasOpenLiteral s → ⊥) × (IsTooLarge s → ⊥)

-- The text is accepted, and this is its tree: the only one.
pub record IsAccepted (s : List ℕ) (t : Tree) : Type 0 where
  pub closed : HasOpenLiteral s → ⊥
  pub small : IsTooLarge s → ⊥
  pub reads : IsExpression s t
  pub only : (u : Tree) → IsExpression s u → u ≡ t
  pub fit : fits t ≡ true
