-- What a reader that goes from left to right sees: where an element may start, which operator follows an operand,
-- and where a level ends. The grammar doesn't need these; the private clauses of the reader do.
use Rattle.std.specs.Prelude.{◌≡◌, ℕ, ◌+◌, ◌<◌, ◌⊎◌, List, true, false, ◌&&◌, ◌==◌, Option, Some, None, if◌then◌else◌}
use Rattle.sno_text.specs.declared.bytes.Class.TheVariants.{Blank, UnarySign}
use Rattle.sno_text.specs.declared.node.Operator.{Operator}
use Rattle.sno_text.specs.declared.node.Operator.TheVariants.{Alternate, Concatenate, Add, Subtract, Divide, Multiply}
use Rattle.sno_text.specs.declared.node.Operator.TheVariants.{Power, Conditional, Immediate}
use Rattle.sno_text.specs.Bytes.{byte, is_blank, is_first, is_opening, is_closing, can_start, IsRun, IsWholeRun}
use Rattle.sno_text.specs.Trees.{Tree}
use Rattle.sno_text.specs.Grammar.{level_of, Nonterminal, Level, Rest, Arguments, More, Reads}

-- unary signs, and then what a primary may begin with
pub record Starts (s : List ℕ) (i : ℕ) : Type 0 where
  pub at : ℕ
  pub signs : IsRun UnarySign s i at
  pub first : is_first (byte s at) ≡ true

unfoldable pub single : ℕ → Option Operator
single b =
    if b == 124 then Some Alternate else
    if b == 43 then Some Add else
    if b == 45 then Some Subtract else
    if b == 47 then Some Divide else
    if b == 42 then Some Multiply else
    if b == 46 then Some Conditional else
    if b == 36 then Some Immediate else None

-- the sign between blanks that begins with the byte a, b and c being the next two
unfoldable pub sign_of : ℕ → ℕ → ℕ → Option Operator
sign_of a b c =
    if is_blank b then single a else
    if (a == 42) && (b == 42) && is_blank c then Some Power else None

abbrev pub sign_at : List ℕ → ℕ → Option Operator
sign_at s k = sign_of (byte s k) (byte s (k + 1)) (byte s (k + 2))

abbrev pub width : Operator → ℕ
width Power = 2
width o = 1

-- after blanks up to k: the operator and the place of the operand behind it
abbrev pub Lands : List ℕ → ℕ → Option Operator → Operator → ℕ → Type 0
Lands s k (Some p) o l = (o ≡ p) × IsWholeRun Blank s (k + width p) l
Lands s k None o l = (o ≡ Concatenate) × (l ≡ k) × (can_start (byte s k) ≡ true)

pub record Links (s : List ℕ) (o : Operator) (i l : ℕ) : Type 0 where
  pub at : ℕ
  pub some : i < at
  pub blanks : IsWholeRun Blank s i at
  pub lands : Lands s at (sign_at s at) o l

-- No operator follows.
pub record NoLink (s : List ℕ) (i : ℕ) : Type 0 where
  pub none : (o : Operator) (l : ℕ) → Links s o i l → ⊥

-- No operator of this level or a tighter one follows, and no opening bracket.
pub record Stops (s : List ℕ) (level j : ℕ) : Type 0 where
  pub looser : (o : Operator) (l : ℕ) → Links s o j l → level_of o < level
  pub no_bracket : is_opening (byte s j) ≡ false

-- A closing bracket follows, or for one argument also a comma.
abbrev pub Shuts : List ℕ → ℕ → Type 0
Shuts s j = is_closing (byte s j) ≡ true

abbrev pub Closes : List ℕ → ℕ → Type 0
Closes s j = (byte s j ≡ 44) ⊎ Shuts s j

-- From i to j stands a part with this tree, and no other from i ends where the level stops.
pub record Finds (s : List ℕ) (p : Nonterminal) (stops : ℕ → Type 0) (i j : ℕ) (t : Tree) : Type 0 where
  pub reads : Reads s p i j t
  pub only : (k : ℕ) (u : Tree) → Reads s p i k u → stops k → (k ≡ j) × (u ≡ t)

-- Nothing from i is such a part that ends where the level stops.
pub record Refuses (s : List ℕ) (p : Nonterminal) (stops : ℕ → Type 0) (i : ℕ) : Type 0 where
  pub none : (k : ℕ) (u : Tree) → Reads s p i k u → stops k → ⊥

-- From i to j stand the operands so far, with the tree u.
pub record Grows (s : List ℕ) (level i j : ℕ) (u : Tree) : Type 0 where
  pub reads : (k : ℕ) (t : Tree) → Reads s (Rest level u) j k t → Reads s (Level level) i k t
  pub only : (k : ℕ) (t : Tree) → Reads s (Level level) i k t → Stops s level k → Reads s (Rest level u) j k t

-- From i to j stand the arguments so far, with the tree u.
pub record Lists (s : List ℕ) (i j : ℕ) (u : Tree) : Type 0 where
  pub reads : (k : ℕ) (t : Tree) → Reads s (More u) j k t → Reads s Arguments i k t
  pub only : (k : ℕ) (t : Tree) → Reads s Arguments i k t → Shuts s k → Reads s (More u) j k t
