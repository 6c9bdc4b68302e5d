-- The grammar of expressions, as a relation between a part of a text, from one place to another, and a tree.
use Rattle.std.specs.Prelude.{◌≡◌, ◌≢◌, ℕ, ◌+◌, ◌-◌, ◌*◌, ◌<◌, ◌≤◌, ◌⊎◌, List, [], ◌∷◌, true, ◌==◌, length, take, drop}
use Rattle.std.specs.Prelude.{if◌then◌else◌, Contains}
use Rattle.sno_text.specs.declared.bytes.Class.TheVariants.{Blank, NameByte, Digit}
use Rattle.sno_text.specs.declared.node.Operator.{Operator}
use Rattle.sno_text.specs.declared.node.Operator.TheVariants.{Alternate, Concatenate, Add, Subtract, Divide, Multiply}
use Rattle.sno_text.specs.declared.node.Operator.TheVariants.{Power, Conditional, Immediate}
use Rattle.sno_text.specs.Bytes.{byte, is_letter, is_unary, IsRun, IsWholeRun}
use Rattle.sno_text.specs.Trees.{unary_operator, Tree, Variable, Integer, Literal, Keyword, Unary, Binary, Call, Item}
use Rattle.sno_text.specs.Trees.{One, And}

-- The levels, loosest first: 0 expr, 1 cat, 2 sum, 3 quot, 4 prod, 5 power, 6 assign, and 7 element.
abbrev pub level_of : Operator → ℕ
level_of Alternate = 0
level_of Concatenate = 1
level_of Add = 2
level_of Subtract = 2
level_of Divide = 3
level_of Multiply = 4
level_of Power = 5
level_of Conditional = 6
level_of Immediate = 6

-- a gap: no byte or some blanks, "[b]"
abbrev pub IsGap : List ℕ → ℕ → ℕ → Type 0
IsGap s i j = IsRun Blank s i j

-- one or more blanks, "b"
pub record IsBlanks (s : List ℕ) (i j : ℕ) : Type 0 where
  pub some : i < j
  pub run : IsRun Blank s i j

-- the sign of an operator stands from i to j
abbrev pub IsSign : List ℕ → Operator → ℕ → ℕ → Type 0
IsSign s Alternate i j = (byte s i ≡ 124) × (j ≡ i + 1)
IsSign s Concatenate i j = j ≡ i
IsSign s Add i j = (byte s i ≡ 43) × (j ≡ i + 1)
IsSign s Subtract i j = (byte s i ≡ 45) × (j ≡ i + 1)
IsSign s Divide i j = (byte s i ≡ 47) × (j ≡ i + 1)
IsSign s Multiply i j = (byte s i ≡ 42) × (j ≡ i + 1)
IsSign s Power i j = (byte s i ≡ 42) × (byte s (i + 1) ≡ 42) × (j ≡ i + 2)
IsSign s Conditional i j = (byte s i ≡ 46) × (j ≡ i + 1)
IsSign s Immediate i j = (byte s i ≡ 36) × (j ≡ i + 1)

-- What stands from i to j between two operands: blanks, and but for concatenation a sign and blanks again.
abbrev pub Joins : List ℕ → Operator → ℕ → ℕ → Type 0
Joins s Concatenate i j = IsBlanks s i j
Joins s o i j = (k l : ℕ) × IsBlanks s i k × IsSign s o k l × IsBlanks s l j

-- A name is a letter and then letters, digits, '.' or '_', taken as long as it goes.
pub record IsName (s : List ℕ) (i j : ℕ) : Type 0 where
  pub letter : is_letter (byte s i) ≡ true
  pub rest : IsWholeRun NameByte s i j

-- An integer is a run of digits, taken as long as it goes.
pub record IsDigits (s : List ℕ) (i j : ℕ) : Type 0 where
  pub some : i < j
  pub digits : IsWholeRun Digit s i j

-- the number that digits stand for
abbrev pub decimal : ℕ → List ℕ → ℕ
decimal n [] = n
decimal n (d ∷ ds) = decimal (10 * n + (d - 48)) ds

-- A literal goes from a quote to the next same quote on the same line.
pub record IsLiteral (s : List ℕ) (i j : ℕ) : Type 0 where
  pub room : i + 2 ≤ j
  pub quote : (byte s i ≡ 39) ⊎ (byte s i ≡ 34)
  pub inside : (k : ℕ) → i < k → k + 1 < j → byte s k ≢ byte s i
  pub line : (k : ℕ) → i < k → k + 1 < j → byte s k ≢ 10
  pub closed : byte s (j - 1) ≡ byte s i

-- Rest L t is what follows an operand of level L once t has been read.
pub data Nonterminal : Type 0 where
  Level : ℕ → Nonterminal
  Rest : ℕ → Tree → Nonterminal
  Element : Nonterminal
  Primary : Nonterminal
  Arguments : Nonterminal
  More : Tree → Nonterminal
  Argument : Nonterminal

-- ( with ), < with >, [ with ]
abbrev pub IsPair : ℕ → ℕ → Type 0
IsPair a b = ((a ≡ 40) × (b ≡ 41)) ⊎ (((a ≡ 60) × (b ≡ 62)) ⊎ ((a ≡ 91) × (b ≡ 93)))

abbrev pub applied : ℕ → ℕ → ℕ → Tree → Tree
applied bracket from to t = if bracket == 40 then Call from to t else Item from to t

-- Reads s p i j t: the text s, from i to j, is a p, and t is its tree.
pub data Reads (s : List ℕ) : Nonterminal → ℕ → ℕ → Tree → Type 0 where
  -- expr = cat .. ; cat = sum .. ; .. ; assign = element ..
  chain : {l i m j : ℕ} {u t : Tree} → l < 7 → Reads s (Level (l + 1)) i m u → Reads s (Rest l u) m j t
      → Reads s (Level l) i j t
  operand : {l i j : ℕ} {t : Tree} → l ≡ 7 → Reads s Element i j t → Reads s (Level l) i j t
  -- nothing more
  done : {l i j : ℕ} {u t : Tree} → j ≡ i → t ≡ u → Reads s (Rest l u) i j t
  -- { b op b operand }, to the left
  left : {l i k m j : ℕ} {u v t : Tree} {o : Operator} → o ≢ Power → level_of o ≡ l → Joins s o i k
      → Reads s (Level (l + 1)) k m v → Reads s (Rest l (Binary o u v)) m j t → Reads s (Rest l u) i j t
  -- [ b "**" b power ], to the right
  right : {l i k j : ℕ} {u v t : Tree} → l ≡ 5 → Joins s Power i k → Reads s (Level l) k j v → t ≡ Binary Power u v
      → Reads s (Rest l u) i j t
  -- element = { sign } primary
  signed : {i j : ℕ} {u t : Tree} → is_unary (byte s i) ≡ true → Reads s Element (i + 1) j u
      → t ≡ Unary (unary_operator (byte s i)) u → Reads s Element i j t
  plain : {i j : ℕ} {t : Tree} → Reads s Primary i j t → Reads s Element i j t
  variable : {i j : ℕ} {t : Tree} → IsName s i j → t ≡ Variable i j → Reads s Primary i j t
  integer : {i j : ℕ} {t : Tree} → IsDigits s i j
      → t ≡ Integer (decimal 0 (take (j - i) (drop i s))) → Reads s Primary i j t
  literal : {i j : ℕ} {t : Tree} → IsLiteral s i j → t ≡ Literal (i + 1) (j - 1) → Reads s Primary i j t
  keyword : {i j : ℕ} {t : Tree} → byte s i ≡ 38 → IsName s (i + 1) j → t ≡ Keyword (i + 1) j → Reads s Primary i j t
  group : {i k m l j : ℕ} {t : Tree} → byte s i ≡ 40 → IsGap s (i + 1) k → Reads s (Level 0) k m t → IsGap s m l
      → byte s l ≡ 41 → j ≡ l + 1 → Reads s Primary i j t
  apply : {i k m j : ℕ} {u t : Tree} → IsName s i k → IsPair (byte s k) (byte s m) → Reads s Arguments (k + 1) m u
      → j ≡ m + 1 → t ≡ applied (byte s k) i k u → Reads s Primary i j t
  -- args = arg { "," arg }
  arguments : {i m j : ℕ} {u t : Tree} → Reads s Argument i m u → Reads s (More (One u)) m j t → Reads s Arguments i j t
  last : {i j : ℕ} {u t : Tree} → j ≡ i → t ≡ u → Reads s (More u) i j t
  next : {i m j : ℕ} {u v t : Tree} → byte s i ≡ 44 → Reads s Argument (i + 1) m v
      → Reads s (More (And u v)) m j t → Reads s (More u) i j t
  -- arg = [b] [expr [b]], and an empty one is the null string
  empty : {i j : ℕ} {t : Tree} → IsGap s i j → t ≡ Literal j j → Reads s Argument i j t
  given : {i k m j : ℕ} {t : Tree} → IsGap s i k → Reads s (Level 0) k m t → IsGap s m j → Reads s Argument i j t

-- The whole text is an expression between gaps. It is one line: an LF stands for nothing here.
pub record IsExpression (s : List ℕ) (t : Tree) : Type 0 where
  pub one_line : Contains s 10 → ⊥
  pub from : ℕ
  pub to : ℕ
  pub before : IsGap s 0 from
  pub reads : Reads s (Level 0) from to t
  pub after : IsGap s to (length s)
